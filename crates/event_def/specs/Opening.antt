-- The book before its first event.
use Rattle.std.specs.Prelude.{◌≡◌, ◌⊎◌, ◌<◌, ◌∷◌, ℕ, false, List, [], Some, None}
use Rattle.std.specs.List.{enumerate_from}
use Rattle.guest_image.specs.declared.image.ImageTask.{ImageTask}
use Rattle.guest_image.specs.declared.image.Kind.{Kind}
use Rattle.guest_image.specs.declared.image.Kind.TheVariants.{Unordered, Ordered}
use Rattle.guest_image.specs.ImageValue.{ImageValue}
use Rattle.place_policy.specs.Policy.{Policy}
use Rattle.place_policy.specs.Serving.{first_placed}
use Rattle.task_desc.specs.Calls.{domain_ts}
use Rattle.trace_tap.specs.TapValue.{TapValue}
use Rattle.spec_state.specs.declared.settings.Settings.{Settings}
use Rattle.spec_state.specs.declared.task.Creator.TheVariants.{Committed}
use Rattle.spec_state.specs.View.{View, task_at, queued_last, ChangesTask}
use Rattle.spec_state.specs.Tasks.{Descriptor, idle_task}
use Rattle.spec_state.specs.Opening.{IsEmptyView}
use Rattle.spec_state.specs.Room.{QueueHasRoom, IsFull, Coalesces}
use Rattle.event_def.specs.Book.{BookView, picked_tile}

-- the bit of the root domain's kind
abbrev pub root_kinds : Kind → ℕ
root_kinds Unordered = 0
root_kinds Ordered = 1

-- the descriptor of an initial task, whose hint is its place
abbrev pub image_descriptor : Kind → ℕ → ImageTask → Descriptor
image_descriptor kind index task = record {
  entry = task.entry;
  args = task.args;
  hint = index;
  ts = domain_ts kind task.ts;
  domain = [];
  kinds = root_kinds kind;
}

-- an initial task is placed: the serving placer picks its tile, as for a child; the tile coalesces first where its task
-- queue is full; the task, idle and made by the image, is the last one there, and this is reported to that placer
pub record PlacesImageTask (kind : Kind) (index : ℕ) (task : ImageTask) (old new : BookView) : Type 0 where
  pub inside : picked_tile old index < old.view.settings.tiles
  pub mid : View
  pub room : (QueueHasRoom old.view (picked_tile old index) × (mid ≡ old.view))
      ⊎ (IsFull old.view (picked_tile old index) × Coalesces (picked_tile old index) old.view mid)
  pub id : ℕ
  pub vacant : task_at mid id ≡ None
  pub changes : ChangesTask mid new.view id
      (Some (idle_task mid.version (image_descriptor kind index task) (Committed 0 index) (picked_tile old index)))
  pub queues : new.view.queues ≡ queued_last mid (picked_tile old index) id
  pub frame : new.view ≡ record mid { tasks = new.view.tasks; queues = new.view.queues }
  pub told : new.placers ≡ first_placed old.placers (picked_tile old index)
  pub same : new ≡ record old { view = new.view; placers = new.placers }

-- the image's tasks, each with its place, are placed one after another
abbrev pub PlacesAll : Kind → List (ℕ × ImageTask) → BookView → BookView → Type 0
PlacesAll kind [] old new = old ≡ new
PlacesAll kind (e ∷ es) old new = (mid : BookView) × PlacesImageTask kind e.0 e.1 old mid × PlacesAll kind es mid new

-- the book of this view before its first event
abbrev pub opening_book : View → List Policy → List TapValue → BookView
opening_book view placers taps = record { view = view; placers = placers; taps = taps; steps = 0; stopped = false }

-- the opening: from the view without a task the image's tasks are placed
pub record IsOpening (image : ImageValue) (settings : Settings) (placers : List Policy) (taps : List TapValue)
    (book : BookView) : Type 0 where
  pub empty : View
  pub is_empty : IsEmptyView image settings empty
  pub placed : PlacesAll image.kind (enumerate_from 0 image.tasks) (opening_book empty placers taps) book
