-- Placements change tasks, queues and blocks alone.
use Rattle.std.specs.Prelude.{replicate}
use Rattle.std.proofs.Common.{None, ℕ, ◌≡◌, ◌⊎◌, inl, inr, List, [], ◌∷◌, sym, ap, subst, ◌∙◌}
use Rattle.guest_image.specs.declared.image.ImageTask.{ImageTask}
use Rattle.guest_image.specs.declared.image.Kind.{Kind}
use Rattle.guest_image.specs.ImageValue.{ImageValue}
use Rattle.event_def.specs.serial_machine.Run.{opening_memory}
use Rattle.event_def.specs.spec_state.declared.settings.Settings.{Settings}
use Rattle.event_def.specs.spec_state.View.{View, version_of}
use Rattle.event_def.specs.spec_state.Room.{QueueHasRoom, IsFull, Coalesces}
use Rattle.event_def.specs.Book.{BookView, picked_tile}
use Rattle.event_def.specs.spec_state.Opening.{IsEmptyView}
use Rattle.event_def.specs.Opening.{PlacesImageTask, PlacesAll}

-- all else is as in the view without a task
pub record IsUntouched (image : ImageValue) (settings : Settings) (view : View) : Type 0 where
  pub version : view.version ≡ version_of image
  pub settings_are : view.settings ≡ settings
  pub memory : view.memory ≡ opening_memory image
  pub history : view.history ≡ []
  pub output : view.output ≡ []
  pub next : view.next ≡ 0
  pub path : view.path ≡ []
  pub finished : view.finished ≡ replicate settings.tiles []
  pub cores : view.cores ≡ replicate settings.tiles (replicate settings.cores None)

-- two views that differ in tasks, queues and blocks alone
pub record IsBeside (old new : View) : Type 0 where
  pub version : new.version ≡ old.version
  pub settings_are : new.settings ≡ old.settings
  pub memory : new.memory ≡ old.memory
  pub history : new.history ≡ old.history
  pub output : new.output ≡ old.output
  pub next : new.next ≡ old.next
  pub path : new.path ≡ old.path
  pub finished : new.finished ≡ old.finished
  pub cores : new.cores ≡ old.cores

module _ (image : ImageValue) (settings : Settings) where
  beside_keeps : (old new : View) → IsUntouched image settings old → IsBeside old new → IsUntouched image settings new
  beside_keeps old new is beside =
      record {
        version = beside.version ∙ is.version;
        settings_are = beside.settings_are ∙ is.settings_are;
        memory = beside.memory ∙ is.memory;
        history = beside.history ∙ is.history;
        output = beside.output ∙ is.output;
        next = beside.next ∙ is.next;
        path = beside.path ∙ is.path;
        finished = beside.finished ∙ is.finished;
        cores = beside.cores ∙ is.cores;
      }

  room_keeps : (tile : ℕ) (old mid : View) → IsUntouched image settings old
      → (QueueHasRoom old tile × (mid ≡ old)) ⊎ (IsFull old tile × Coalesces tile old mid)
      → IsUntouched image settings mid
  room_keeps tile old mid is (inl free) = subst (IsUntouched image settings) (sym free.1) is
  room_keeps tile old mid is (inr full) =
      let rest = full.1.frame in
      beside_keeps old mid is (record {
        version = ap (λ v. v.version) rest;
        settings_are = ap (λ v. v.settings) rest;
        memory = ap (λ v. v.memory) rest;
        history = ap (λ v. v.history) rest;
        output = ap (λ v. v.output) rest;
        next = ap (λ v. v.next) rest;
        path = ap (λ v. v.path) rest;
        finished = ap (λ v. v.finished) rest;
        cores = ap (λ v. v.cores) rest;
      })

  -- one placement
  places_keeps : (kind : Kind) (index : ℕ) (task : ImageTask) (old new : BookView) → IsUntouched image settings old.view
      → PlacesImageTask kind index task old new → IsUntouched image settings new.view
  places_keeps kind index task old new is p =
      let rest = p.frame in
      beside_keeps p.mid new.view (room_keeps (picked_tile old index) old.view p.mid is p.room) (record {
        version = ap (λ v. v.version) rest;
        settings_are = ap (λ v. v.settings) rest;
        memory = ap (λ v. v.memory) rest;
        history = ap (λ v. v.history) rest;
        output = ap (λ v. v.output) rest;
        next = ap (λ v. v.next) rest;
        path = ap (λ v. v.path) rest;
        finished = ap (λ v. v.finished) rest;
        cores = ap (λ v. v.cores) rest;
      })

  -- and all of them
  pub all_kept : (kind : Kind) (es : List (ℕ × ImageTask)) (old new : BookView) → IsUntouched image settings old.view
      → PlacesAll kind es old new → IsUntouched image settings new.view
  all_kept kind [] old new is same = subst (λ (b : BookView). IsUntouched image settings b.view) same is
  all_kept kind (e ∷ es) old new is placed =
      all_kept kind es placed.0 new (places_keeps kind e.0 e.1 old placed.0 is placed.1) placed.2

  -- the view without a task is so
  pub none_touched : (view : View) → IsEmptyView image settings view → IsUntouched image settings view
  none_touched view empty =
      let rest = empty.frame in
      record {
        version = ap (λ v. v.version) rest;
        settings_are = ap (λ v. v.settings) rest;
        memory = ap (λ v. v.memory) rest;
        history = ap (λ v. v.history) rest;
        output = ap (λ v. v.output) rest;
        next = ap (λ v. v.next) rest;
        path = ap (λ v. v.path) rest;
        finished = ap (λ v. v.finished) rest;
        cores = ap (λ v. v.cores) rest;
      }
