-- The opening, against the serial machine's.
use Rattle.std.proofs.Common.{ℕ, ◌+◌, ◌≡◌, ◌<◌, ◌≤◌, ◌-◌, ◌⊎◌, ◌↔◌, inl, inr, Bool, true, false, [], Some, None, refl}
use Rattle.std.proofs.Common.{sym, ap, subst, ◌∙◌, arith}
use Rattle.std.specs.Prelude.{length, slice_get, map, replicate, nat_le}
use Rattle.std.specs.List.{enumerate_from}
use Rattle.std.proofs.lemmas.List.Elements.{All-map, All-append, All-replicate, All-weaker}
use Rattle.fractal_vt.specs.Levels.{closed_level}
use Rattle.fractal_vt.proofs.Proved.{all_get}
use Rattle.guest_image.specs.declared.image.ImageTask.{ImageTask}
use Rattle.guest_image.specs.declared.image.Kind.{Kind}
use Rattle.guest_image.specs.declared.image.Kind.TheVariants.{Unordered, Ordered}
use Rattle.guest_image.specs.ImageValue.{ImageValue, IsImage}
use Rattle.memory_law.specs.Chain.{IsChained}
use Rattle.memory_law.specs.Tasks.{Logged}
use Rattle.memory_law.proofs.Proved.{undispatched_is_chained}
use Rattle.order_law.specs.Opening.{IsRoot}
use Rattle.order_law.specs.Ordered.{IsOrdered}
use Rattle.order_law.specs.Tasks.{Keyed}
use Rattle.order_law.specs.Events.{IsAmongSpilled}
use Rattle.order_law.proofs.Proved.{beside_which, opening_law}
use Rattle.pending_list.specs.declared.task.PendingTask.{PendingTask}
use Rattle.event_def.specs.task_law.Tasks.{In}
use Rattle.event_def.specs.serial_machine.Run.{image_task, IsRun, opening, opening_memory}
use Rattle.spill_store.specs.SpilledTasks.{Spilled}
use Rattle.task_desc.specs.Calls.{domain_ts}
use Rattle.undo_log.specs.Number.{AreBytes}
use Rattle.event_def.specs.spec_state.declared.numbers.TheConstants.{DISPATCH_NUMBERS}
use Rattle.event_def.specs.spec_state.declared.settings.Settings.{Settings}
use Rattle.event_def.specs.spec_state.declared.task.Task.{Task}
use Rattle.event_def.specs.spec_state.View.{View, task_at}
use Rattle.event_def.specs.spec_state.Filters.{HasNotes}
use Rattle.event_def.specs.spec_state.Tasks.{is_dispatched, is_ordered_at}
use Rattle.event_def.specs.spec_state.Groups.{heir_unless, keyed_tasks, keyed_task, keyed_spilled, all_keyed}
use Rattle.event_def.specs.spec_state.Groups.{all_spilled}
use Rattle.event_def.specs.spec_state.Groups.{logged_tasks, logged_task}
use Rattle.event_def.specs.spec_state.Least.{IsHeir}
use Rattle.event_def.specs.spec_state.Settings.{IsValid}
use Rattle.spec_law.specs.Sound.{Sound, SoundMemory, SoundOrder, SoundTasks}
use Rattle.spec_law.proofs.Proved.{none_noted}
use Rattle.event_def.specs.Book.{BookView}
use Rattle.event_def.specs.Opening.{root_kinds}
use Rattle.event_law.specs.Laws.{OpeningIsSound}
use Rattle.event_law.proofs.Lists.{at_each_place, all_of_lists, from_option, counted_places}
use Rattle.event_law.proofs.Openings.Rooted as rooted
use Rattle.event_law.proofs.Openings.Rooted.{IsImageTask, IsImageSpilled, AreImageTasks}
use Rattle.event_law.proofs.Openings.Sized.{IsSized, all_sized, none_sized}
use Rattle.event_law.proofs.Openings.Named.{Free, all_named, none_named, none_free}
use Rattle.event_law.proofs.Openings.Started.{opening_matches, tasks_are}
use Rattle.event_law.proofs.Openings.Sizes.{sizes_are}
use Rattle.event_law.proofs.Openings.Tiles.{HaveTiles, all_have_tiles, none_elsewhere}
use Rattle.event_law.proofs.Openings.Untouched as untouched
use Rattle.event_law.proofs.Openings.Untouched.{IsUntouched}

-- an idle task in the root domain has timestamp 0 where that is unordered
timely : (kind : Kind) (ts : ℕ) → is_ordered_at 0 (root_kinds kind) ≡ false → domain_ts kind ts ≡ 0
timely Unordered ts unordered = refl
timely Ordered ts unordered = let no_way : true ≡ false = unordered in absurd (cc (no_way))

-- with no heir no spilled task has an uncommitted creator
no_creator : (is_committed : Bool) → heir_unless is_committed None ≡ None
no_creator true = refl
no_creator false = refl

-- the opening memory is one of bytes
opening_bytes : (image : ImageValue) → IsImage image → AreBytes (opening_memory image)
opening_bytes image is k =
    at_each_place (λ byte. byte < 256) (opening_memory image) k 0
    (All-append (λ byte. byte < 256) image.initial (replicate (image.data_size - length image.initial) 0) is.bytes
    (All-replicate (λ byte. byte < 256) (image.data_size - length image.initial) 0 (omega arith)))
    (omega arith)

module _ (image : ImageValue) (settings : Settings) (among : ℕ → ImageTask → Type 0) (view : View) (are : AreImageTasks image.kind among view) (is : IsUntouched image settings view) (sized : IsSized view) (valid : IsValid settings) (tasks : SoundTasks image view None (opening image)) where
  -- no task is dispatched
  undispatched : (id : ℕ) (task : Task) → task_at view id ≡ Some task → is_dispatched task ≡ false
  undispatched id task there = ap is_dispatched (are.tasks id task there).is

  -- so there is no heir
  no_heir : IsHeir view None
  no_heir id task least dispatched =
      let no_way : true ≡ false = sym dispatched ∙ undispatched id task least.queued_at.there in
      absurd (cc (no_way))

  -- a queued task is a root for the order
  root_task : (version : ℕ) (task : Task) → IsImageTask image.kind among version task → IsRoot (keyed_task task)
  root_task version task one =
      subst (λ t. IsRoot (keyed_task t)) (sym one.is)
      (record { domain = refl; kinds = refl; timely = timely image.kind one.from.ts; idle = refl; committed = refl })

  -- so is a spilled one
  root_spilled : (count : ℕ) (s : Spilled) → IsImageSpilled image.kind among s → IsRoot (keyed_spilled count None s)
  root_spilled count s one =
      subst (λ t. IsRoot (keyed_spilled count None t)) (sym one.is)
      (record { domain = refl; kinds = refl; timely = timely image.kind one.from.ts; idle = refl; committed = no_creator (nat_le 0 count) })

  -- each uncommitted task is a root
  roots : (id : ℕ) (x : Keyed) → all_keyed view None id ≡ Some x → IsRoot x
  roots id x at =
      by_case (beside_which (length view.tasks) (keyed_tasks view) (map (keyed_spilled (length view.history) None) (all_spilled view)) id x at)
    where
      by_case : (keyed_tasks view id ≡ Some x) ⊎ IsAmongSpilled x (map (keyed_spilled (length view.history) None) (all_spilled view))
          → IsRoot x
      by_case (inl queued) =
          let one = from_option keyed_task (task_at view id) x queued in
          subst IsRoot one.2 (root_task view.version one.0 (are.tasks id one.0 one.1))
      by_case (inr entry) =
          all_get IsRoot (map (keyed_spilled (length view.history) None) (all_spilled view)) entry.0 x
          (All-map IsRoot (keyed_spilled (length view.history) None) (all_spilled view)
          (All-weaker (IsImageSpilled image.kind among) (λ s. IsRoot (keyed_spilled (length view.history) None s)) (root_spilled (length view.history)) (all_spilled view)
          (all_of_lists (IsImageSpilled image.kind among) view.blocks are.spilled)))
          entry.1

  -- the group of order
  order : SoundOrder view None
  order = record {
    order = subst (λ path. IsOrdered (all_keyed view None) (map closed_level path) view.next) (sym is.path)
        (subst (IsOrdered (all_keyed view None) []) (sym is.next) (opening_law (all_keyed view None) roots));
    numbers = subst (λ n. n ≤ DISPATCH_NUMBERS) (sym is.next) (omega arith);
  }

  -- for memory each task is undispatched and has no log
  quiet : (id : ℕ) (x : Logged) → logged_tasks view id ≡ Some x → (x.dispatched ≡ false) × (x.log ≡ [])
  quiet id x at =
      let one = from_option logged_task (task_at view id) x at in
      let root = are.tasks id one.0 one.1 in
      subst (λ (y : Logged). (y.dispatched ≡ false) × (y.log ≡ [])) one.2 (undispatched id one.0 one.1, ap (λ t. t.log) root.is)

  -- a task that has done nothing has no notes
  no_notes : (id : ℕ) (task : Task) → task_at view id ≡ Some task → HasNotes view.settings task.lines task.log
  no_notes id task there =
      subst (λ (t : Task). HasNotes view.settings t.lines t.log) (sym (are.tasks id task there).is)
      (none_noted view.settings)

  -- the group of memory
  memory : AreBytes (opening_memory image) → SoundMemory view (opening image)
  memory bytes = record {
    chained = subst (IsChained view.settings.line (logged_tasks view) (opening_memory image)) (sym is.memory)
        (undispatched_is_chained view.settings.line (logged_tasks view) (opening_memory image) bytes quiet);
    noted = no_notes;
  }

  -- the journal, in which no task has committed, is a run that leads to the opening
  is_run : IsRun image view.settings.budget view.history (opening image)
  is_run = subst (λ journal. IsRun image view.settings.budget journal (opening image)) (sym is.history) refl

  -- all groups hold, against the serial machine's opening
  pub opens : HaveTiles view → AreBytes (opening_memory image) → Sound image view
  opens tiles bytes = record {
    version = is.version;
    serial = opening image;
    is_run = is_run;
    heir = None;
    is_heir = no_heir;
    tasks = tasks;
    memory = memory bytes;
    order = order;
    sizes = sizes_are image.kind image settings among view are is sized valid tiles;
  }

-- the opening of an image within its limits is sound, whichever tile each of its tasks is placed in
pub opening_is_sound : OpeningIsSound
opening_is_sound image settings placers taps book within valid opened =
    let start : BookView = record { view = opened.empty; placers = placers; taps = taps; steps = 0; stopped = false } in
    let are = rooted.all_kept image.kind (λ index task. slice_get image.tasks index ≡ Some task) (enumerate_from 0 image.tasks) start book
    (counted_places image.tasks 0 image.tasks (λ j. (let same : 0 + j ≡ j = omega arith in ap (slice_get image.tasks) same)))
    (rooted.none_are image.kind (λ index task. slice_get image.tasks index ≡ Some task) image settings opened.empty opened.is_empty) opened.placed in
    let is = untouched.all_kept image settings image.kind (enumerate_from 0 image.tasks) start book (untouched.none_touched image settings opened.empty opened.is_empty) opened.placed in
    let sized = all_sized image.kind (enumerate_from 0 image.tasks) start book (none_sized image settings opened.empty opened.is_empty) opened.placed in
    let tiles = all_have_tiles image.kind (enumerate_from 0 image.tasks) start book (none_elsewhere image settings opened.empty opened.is_empty) opened.placed in
    let named = all_named image.kind image.tasks 0 start book (none_named image.kind image settings opened.empty opened.is_empty) opened.placed in
    let free : (depth : ℕ) (q : PendingTask) → Free book.view depth q ↔ ((depth ≡ 1) × In q (map (image_task image.kind) (enumerate_from 0 image.tasks))) =
    λ depth q. (
      λ f. elim ((named.2 depth q).0 f) [ inl was ↦ absurd (none_free image.kind image settings opened.empty opened.is_empty depth q was) | inr placed ↦ placed ],
      λ placed. (named.2 depth q).1 (inr placed),
    )
    in
    let tasks = tasks_are image settings (λ index task. slice_get image.tasks index ≡ Some task) book.view are is named.1.sound (opening_matches image book.view free) in
    opens image settings (λ index task. slice_get image.tasks index ≡ Some task) book.view are is sized valid tasks tiles (opening_bytes image within)
