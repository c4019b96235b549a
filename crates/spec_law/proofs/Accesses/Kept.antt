-- A load or a store with which no task conflicts keeps a view sound.
use Rattle.std.proofs.Common.{◌≡◌, ◌∷◌, ◌++◌, ◌/◌, ℕ, List, Bool, true, false, [], length, Some, None, refl, sym, ap}
use Rattle.std.proofs.Common.{subst, ◌∙◌, is_some, option_map}
use Rattle.std.proofs.lemmas.Bool.{false_from_ne_true}
use Rattle.guest_image.specs.ImageValue.{ImageValue}
use Rattle.memory_law.specs.Chain.{IsChained}
use Rattle.memory_law.specs.Events as memory
use Rattle.memory_law.specs.Tasks.{Logged, Earlier, IsNoted}
use Rattle.memory_law.proofs.Proved.{load_keeps_chain, store_keeps_chain}
use Rattle.rv_core.specs.declared.state.Core.{Core}
use Rattle.rv_core.specs.Legs.{after_other_of, after_load_of}
use Rattle.rv_core.specs.LegValue.{LegValue}
use Rattle.rv_core.specs.Memory.{load_width}
use Rattle.spec_state.specs.serial_machine.Run.{IsRun}
use Rattle.undo_log.specs.declared.access.Access.{Access}
use Rattle.undo_log.specs.Number.{IsAccessible, number_at, after_write}
use Rattle.undo_log.specs.Undo.{MemoryCall, Load, Store, access_of, after_call}
use Rattle.spec_state.specs.declared.task.Task.{Task}
use Rattle.spec_state.specs.View.{View, task_at}
use Rattle.spec_state.specs.Filters.{HasNotes, has_touched, has_written}
use Rattle.spec_state.specs.Groups.{logged_tasks, logged_task}
use Rattle.spec_state.specs.Queries.{HasLine, Conflicts}
use Rattle.spec_state.specs.Changes.{Accesses}
use Rattle.spec_law.specs.Keeping.{IsLegOf, LoadStaysSound, StoreStaysSound}
use Rattle.spec_law.specs.Sound.{Sound, SoundMemory, StandsAs}
use Rattle.spec_law.proofs.Accesses.Noted.{noted_more}
use Rattle.spec_law.proofs.Accesses.Runs.{RanWith, lies_within, ran_load, ran_store}
use Rattle.spec_law.proofs.Aborted.Kept.{line_sized}
use Rattle.spec_law.proofs.Steps.Heir.{step_keeps_heir}
use Rattle.spec_law.proofs.Steps.One.{StepsOne, each_stepped, step_keeps_order}
use Rattle.spec_law.proofs.Steps.Sizes.{lists_stay, step_keeps_sizes}
use Rattle.spec_law.proofs.Steps.Sound.{stood}
use Rattle.spec_law.proofs.Steps.Tasks.{step_keeps_tasks}
use Rattle.fractal_vt.proofs.Proved.{mapped_some}

-- an access keeps the number that stood there
access_old : (memory : List ℕ) (call : MemoryCall)
    → (access_of memory call).old ≡ number_at memory (access_of memory call).offset (access_of memory call).width
access_old memory (Load offset width) = refl
access_old memory (Store offset width value) = refl

module _ (image : ImageValue) (old new : View) (sound : Sound image old) (tile core id : ℕ) (leg : LegValue) (task : Task) (call : MemoryCall) (to : Core) (taken : IsLegOf image old tile core leg id task) (within : IsAccessible (length old.memory) (access_of old.memory call).offset (access_of old.memory call).width) (ran : RanWith image old task (access_of old.memory call) to) (clear : (k : ℕ) → Conflicts old task ((access_of old.memory call).offset / old.settings.line) (is_some (access_of old.memory call).new) k → ⊥) (does : Accesses id task call to old new) where
  -- the access that joins the log
  abbrev access : Access
  access = access_of old.memory call

  abbrev now : Task
  now = record task { core = to; log = task.log ++ access ∷ []; lines = does.lines }

  abbrev there : task_at old id ≡ Some task
  there = taken.takes.runs.on.there

  steps_one : StepsOne old new id task now
  steps_one = record {
    there = there;
    changes = does.changes;
    rest = does.frame ∙ (λ i. record old {
      tasks = new.tasks;
      memory = new.memory;
      finished = sym (ap (λ v. v.finished) does.frame) i;
      cores = sym (ap (λ v. v.cores) does.frame) i;
    });
  }

  -- for memory it is an access of this task
  pub is_access : memory.AccessesInLogs old.settings.line old.memory (logged_tasks old) (logged_tasks new) id (logged_task task) (logged_task now) access
  is_access = record {
    there = ap (option_map logged_task) there;
    changed = ap (option_map logged_task) does.changes.changed;
    others = λ k other. ap (option_map logged_task) (does.changes.others k other);
    was_dispatched = (stood image old sound tile core id leg task taken).0;
    levels = refl;
    dispatched = refl;
    log = refl;
    accessible = within;
    old_is = access_old old.memory call;
    noted = noted_more (length old.memory) old.settings (has_touched task) (has_written task) task.log access now refl
        (subst (λ n. IsNoted n old.settings.line (logged_task task)) (sym sound.memory.chained.size)
        (sound.memory.chained.noted id (logged_task task) (ap (option_map logged_task) there)))
        within does.notes;
  }

  -- a later dispatched task has no line of the access
  no_line : (write : Bool) → is_some access.new ≡ write → (k : ℕ) (other : Logged) → logged_tasks old k ≡ Some other
      → other.dispatched ≡ true → Earlier (logged_task task) other
      → (x : Task) × (other ≡ logged_task x) × (HasLine write x (access.offset / old.settings.line) → ⊥)
  no_line write same k other at runs later =
      let read = mapped_some logged_task (task_at old k) other at in (
        read.0,
        read.2,
        λ has. clear k (record {
          other = read.0;
          later = record {
            there = read.1;
            dispatched = sym (ap (λ t. t.dispatched) read.2) ∙ runs;
            later = subst (Earlier (logged_task task)) read.2 later;
          };
          has_line = subst (λ b. HasLine b read.0 (access.offset / old.settings.line)) (sym same) has;
        }),
      )

  no_later_wrote : access.new ≡ None
      → memory.NoLaterWrote (logged_tasks old) (logged_task task) (access.offset / old.settings.line)
  no_later_wrote none k other at runs later =
      let line = no_line false (ap is_some none) k other at runs later in
      false_from_ne_true (other.wrote (access.offset / old.settings.line)) (λ wrote. line.2 (sym (ap (λ t. t.wrote (access.offset / old.settings.line)) line.1) ∙ wrote))

  no_later_touched : (value : ℕ) → access.new ≡ Some value
      → memory.NoLaterTouched (logged_tasks old) (logged_task task) (access.offset / old.settings.line)
  no_later_touched value some k other at runs later =
      let line = no_line true (ap is_some some) k other at runs later in
      false_from_ne_true (other.touched (access.offset / old.settings.line)) (λ touched. line.2 (sym (ap (λ t. t.touched (access.offset / old.settings.line)) line.1) ∙ touched))

  chained_by : (c : MemoryCall) → call ≡ c
      → IsChained old.settings.line (logged_tasks new) sound.serial.memory (after_call old.memory call)
  chained_by (Load offset width) is =
      let none : access.new ≡ None = ap (λ c. (access_of old.memory c).new) is in
      subst (λ c. IsChained old.settings.line (logged_tasks new) sound.serial.memory (after_call old.memory c)) (sym is)
      (load_keeps_chain old.settings.line (logged_tasks old) (logged_tasks new) id (logged_task task) (logged_task now) access sound.serial.memory old.memory
      (line_sized old.settings.line sound.sizes.settings.line) is_access none (no_later_wrote none) sound.memory.chained)
  chained_by (Store offset width value) is =
      let some : access.new ≡ Some value = ap (λ c. (access_of old.memory c).new) is in
      let offset_is : access.offset ≡ offset = ap (λ c. (access_of old.memory c).offset) is in
      let width_is : access.width ≡ width = ap (λ c. (access_of old.memory c).width) is in
      subst (λ c. IsChained old.settings.line (logged_tasks new) sound.serial.memory (after_call old.memory c)) (sym is)
      (subst (λ o. IsChained old.settings.line (logged_tasks new) sound.serial.memory (after_write old.memory o width value)) offset_is
      (subst (λ w. IsChained old.settings.line (logged_tasks new) sound.serial.memory (after_write old.memory access.offset w value)) width_is
      (store_keeps_chain old.settings.line (logged_tasks old) (logged_tasks new) id (logged_task task) (logged_task now) access value sound.serial.memory old.memory
      (line_sized old.settings.line sound.sizes.settings.line) is_access some (no_later_touched value some) sound.memory.chained)))

  pub access_keeps_memory : SoundMemory new sound.serial
  access_keeps_memory =
      let same : new.settings ≡ old.settings = ap (λ v. v.settings) does.frame in
      record {
        chained = subst (λ s. IsChained s.line (logged_tasks new) sound.serial.memory new.memory) (sym same)
            (subst (IsChained old.settings.line (logged_tasks new) sound.serial.memory) (sym does.memory) (chained_by call refl));
        noted = λ k t at. subst (λ s. HasNotes s t.lines t.log) (sym same)
            (each_stepped old new id now does.changes (λ j x. HasNotes old.settings x.lines x.log)
            (λ j x other here. sound.memory.noted j x here) does.notes k t at);
      }

  -- it runs on
  stands_now : StandsAs image old.version old.settings.budget now task.status
  stands_now = subst (StandsAs image old.version old.settings.budget now) (sym taken.takes.runs.running)
      ((stood image old sound tile core id leg task taken).0, ran)

  pub kept : (new_sound : Sound image new) × (new_sound.serial ≡ sound.serial)
  kept = (
    record {
      version = ap (λ v. v.version) does.frame ∙ sound.version;
      serial = sound.serial;
      is_run = subst (λ v. IsRun image v.settings.budget v.history sound.serial) (sym does.frame) sound.is_run;
      heir = sound.heir;
      is_heir = step_keeps_heir old new id task now steps_one sound.heir sound.is_heir;
      tasks =
          step_keeps_tasks old new id task now steps_one (λ index spawn at. (at, refl)) image sound.heir sound.serial sound.tasks refl stands_now;
      memory = access_keeps_memory;
      order = step_keeps_order old new id task now steps_one sound.heir sound.order;
      sizes = step_keeps_sizes old new id task now steps_one sound.sizes
          (lists_stay old new id task now steps_one sound.sizes (ap (λ v. v.finished) does.frame) (ap (λ v. v.cores) does.frame) (λ e. e, λ e. e) (λ k. (λ e. e, λ e. e)))
          (sound.sizes.bytes id task there);
    },
    refl,
  )

pub load_stays_sound : LoadStaysSound
load_stays_sound image old new sound tile core id leg task width rd offset at clear does =
    kept image old new sound tile core id leg task (Load offset (load_width width)) (after_load_of leg.to width rd (number_at old.memory offset (load_width width)))
    at.is_leg (lies_within image old sound tile core id leg task _ at) (ran_load image old sound tile core id leg task width rd offset at) clear does

pub store_stays_sound : StoreStaysSound
store_stays_sound image old new sound tile core id leg task offset bytes value at clear does =
    kept image old new sound tile core id leg task (Store offset bytes value) (after_other_of leg.to)
    at.is_leg (lies_within image old sound tile core id leg task _ at) (ran_store image old sound tile core id leg task offset bytes value at) clear does
