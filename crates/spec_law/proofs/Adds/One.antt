-- A task that comes to be, idle, as the last one of its tile's task queue: where it stands, and that memory reads nothing of it.
use Rattle.std.proofs.Common.{◌≡◌, ◌⊎◌, ◌<◌, ◌∷◌, ℕ, true, false, [], length, Some, sym, ap, subst, ◌∙◌, inl, inr}
use Rattle.std.proofs.Common.{option_map, slice_get}
use Rattle.std.proofs.lemmas.Bool.{cases_eq}
use Rattle.guest_image.specs.ImageValue.{ImageValue}
use Rattle.memory_law.specs.Tasks.{Logged}
use Rattle.memory_law.proofs.Proved.{idle_tasks_keep_chain}
use Rattle.spec_state.specs.serial_machine.State.{SerialState}
use Rattle.spec_state.proofs.Below.task_law.Proved.{get_cases}
use Rattle.spec_state.specs.declared.task.Task.{Task}
use Rattle.spec_state.specs.View.{View, task_at, queue_at}
use Rattle.spec_state.specs.Filters.{HasNotes}
use Rattle.spec_state.specs.Tasks.{idle_again, is_dispatched}
use Rattle.spec_state.specs.Groups.{logged_tasks, logged_task}
use Rattle.spec_state.specs.Opening.{Adds}
use Rattle.spec_state.proofs.Proved.{is_new, other_queue, own_queue, still_there, was_there}
use Rattle.spec_law.specs.Sound.{StandsAs, SoundMemory}
use Rattle.spec_law.proofs.Accesses.Noted.{none_noted}
use Rattle.spec_law.proofs.Steps.One.{each_stepped}
use Rattle.spec_law.proofs.Moves.MovingMemory.{stands_idle}
use Rattle.fractal_vt.proofs.Proved.{get_front, mapped_some}

-- the view as it was, but for what such a task changes
abbrev pub added_to : View → View → View
added_to old new = record old { tasks = new.tasks; queues = new.queues }

module _ (old new : View) (id : ℕ) (task : Task) (adds : Adds id task old new) where
  -- who stood at a place of a queue stands there
  pub place_stays : task.tile < length old.queues → (tile place k : ℕ) → slice_get (queue_at old tile) place ≡ Some k
      → slice_get (queue_at new tile) place ≡ Some k
  place_stays within tile place k at = elim (cases_eq tile task.tile) [
    | inl own ↦
        subst (λ n. slice_get (queue_at new n) place ≡ Some k) (sym own)
        (ap (λ ids. slice_get ids place) (own_queue old new id task adds within) ∙ get_front (queue_at old task.tile) (id ∷ []) place k (subst (λ n. slice_get (queue_at old n) place ≡ Some k) own at))
    | inr other ↦ ap (λ ids. slice_get ids place) (other_queue old new id task adds tile other) ∙ at
  ]

  -- who stands at a place stood there, or is the new task
  pub place_was : task.tile < length old.queues → (tile place k : ℕ) → slice_get (queue_at new tile) place ≡ Some k
      → (slice_get (queue_at old tile) place ≡ Some k) ⊎ (k ≡ id)
  place_was within tile place k at = elim (cases_eq tile task.tile) [
    | inl own ↦
        let here = ap (λ ids. slice_get ids place) (sym (own_queue old new id task adds within)) ∙ subst (λ n. slice_get (queue_at new n) place ≡ Some k) own at in
        elim (get_cases (queue_at old task.tile) id place k here) [
          | inl was ↦ inl (subst (λ n. slice_get (queue_at old n) place ≡ Some k) (sym own) was)
          | inr last ↦ inr (sym last.1)
        ]
    | inr other ↦ inl (ap (λ ids. slice_get ids place) (sym (other_queue old new id task adds tile other)) ∙ at)
  ]

  module _ (idle : task ≡ idle_again old.version task) where
    undispatched : is_dispatched task ≡ false
    undispatched = ap (λ t. is_dispatched t) idle

    -- a dispatched task was there
    pub runs_was : (k : ℕ) (t : Task) → task_at new k ≡ Some t → is_dispatched t ≡ true → task_at old k ≡ Some t
    runs_was k t at runs =
        was_there old new id task adds k t (λ same. absurd (cc (ap (λ x. is_dispatched x) (is_new old new id task adds k t same at), undispatched, runs))) at

    module _ (image : ImageValue) (serial : SerialState) (stands : (k : ℕ) (t : Task) → task_at old k ≡ Some t → StandsAs image old.version old.settings.budget t t.status) where
      idle_log : (k : ℕ) (x : Logged) → logged_tasks new k ≡ Some x → x.dispatched ≡ false → x.log ≡ []
      idle_log k x at off =
          let read = mapped_some logged_task (task_at new k) x at in
          ap (λ y. y.log) read.2 ∙ ap (λ t. t.log) (is_idle read.0 read.1 (sym (ap (λ y. y.dispatched) read.2) ∙ off))
        where
          is_idle : (t : Task) → task_at new k ≡ Some t → is_dispatched t ≡ false → t ≡ idle_again old.version t
          is_idle =
              each_stepped old new id task adds.changes (λ j t. is_dispatched t ≡ false → t ≡ idle_again old.version t)
              (λ j t other here out. stands_idle image old.version old.settings.budget t t.status (stands j t here) out) (λ out. idle) k

      logs_stay : (k : ℕ) (x : Logged) → x.dispatched ≡ true → logged_tasks old k ≡ Some x → logged_tasks new k ≡ Some x
      logs_stay k x runs at =
          let read = mapped_some logged_task (task_at old k) x at in
          ap (option_map logged_task) (still_there old new id task adds k read.0 read.1) ∙ ap Some (sym read.2)

      logs_were : (k : ℕ) (x : Logged) → x.dispatched ≡ true → logged_tasks new k ≡ Some x → logged_tasks old k ≡ Some x
      logs_were k x runs at =
          let read = mapped_some logged_task (task_at new k) x at in
          ap (option_map logged_task) (runs_was k read.0 read.1 (sym (ap (λ y. y.dispatched) read.2) ∙ runs))
          ∙ ap Some (sym read.2)

      pub add_keeps_memory : SoundMemory old serial → SoundMemory new serial
      add_keeps_memory sound = subst (λ v. SoundMemory v serial) (sym adds.frame)
          (record {
            chained =
                idle_tasks_keep_chain old.settings.line (logged_tasks old) (logged_tasks new) serial.memory old.memory
                (record { stay = λ k x runs. (logs_stay k x runs, logs_were k x runs); idle = idle_log }) sound.chained;
            noted = each_stepped old new id task adds.changes (λ k t. HasNotes old.settings t.lines t.log)
                (λ k t other at. sound.noted k t at)
                (subst (λ t. HasNotes old.settings t.lines t.log) (sym idle) (none_noted old.settings));
          })
