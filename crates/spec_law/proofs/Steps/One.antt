-- A step of one task, after which its key, creator, tile and what it was made as are what they were: the order of
-- tasks and room in a queue read nothing else of it.
use Rattle.std.proofs.Common.{◌≡◌, ◌≢◌, ◌<◌, ℕ, List, length, map, Option, Some, refl, sym, ap, subst, ◌∙◌, inl, inr}
use Rattle.std.proofs.Common.{option_map}
use Rattle.std.proofs.lemmas.Bool.{cases_eq}
use Rattle.fractal_vt.specs.Levels.{closed_level}
use Rattle.memory_law.specs.Chain.{IsChained}
use Rattle.order_law.specs.Tasks.{Keyed}
use Rattle.order_law.specs.Events.{beside}
use Rattle.order_law.specs.Ordered.{IsOrdered}
use Rattle.order_law.proofs.Proved.{rename_keeps_order, Renames}
use Rattle.spec_state.specs.serial_machine.State.{SerialState}
use Rattle.spec_state.specs.declared.task.Task.{Task}
use Rattle.spec_state.specs.View.{View, task_at, ChangesTask}
use Rattle.spec_state.specs.Filters.{HasNotes}
use Rattle.spec_state.specs.Groups.{all_keyed, all_spilled, bag_task, bag_tasks, keyed_tasks, keyed_spilled, keyed_task}
use Rattle.spec_state.specs.Groups.{logged_tasks, logged_task, room_tasks, room_task}
use Rattle.spec_law.specs.Sound.{SoundMemory, SoundOrder}
use Rattle.spec_law.proofs.Tasks.Rebound.{rebound, spilled_idle}
use Rattle.spec_law.proofs.Tasks.Beside.{id_below}
use Rattle.fractal_vt.proofs.Proved.{mapped_some}

-- what a step may change of a task is as here, and all else as it was
abbrev pub stepped_task : Task → Task → Task
stepped_task task behind = record task {
  status = behind.status;
  core = behind.core;
  log = behind.log;
  lines = behind.lines;
  spawns = behind.spawns;
  bytes = behind.bytes;
  sub = behind.sub;
}

-- the view as it was, but for what such a step changes
abbrev pub stepped_to : View → View → View
stepped_to old new = record old { tasks = new.tasks; memory = new.memory; finished = new.finished; cores = new.cores }

-- a step of the task of this id
pub record StepsOne (old new : View) (id : ℕ) (task behind : Task) : Type 0 where
  pub there : task_at old id ≡ Some task
  pub changes : ChangesTask old new id (Some (stepped_task task behind))
  pub rest : new ≡ stepped_to old new

-- what is read of the task of each id
abbrev pub seen : {X : Type 0} → (Task → X) → View → ℕ → Option X
seen see view k = option_map see (task_at view k)

-- what is read of a task alike before and after a change of it is read alike of each id
pub alike : {X : Type 0} (see : Option Task → X) (old new : View) (id : ℕ) (now : Option Task)
    → ChangesTask old new id now → see now ≡ see (task_at old id)
    → (k : ℕ) → see (task_at new k) ≡ see (task_at old k)
alike see old new id now changes same k = elim (cases_eq k id) [
  | inl is ↦ ap (λ j. see (task_at new j)) is ∙ ap see changes.changed ∙ same ∙ ap (λ j. see (task_at old j)) (sym is)
  | inr other ↦ ap see (changes.others k other)
]

-- what holds of each other task, and of the changed one as it is now, holds of all that are there
pub each_stepped : (old new : View) (id : ℕ) (now : Task) → ChangesTask old new id (Some now)
    → (holds : ℕ → Task → Type 0)
    → ((k : ℕ) (t : Task) → k ≢ id → task_at old k ≡ Some t → holds k t) → holds id now → (k : ℕ) (t : Task)
    → task_at new k ≡ Some t → holds k t
each_stepped old new id now changes holds others this k t at = elim (cases_eq k id) [
  | inl is ↦
      let both : Some t ≡ Some now = sym at ∙ ap (task_at new) is ∙ changes.changed in
      let same : t ≡ now = cc in
      subst (λ j. holds j t) (sym is) (subst (holds id) (sym same) this)
  | inr other ↦ others k t other (sym (changes.others k other) ∙ at)
]

-- a task of this id was there, made as this one
pub record HasOrigin (view : View) (id : ℕ) (now : Task) : Type 0 where
  pub was : Task
  pub there : task_at view id ≡ Some was
  pub made : now ≡ stepped_task was now

module _ (old new : View) (id : ℕ) (task behind : Task) (step : StepsOne old new id task behind) where
  -- what is read of the task before and after alike is read alike of all
  pub all_alike : {X : Type 0} (see : Task → X) → see (stepped_task task behind) ≡ see task
      → seen see new ≡ seen see old
  all_alike see same =
      λ i k. alike (option_map see) old new id (Some (stepped_task task behind)) step.changes (ap Some same ∙ sym (ap (option_map see) step.there)) k i

  -- the order of tasks reads the same
  pub keyed_same : keyed_tasks new ≡ keyed_tasks old
  keyed_same = all_alike keyed_task refl

  -- so does room in a queue
  pub room_same : room_tasks new ≡ room_tasks old
  room_same = all_alike room_task refl

  -- so does memory, where log and lines stay
  pub logged_same : behind.log ≡ task.log → behind.lines ≡ task.lines → logged_tasks new ≡ logged_tasks old
  logged_same log lines = all_alike logged_task (λ i. logged_task (record task { log = log i; lines = lines i }))

  -- so do the bags, where the children stay
  pub bags_same : behind.spawns ≡ task.spawns → bag_tasks new ≡ bag_tasks old
  bags_same spawns = all_alike bag_task (λ i. bag_task (record task { spawns = spawns i }))

  -- the order of all uncommitted tasks
  pub step_keeps_order : (heir : Option ℕ) → SoundOrder old heir → SoundOrder new heir
  step_keeps_order heir sound =
      subst (λ v. SoundOrder v heir) (sym step.rest) (record { order = kept; numbers = sound.numbers })
    where
      spilled_list : List Keyed
      spilled_list = map (keyed_spilled (length old.history) heir) (all_spilled old)

      bounded : (k : ℕ) (x : Keyed) → keyed_tasks old k ≡ Some x → (k < length old.tasks) × (k < length new.tasks)
      bounded k x at =
          let was = mapped_some keyed_task (task_at old k) x at in
          let now = mapped_some keyed_task (task_at new k) x (ap (λ f. f k) keyed_same ∙ at) in
          (id_below old k was.0 was.1, id_below new k now.0 now.1)

      kept : IsOrdered (all_keyed (stepped_to old new) heir) (map closed_level old.path) old.next
      kept =
          rename_keeps_order (all_keyed old heir) (all_keyed (stepped_to old new) heir)
          (map closed_level old.path) old.next
          (subst (λ tasks. Renames (all_keyed old heir) (beside (length new.tasks) tasks spilled_list)) (sym keyed_same)
          (rebound (length old.tasks) (length new.tasks) (keyed_tasks old) spilled_list bounded (spilled_idle (length old.history) heir (all_spilled old))))
          sound.order

  -- memory, where the step does not touch it
  pub step_keeps_memory : (serial : SerialState) → new.memory ≡ old.memory → behind.log ≡ task.log
      → behind.lines ≡ task.lines → SoundMemory old serial → SoundMemory new serial
  step_keeps_memory serial memory log lines sound =
      subst (λ v. SoundMemory v serial) (sym step.rest) (record { chained = chained; noted = noted })
    where
      chained : IsChained old.settings.line (logged_tasks new) serial.memory new.memory
      chained =
          subst (IsChained old.settings.line (logged_tasks new) serial.memory) (sym memory)
          (subst (λ tasks. IsChained old.settings.line tasks serial.memory old.memory) (sym (logged_same log lines)) sound.chained)

      noted : (k : ℕ) (t : Task) → task_at new k ≡ Some t → HasNotes old.settings t.lines t.log
      noted = each_stepped old new id (stepped_task task behind) step.changes
          (λ k t. HasNotes old.settings t.lines t.log)
          (λ k t other at. sound.noted k t at)
          (subst (λ l. HasNotes old.settings l behind.log) (sym lines)
          (subst (λ l. HasNotes old.settings task.lines l) (sym log) (sound.noted id task step.there)))

  -- each task was there
  pub origin : (k : ℕ) (t : Task) → task_at new k ≡ Some t → HasOrigin old k t
  origin = each_stepped old new id (stepped_task task behind) step.changes (HasOrigin old)
      (λ k t other at. record { was = t; there = at; made = refl }) (record { was = task; there = step.there; made = refl })

  -- each task is there still
  pub stays_there : (k : ℕ) (x : Task) → task_at old k ≡ Some x
      → (t : Task) × (task_at new k ≡ Some t) × (t ≡ stepped_task x t)
  stays_there k x at = elim (cases_eq k id) [
    | inl is ↦
        let both : Some x ≡ Some task = sym at ∙ ap (task_at old) is ∙ step.there in
        let same : task ≡ x = cc in
        (stepped_task task behind, ap (task_at new) is ∙ step.changes.changed, ap (λ t. stepped_task t behind) same)
    | inr other ↦ (x, step.changes.others k other ∙ at, refl)
  ]
