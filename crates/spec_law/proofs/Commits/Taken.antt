-- What a commit leaves under each id, and what the laws of order, tasks and memory see of it.
use Rattle.std.proofs.Common.{◌≡◌, ◌≢◌, ◌⊎◌, ◌+◌, ◌==◌, ℕ, length, Option, Some, None, refl, sym, ap, subst, ◌∙◌, inl}
use Rattle.std.proofs.Common.{inr, option_map, if◌then◌else◌}
use Rattle.std.proofs.lemmas.Bool.{cases_eq}
use Rattle.order_law.specs.Events.{without_creator}
use Rattle.order_law.specs.Tasks.{Keyed}
use Rattle.spec_state.specs.task_law.Commit as turns
use Rattle.spec_state.specs.task_law.Tasks as bags
use Rattle.spec_state.specs.declared.task.Creator.{Creator}
use Rattle.spec_state.specs.declared.task.Creator.TheVariants.{Committed, Live}
use Rattle.spec_state.specs.declared.task.Task.{Task}
use Rattle.spec_state.specs.declared.task.TaskId.{TaskId}
use Rattle.spec_state.specs.View.{View, task_at}
use Rattle.spec_state.specs.Groups.{keyed_tasks, keyed_task, logged_tasks, logged_task, bag_tasks, bag_task}
use Rattle.spec_state.specs.Groups.{bag_creator, live_creator}
use Rattle.spec_state.specs.Changes.{Commits, creator_after, after_commit}
use Rattle.spec_state.proofs.Proved.{same_test, other_test}
use Rattle.spec_law.proofs.Aborted.Taken.{none_of}
use Rattle.fractal_vt.proofs.Proved.{mapped_some}

-- the task with another creator
abbrev pub with_creator : Task → Creator → Task
with_creator task creator = record task { creator = creator }

-- a child of the task that commits has a committed creator
freed_creator : (id n : ℕ) (c : Creator) → live_creator c ≡ Some id → live_creator (creator_after id n c) ≡ None
freed_creator id n (Committed turn index) is = absurd (cc)
freed_creator id n (Live task index) is =
    let same : task.0 ≡ id = cc in
    ap (λ b. live_creator (if b then Committed n index else Live task index)) (ap (λ k. k == id) same ∙ same_test id)

-- any other task has its creator still
kept_creator : (id n : ℕ) (c : Creator) → live_creator c ≢ Some id → creator_after id n c ≡ c
kept_creator id n (Committed turn index) other = refl
kept_creator id n (Live task index) other =
    ap (λ b. if b then Committed n index else Live task index) (other_test task.0 id (λ same. other (ap Some same)))

-- for the bags a child's creator is the turn of this number
turned_creator : (id n index : ℕ) (c : Creator) → bag_creator c ≡ bags.Live id index
    → bag_creator (creator_after id n c) ≡ bags.Committed n index
turned_creator id n index (Committed turn i) is = absurd (cc)
turned_creator id n index (Live task i) is =
    let same : task.0 ≡ id = cc in
    let index_is : i ≡ index = cc in
    ap (λ b. bag_creator (if b then Committed n i else Live task i)) (ap (λ k. k == id) same ∙ same_test id)
    ∙ ap (bags.Committed n) index_is

-- and any other stays
still_creator : (id n : ℕ) (c : Creator) → ((index : ℕ) → bag_creator c ≢ bags.Live id index) → creator_after id n c ≡ c
still_creator id n (Committed turn index) other = refl
still_creator id n (Live task index) other =
    ap (λ b. if b then Committed n index else Live task index) (other_test task.0 id (λ same. other index (ap (λ k. bags.Live k index) same)))

-- an uncommitted creator was one before, and is another task
pub live_before : (id n : ℕ) (c : Creator) (x : TaskId) (index : ℕ) → creator_after id n c ≡ Live x index
    → (c ≡ Live x index) × (x.0 ≢ id)
live_before id n (Committed turn i) x index is = absurd (cc)
live_before id n (Live task i) x index is = elim (cases_eq task.0 id) [
  | inl same ↦ absurd (cc (sym (ap (λ b. if b then Committed n i else Live task i) (ap (λ k. k == id) same ∙ same_test id)) ∙ is))
  | inr other ↦
      let stays : Live task i ≡ Live x index = sym (ap (λ b. if b then Committed n i else Live task i) (other_test task.0 id other)) ∙ is in
      let task_is : task ≡ x = cc in
      (stays, λ same. other (ap (λ t. t.0) task_is ∙ same))
]

-- a committed creator was one before, or is the task that commits
pub committed_before : (id n : ℕ) (c : Creator) (turn index : ℕ) → creator_after id n c ≡ Committed turn index
    → (c ≡ Committed turn index) ⊎ ((x : TaskId) × (i : ℕ) × (c ≡ Live x i) × (x.0 ≡ id))
committed_before id n (Committed t i) turn index is = inl is
committed_before id n (Live task i) turn index is = elim (cases_eq task.0 id) [
  | inl same ↦ inr (task, i, refl, same)
  | inr other ↦ absurd (cc (sym (ap (λ b. if b then Committed n i else Live task i) (other_test task.0 id other)) ∙ is))
]

module _ (old new : View) (commit : Commits old new) where
  -- the number of the commit
  abbrev pub number : ℕ
  number = length old.history + 1

  -- a task as the commit leaves it
  abbrev pub left : Task → Task
  left task = with_creator task (creator_after commit.id number task.creator)

  -- any other task stays so
  pub stays : (k : ℕ) (t : Task) → k ≢ commit.id → task_at old k ≡ Some t → task_at new k ≡ Some (left t)
  stays k t other there =
      commit.each k ∙ ap (after_commit commit.id number k) there
      ∙ ap (λ b. if b then None else Some (left t)) (other_test k commit.id other)

  -- the task leaves
  pub leaves : task_at new commit.id ≡ None
  leaves =
      commit.each commit.id
      ∙ ap (after_commit commit.id number commit.id) commit.least.queued_at.there
      ∙ ap (λ b. if b then None else Some (left commit.task)) (same_test commit.id)

  -- where there was none there is none
  pub none_stays : (k : ℕ) → task_at old k ≡ None → task_at new k ≡ None
  none_stays k none = commit.each k ∙ ap (after_commit commit.id number k) none

  -- a task that is there afterwards was there, and is another one than that which left
  pub record WasThere (k : ℕ) (now : Task) : Type 0 where
    pub was : Task
    pub other : k ≢ commit.id
    pub there : task_at old k ≡ Some was
    pub is : now ≡ left was

  -- each task that is there was there
  pub was_there : (k : ℕ) (now : Task) → task_at new k ≡ Some now → WasThere k now
  was_there k now at = by_was (task_at old k) refl
    where
      other : k ≢ commit.id
      other same = absurd (cc (sym (ap (task_at new) same) ∙ at, leaves))

      by_was : (was : Option Task) → task_at old k ≡ was → WasThere k now
      by_was None none = absurd (cc (none_stays k none, at))
      by_was (Some t) there =
          let both : Some now ≡ Some (left t) = sym at ∙ stays k t other there in
          let same : now ≡ left t = cc in
          record { was = t; other = other; there = there; is = same }

  -- what holds of each task that was there, as the commit leaves it, holds of all that are there
  pub each_left : (holds : ℕ → Task → Type 0)
      → ((k : ℕ) (t : Task) → k ≢ commit.id → task_at old k ≡ Some t → holds k (left t))
      → (k : ℕ) (now : Task) → task_at new k ≡ Some now → holds k now
  each_left holds was k now at =
      let is = was_there k now at in subst (holds k) (sym is.is) (was k is.was is.other is.there)

  -- the order of tasks
  pub keyed_child : (k : ℕ) (x : Keyed) → k ≢ commit.id → keyed_tasks old k ≡ Some x → x.creator ≡ Some commit.id
      → keyed_tasks new k ≡ Some (without_creator x)
  keyed_child k x other at child =
      let read = mapped_some keyed_task (task_at old k) x at in
      ap (option_map keyed_task) (stays k read.0 other read.1)
      ∙ ap (λ c. Some (record (keyed_task read.0) { creator = c })) (freed_creator commit.id number read.0.creator (sym (ap (λ y. y.creator) read.2) ∙ child))
      ∙ ap (λ y. Some (without_creator y)) (sym read.2)

  -- and any other stays as it was
  pub keyed_other : (k : ℕ) (x : Keyed) → k ≢ commit.id → keyed_tasks old k ≡ Some x → x.creator ≢ Some commit.id
      → keyed_tasks new k ≡ Some x
  keyed_other k x other at free =
      let read = mapped_some keyed_task (task_at old k) x at in
      ap (option_map keyed_task) (stays k read.0 other read.1)
      ∙ ap (λ c. Some (keyed_task (with_creator read.0 c))) (kept_creator commit.id number read.0.creator (λ same. free (ap (λ y. y.creator) read.2 ∙ same)))
      ∙ ap Some (sym read.2)

  -- memory
  pub logged_stays : (k : ℕ) → k ≢ commit.id → logged_tasks new k ≡ logged_tasks old k
  logged_stays k other = by_was (task_at old k) refl
    where
      by_was : (was : Option Task) → task_at old k ≡ was → logged_tasks new k ≡ logged_tasks old k
      by_was None none = ap (option_map logged_task) (none_stays k none) ∙ sym (ap (option_map logged_task) none)
      by_was (Some t) there =
          ap (option_map logged_task) (stays k t other there) ∙ sym (ap (option_map logged_task) there)

  -- the bags
  bag_child : (k : ℕ) (x : bags.BagTask) (index : ℕ) → k ≢ commit.id → bag_tasks old k ≡ Some x
      → x.creator ≡ bags.Live commit.id index
      → bag_tasks new k ≡ Some (turns.with_turn x number index)
  bag_child k x index other at child =
      let read = mapped_some bag_task (task_at old k) x at in
      ap (option_map bag_task) (stays k read.0 other read.1)
      ∙ ap (λ c. Some (record (bag_task read.0) { creator = c })) (turned_creator commit.id number index read.0.creator (sym (ap (λ y. y.creator) read.2) ∙ child))
      ∙ ap (λ y. Some (turns.with_turn y number index)) (sym read.2)

  -- a task of another creator stays as it was
  bag_other : (k : ℕ) (x : bags.BagTask) → k ≢ commit.id → bag_tasks old k ≡ Some x
      → ((index : ℕ) → x.creator ≢ bags.Live commit.id index) → bag_tasks new k ≡ Some x
  bag_other k x other at free =
      let read = mapped_some bag_task (task_at old k) x at in
      ap (option_map bag_task) (stays k read.0 other read.1)
      ∙ ap (λ c. Some (bag_task (with_creator read.0 c))) (still_creator commit.id number read.0.creator (λ index same. free index (ap (λ y. y.creator) read.2 ∙ same)))
      ∙ ap Some (sym read.2)

  -- for the bags it is a commit of this number
  pub bags_commit : turns.CommitsInBags (bag_tasks old) (bag_tasks new) commit.id number
  bags_commit =
      record {
        gone = ap (option_map bag_task) leaves;
        children = λ k x index. bag_child k x index;
        others = bag_other;
        none = λ k none. ap (option_map bag_task) (none_stays k (none_of bag_task (task_at old k) none));
      }
