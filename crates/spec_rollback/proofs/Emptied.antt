-- Lists that hold no task, and what is left once all uncommitted tasks are taken back.
use Rattle.std.proofs.Common.{◌≡◌, ◌∷◌, ℕ, suc, List, [], length, map, replicate, Option, Some, None, refl, sym}
use Rattle.std.proofs.Common.{ap, ◌∙◌, arith, slice_index_or, slice_get}
use Rattle.std.specs.Prelude.{Contains, All, IsSome, Bool, true, false, option_map, if◌then◌else◌}
use Rattle.std.proofs.lemmas.List.Elements.{All-tail, All-head, All-cons}
use Rattle.std.proofs.lemmas.List.{length-map}
use Rattle.memory_law.specs.Tasks.{Logged, IsByKey, undone_set}
use Rattle.memory_law.proofs.Proved.{member_dispatched}
use Rattle.spill_store.specs.SpilledTasks.{Spilled}
use Rattle.spec_state.specs.declared.task.Status.{Status}
use Rattle.spec_state.specs.declared.task.Status.TheVariants.{Finished}
use Rattle.spec_state.specs.declared.task.Task.{Task}
use Rattle.spec_state.specs.View.{View, task_at}
use Rattle.spec_state.specs.Groups.{logged_tasks, logged_task}
use Rattle.spec_state.specs.Stored.{IsStored, HasTask, HasCore}
use Rattle.spec_state.specs.Aborts.{is_marked, UndoesAll}
use Rattle.spec_state.proofs.Proved.{has_head}
use Rattle.spec_rollback.specs.Lists.{HasLists}
use Rattle.spec_rollback.specs.Removed.{RemovesThese}
use Rattle.spec_rollback.proofs.Undone.{same_set}

-- a list that contains nothing
holds_nothing : (ids : List ℕ) → ((id : ℕ) → Contains ids id → ⊥) → ids ≡ []
holds_nothing [] none = refl
holds_nothing (id ∷ ids) none = absurd (none id (has_head id ids))

pub all_empty : (lists : List (List ℕ)) → ((tile id : ℕ) → Contains (slice_index_or lists tile []) id → ⊥)
    → lists ≡ replicate (length lists) []
all_empty [] none = refl
all_empty (ids ∷ lists) none = λ i. holds_nothing ids (none 0) i ∷ all_empty lists (λ tile. none (suc tile)) i

-- cores that hold nothing
hold_none : (cores : List (Option ℕ)) → ((core id : ℕ) → slice_get cores core ≡ Some (Some id) → ⊥)
    → cores ≡ replicate (length cores) None
hold_none [] none = refl
hold_none (None ∷ cores) none = λ i. None ∷ hold_none cores (λ core. none (suc core)) i
hold_none (Some id ∷ cores) none = absurd (none 0 id refl)

pub all_free : (lists : List (List (Option ℕ))) (n : ℕ) → All (λ cores. length cores ≡ n) lists
    → ((tile core id : ℕ) → slice_get (slice_index_or lists tile []) core ≡ Some (Some id) → ⊥)
    → lists ≡ replicate (length lists) (replicate n None)
all_free [] n many none = refl
all_free (cores ∷ lists) n many none =
    let one : cores ≡ replicate n None = hold_none cores (none 0)
    ∙ ap (λ m. replicate m None) (All-head (λ cores. length cores ≡ n) cores lists many) in
    λ i. one i ∷ all_free lists n (All-tail (λ cores. length cores ≡ n) cores lists many) (λ tile. none (suc tile)) i

-- lists that are as long as others, each of which has one length
same_lengths : (n : ℕ) (old new : List (List (Option ℕ))) → map length new ≡ map length old
    → All (λ cores. length cores ≡ n) old → All (λ cores. length cores ≡ n) new
same_lengths n [] [] same many = λ k d within. absurd (omega (arith, within))
same_lengths n [] (y ∷ new) same many = absurd (cc (same))
same_lengths n (x ∷ old) [] same many = absurd (cc (same))
same_lengths n (x ∷ old) (y ∷ new) same many =
    let first : length y ≡ length x = cc in
    let rest : map length new ≡ map length old = cc in
    All-cons (λ cores. length cores ≡ n) y new (first ∙ All-head (λ cores. length cores ≡ n) x old many)
    (same_lengths n old new rest (All-tail (λ cores. length cores ≡ n) x old many))

-- what memory reads of no task is nothing
is_there : (slot : Option Task) (task : Logged) → option_map logged_task slot ≡ Some task → IsSome slot
is_there None task is = absurd (cc)
is_there (Some t) task is = refl

module _ (size : ℕ) (old undone removed last : View) (marks : List Bool) (lists : HasLists old)
    (undo : undone ≡ record old { memory = undone.memory })
    (marked : (id : ℕ) → IsSome (task_at old id) → is_marked marks id ≡ true)
    (removes : RemovesThese (is_marked marks) undone removed) (stored : IsStored size removed)
    (drops : last ≡ record removed { blocks = replicate (length removed.blocks) [] }) where
  none_left : (id : ℕ) → task_at removed id ≡ None
  none_left id = removes.each id ∙ by_slot (task_at old id) (ap (λ (v : View). task_at v id) undo) (marked id)
    where
      by_slot : (slot : Option Task) → task_at undone id ≡ slot → (IsSome slot → is_marked marks id ≡ true)
          → (if is_marked marks id then None else task_at undone id) ≡ None
      by_slot None at there = ap (λ o. if is_marked marks id then None else o) at ∙ by_mark (is_marked marks id)
        where
          by_mark : (b : Bool) → ◌≡◌ {A = Option Task} (if b then None else None) None
          by_mark true = refl
          by_mark false = refl
      by_slot (Some t) at there = ap (λ b. if b then None else task_at undone id) (there refl)

  nobody : (tile id : ℕ) (kind : Status → Type 0) → HasTask removed tile id kind → ⊥
  nobody tile id kind there = absurd (cc (there.1, none_left id))

  -- what the lists of the tiles are then
  queues_are : removed.queues ≡ replicate old.settings.tiles []
  queues_are =
      all_empty removed.queues (λ tile id has. nobody tile id (λ status. Unit {0}) ((stored.queued_are tile id).0 has))
      ∙ ap (λ n. replicate n []) (removes.queues ∙ ap (λ (v : View). length v.queues) undo ∙ lists.queues)

  finished_are : removed.finished ≡ replicate old.settings.tiles []
  finished_are =
      all_empty removed.finished
      (λ tile id has. nobody tile id (λ status. status ≡ Finished) ((stored.finished_are tile id).0 has))
      ∙ ap (λ n. replicate n []) (removes.finished ∙ ap (λ (v : View). length v.finished) undo ∙ lists.finished)

  core_counts : map length removed.cores ≡ map length old.cores
  core_counts = removes.cores ∙ ap (λ (v : View). map length v.cores) undo

  cores_are : removed.cores ≡ replicate old.settings.tiles (replicate old.settings.cores None)
  cores_are =
      let many : length removed.cores ≡ old.settings.tiles =
      sym (length-map removed.cores length) ∙ ap length core_counts ∙ length-map old.cores length ∙ lists.cores
      in
      all_free removed.cores old.settings.cores
      (same_lengths old.settings.cores old.cores removed.cores core_counts lists.each)
      (λ tile core id held. nobody tile id (λ status. HasCore status core) ((stored.held_are tile core id).0 held))
      ∙ ap (λ n. replicate n (replicate old.settings.cores None)) many

  blocks_are : replicate (length removed.blocks) [] ≡ replicate {A = List Spilled} old.settings.tiles []
  blocks_are =
      ap (λ n. replicate n [])
      (ap (λ (v : View). length v.blocks) removes.frame ∙ ap (λ (v : View). length v.blocks) undo ∙ lists.blocks)

  pub all_undone : ((ids : List ℕ) → IsByKey (logged_tasks old) ids
      → undone.memory ≡ undone_set (is_marked marks) (logged_tasks old) ids old.memory)
      → (ids : List ℕ) → IsByKey (logged_tasks old) ids → UndoesAll old last
  all_undone memory ids by_key = record {
    none = λ id. ap (λ (v : View). task_at v id) drops ∙ none_left id;
    memory = record {
      ids = ids;
      by_key = by_key;
      memory_is =
          kept ∙ memory ids by_key
          ∙ same_set (is_marked marks) (λ id. true) (logged_tasks old) ids old.memory
          (λ k at. (let runs = member_dispatched (logged_tasks old) k ids at by_key.ascends in marked k
          (is_there (task_at old k) runs.0 runs.1)));
    };
    frame =
        drops ∙ ap (λ (v : View). record v { blocks = replicate (length removed.blocks) [] }) removes.frame
        ∙ ap (λ (v : View). record v {
          tasks = removed.tasks;
          queues = removed.queues;
          finished = removed.finished;
          cores = removed.cores;
          blocks = replicate (length removed.blocks) [];
        }) undo
        ∙ (λ i. record old {
          tasks = tasks_are i;
          memory = sym kept i;
          queues = queues_are i;
          finished = finished_are i;
          cores = cores_are i;
          blocks = blocks_are i;
        });
  }
    where
      kept : last.memory ≡ undone.memory
      kept = ap (λ (v : View). v.memory) drops ∙ ap (λ (v : View). v.memory) removes.frame

      tasks_are : removed.tasks ≡ last.tasks
      tasks_are = sym (ap (λ (v : View). v.tasks) drops)
