-- A commit of the heir keeps the order of all uncommitted tasks.
use Rattle.std.proofs.Common.{◌≡◌, ◌≢◌, ◌≤◌, ◌<◌, ◌+◌, ◌-◌, ◌++◌, ◌∷◌, ℕ, Bool, true, false, List, [], length, Option}
use Rattle.std.proofs.Common.{Some, None, refl, sym, ap, subst, ◌∙◌, map, option_map, slice_get, nat_lt, unwrap_or}
use Rattle.std.specs.Prelude.{Contains}
use Rattle.std.proofs.lemmas.List.{length-append, map-append}
use Rattle.std.proofs.lemmas.Option.{slice_get-map}
use Rattle.std.specs.declared.cmp.Ordering.TheVariants.{Greater}
use Rattle.std.proofs.lemmas.Bool.{lt-ltb, le-leb}
use Rattle.fractal_vt.specs.Keys as keys
use Rattle.fractal_vt.specs.Levels.{closed_level, levels_cmp}
use Rattle.order_law.specs.Events as order
use Rattle.order_law.specs.Events.{beside, without_creator, IsLeastInKeys}
use Rattle.order_law.specs.Ordered.{IsOrdered}
use Rattle.order_law.specs.Tasks.{Keyed, levels_of}
use Rattle.order_law.proofs.Proved.{commit_law, rename_keeps_order}
use Rattle.spill_store.specs.SpilledTasks.{Spilled}
use Rattle.spec_state.specs.declared.task.Task.{Task}
use Rattle.spec_state.specs.declared.numbers.TheConstants.{DISPATCH_NUMBERS}
use Rattle.spec_state.specs.View.{View, task_at}
use Rattle.spec_state.specs.Tasks.{own_level}
use Rattle.spec_state.specs.Groups.{all_keyed, all_spilled, heir_unless, keyed_tasks, keyed_spilled, keyed_task}
use Rattle.spec_state.specs.Least.{IsLeastTask, Queued}
use Rattle.spec_state.specs.Changes.{Commits}
use Rattle.spec_law.specs.Sound.{SoundOrder, SoundSizes}
use Rattle.spec_law.proofs.Aborted.Taken.{none_of}
use Rattle.spec_law.proofs.Tasks.Places.{get_contains}
use Rattle.spec_law.proofs.Tasks.Filtered.{got_mapped, get_mapped}
use Rattle.spec_law.proofs.Tasks.Next.{none_below, queued_key}
use Rattle.spec_law.proofs.Tasks.Rebound.{low_is, high_is, rebound, spilled_idle, spilled_creator}
use Rattle.spec_law.proofs.Commits.Taken.{leaves, none_stays, was_there, keyed_child, keyed_other}
use Rattle.spec_law.proofs.Tasks.Beside.{id_below, queued_stands}
use Rattle.fractal_vt.proofs.Proved.{mapped_some}

-- the least task is the least of all for the order
pub least_of_all : (view : View) → SoundSizes view → (heir : Option ℕ) (id : ℕ) (task : Task) → IsLeastTask view id task
    → IsLeastInKeys (all_keyed view heir) id (keyed_task task)
least_of_all view sizes heir id task is =
    let key = queued_key view task.tile is.place id task is.least.key is.queued_at is.least.has in
    record {
      there = queued_stands view heir id task is.queued_at.there;
      least =
          λ k x at. subst (λ key. levels_cmp (keys.levels key) (levels_of x) ≢ Greater) key (none_below view sizes heir (Queued task.tile is.place) is.least k x at);
    }

-- a task without an uncommitted creator is the same once its creator is left out
freed_is : (x : Keyed) → x.creator ≡ None → without_creator x ≡ x
freed_is x none = λ i. record x { creator = sym none i }

-- the journal is one longer
pub one_longer : (old new : View) → Commits old new → length new.history ≡ length old.history + 1
one_longer old new commit = ap length commit.history ∙ length-append old.history _

module _ (old new : View) (commit : Commits old new) (sizes : SoundSizes old) (firm : (s : Spilled) → Contains (all_spilled old) s → s.desc.name.creator ≤ length old.history + 1) (heir : Option ℕ) where
  -- the spilled tasks as the order read them before, and as it reads them after the commit
  abbrev before : List Keyed
  before = map (keyed_spilled (length old.history) (Some commit.id)) (all_spilled old)

  abbrev after : List Keyed
  after = map (keyed_spilled (length old.history + 1) heir) (all_spilled old)

  -- the creator of each spilled task has committed
  spilled_after : (j : ℕ) (x : Keyed) → slice_get before j ≡ Some x → slice_get after j ≡ Some (without_creator x)
  spilled_after j x at =
      let from = got_mapped (keyed_spilled (length old.history) (Some commit.id)) (all_spilled old) j x at in
      let low = firm from.0 (get_contains (all_spilled old) j from.0 from.1) in
      get_mapped (keyed_spilled (length old.history + 1) heir) (all_spilled old) j from.0 from.1
      ∙ ap (λ c. Some (record (keyed_spilled 0 None from.0) { creator = c }))
      (ap (λ b. heir_unless b heir) (le-leb from.0.desc.name.creator (length old.history + 1) low))
      ∙ ap (λ y. Some (without_creator y)) (sym from.2)

  -- where there was no spilled task there is none
  none_after : (j : ℕ) → slice_get before j ≡ None → slice_get after j ≡ None
  none_after j none =
      let nothing = none_of (keyed_spilled (length old.history) (Some commit.id)) (slice_get (all_spilled old) j)
      (sym (slice_get-map (keyed_spilled (length old.history) (Some commit.id)) (all_spilled old) j) ∙ none) in
      slice_get-map (keyed_spilled (length old.history + 1) heir) (all_spilled old) j
      ∙ ap (option_map (keyed_spilled (length old.history + 1) heir)) nothing

  -- a spilled task whose creator is not the task that commits has no uncommitted one
  spilled_free : (j : ℕ) (x : Keyed) → slice_get before j ≡ Some x → x.creator ≢ Some commit.id → x.creator ≡ None
  spilled_free j x at free = by_creator x.creator refl
    where
      by_creator : (c : Option ℕ) → x.creator ≡ c → x.creator ≡ None
      by_creator None is = is
      by_creator (Some c) is =
          absurd (free (is ∙ sym (spilled_creator (length old.history) (Some commit.id) (all_spilled old) x c (j, at) is)))

  -- all tasks after the commit, with the spilled ones under their ids of before
  abbrev mid : ℕ → Option Keyed
  mid = beside (length old.tasks) (keyed_tasks new) after

  -- for the order this is a commit
  commits_all : order.CommitsInKeys (all_keyed old (Some commit.id)) mid commit.id
  commits_all = record { gone = gone; children = children; others = others; none = none }
    where
      bound : ℕ
      bound = length old.tasks

      gone : mid commit.id ≡ None
      gone =
          low_is bound (keyed_tasks new) after commit.id (lt-ltb commit.id bound (id_below old commit.id commit.task commit.least.queued_at.there))
          ∙ ap (option_map keyed_task) (leaves old new commit)

      children : (k : ℕ) (x : Keyed) → k ≢ commit.id → all_keyed old (Some commit.id) k ≡ Some x
          → x.creator ≡ Some commit.id → mid k ≡ Some (without_creator x)
      children k x other at child = by_test (nat_lt k bound) refl
        where
          by_test : (b : Bool) → nat_lt k bound ≡ b → mid k ≡ Some (without_creator x)
          by_test true low =
              low_is bound (keyed_tasks new) after k low
              ∙ keyed_child old new commit k x other (sym (low_is bound (keyed_tasks old) before k low) ∙ at) child
          by_test false high =
              high_is bound (keyed_tasks new) after k high
              ∙ spilled_after (k - bound) x (sym (high_is bound (keyed_tasks old) before k high) ∙ at)

      others : (k : ℕ) (x : Keyed) → k ≢ commit.id → all_keyed old (Some commit.id) k ≡ Some x
          → x.creator ≢ Some commit.id → mid k ≡ Some x
      others k x other at free = by_test (nat_lt k bound) refl
        where
          by_test : (b : Bool) → nat_lt k bound ≡ b → mid k ≡ Some x
          by_test true low =
              low_is bound (keyed_tasks new) after k low
              ∙ keyed_other old new commit k x other (sym (low_is bound (keyed_tasks old) before k low) ∙ at) free
          by_test false high =
              let entry = sym (high_is bound (keyed_tasks old) before k high) ∙ at in
              high_is bound (keyed_tasks new) after k high ∙ spilled_after (k - bound) x entry
              ∙ ap Some (freed_is x (spilled_free (k - bound) x entry free))

      none : (k : ℕ) → all_keyed old (Some commit.id) k ≡ None → mid k ≡ None
      none k at = by_test (nat_lt k bound) refl
        where
          by_test : (b : Bool) → nat_lt k bound ≡ b → mid k ≡ None
          by_test true low =
              low_is bound (keyed_tasks new) after k low
              ∙ ap (option_map keyed_task) (none_stays old new commit k (none_of keyed_task (task_at old k) (sym (low_is bound (keyed_tasks old) before k low) ∙ at)))
          by_test false high =
              high_is bound (keyed_tasks new) after k high
              ∙ none_after (k - bound) (sym (high_is bound (keyed_tasks old) before k high) ∙ at)

  -- each queued task stands below both bounds
  bounded : (k : ℕ) (x : Keyed) → keyed_tasks new k ≡ Some x → (k < length old.tasks) × (k < length new.tasks)
  bounded k x at =
      let read = mapped_some keyed_task (task_at new k) x at in
      let was = was_there old new commit k read.0 read.1 in
      (id_below old k was.was was.there, id_below new k read.0 read.1)

  module _ (sound : SoundOrder old (Some commit.id)) (n : ℕ) (tie : commit.task.key.tb ≡ Some n) where
    ordered : IsOrdered (beside (length new.tasks) (keyed_tasks new) after)
        (levels_of (keyed_task commit.task)) old.next
    ordered =
        rename_keeps_order mid (beside (length new.tasks) (keyed_tasks new) after)
        (levels_of (keyed_task commit.task)) old.next
        (rebound (length old.tasks) (length new.tasks) (keyed_tasks new) after bounded (spilled_idle (length old.history + 1) heir (all_spilled old)))
        (commit_law (all_keyed old (Some commit.id)) mid (map closed_level old.path) old.next commit.id n (keyed_task commit.task)
        (least_of_all old sizes (Some commit.id) commit.id commit.task commit.least) tie commits_all sound.order)

    -- the path has the levels of the key
    path_is : map closed_level new.path ≡ levels_of (keyed_task commit.task)
    path_is =
        ap (map closed_level) commit.path
        ∙ map-append closed_level commit.task.key.domain (own_level commit.task ∷ [])
        ∙ ap (λ tb. map closed_level commit.task.key.domain ++ record { ts = commit.task.key.ts; tb = tb } ∷ []) tb_is
      where
        tb_is : Some (unwrap_or commit.task.key.tb 0) ≡ commit.task.key.tb
        tb_is = ap (λ tb. Some (unwrap_or tb 0)) tie ∙ sym tie

    pub commit_keeps_order : SoundOrder new heir
    commit_keeps_order =
        record { order = kept; numbers = subst (λ n. n ≤ DISPATCH_NUMBERS) (sym same_next) sound.numbers }
      where
        same_blocks : all_spilled new ≡ all_spilled old
        same_blocks = ap (λ v. all_spilled v) commit.frame

        same_next : new.next ≡ old.next
        same_next = ap (λ v. v.next) commit.frame

        kept : IsOrdered (all_keyed new heir) (map closed_level new.path) new.next
        kept =
            subst (λ count. IsOrdered (beside (length new.tasks) (keyed_tasks new) (map (keyed_spilled count heir) (all_spilled new))) (map closed_level new.path) new.next)
            (sym (one_longer old new commit))
            (subst (λ ss. IsOrdered (beside (length new.tasks) (keyed_tasks new) (map (keyed_spilled (length old.history + 1) heir) ss)) (map closed_level new.path) new.next)
            (sym same_blocks)
            (subst (λ path. IsOrdered (beside (length new.tasks) (keyed_tasks new) after) path new.next) (sym path_is)
            (subst (IsOrdered (beside (length new.tasks) (keyed_tasks new) after) (levels_of (keyed_task commit.task))) (sym same_next) ordered)))
