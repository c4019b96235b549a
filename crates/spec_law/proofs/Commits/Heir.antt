-- In a view in order there is an heir or none: the least of all tasks, where it is queued and dispatched.
use Rattle.std.proofs.Common.{◌≡◌, ◌≢◌, ◌+◌, ◌<◌, ℕ, true, length, Option, Some, None, refl, sym, ap, subst, ◌∙◌, inl}
use Rattle.std.proofs.Common.{inr, arith, map, slice_get, is_some}
use Rattle.std.proofs.lemmas.List.{length-map}
use Rattle.std.specs.declared.cmp.Ordering.TheVariants.{Less, Greater}
use Rattle.fractal_vt.specs.declared.key.Key.{Key}
use Rattle.fractal_vt.specs.Keys.{key_cmp}
use Rattle.fractal_vt.specs.Levels.{closed_level, levels_cmp}
use Rattle.fractal_vt.proofs.Proved.{first_not_greater, greater_not, mapped_some}
use Rattle.order_law.specs.Tasks.{Keyed, levels_of}
use Rattle.order_law.specs.Events.{IsLeastInKeys}
use Rattle.order_law.proofs.Proved.{beside_spilled, beside_which, least_is_below}
use Rattle.spill_store.specs.SpilledTasks.{Spilled, open_key}
use Rattle.spec_state.specs.declared.task.Task.{Task}
use Rattle.spec_state.specs.View.{View, task_at, block_at}
use Rattle.spec_state.specs.Groups.{all_keyed, all_spilled, keyed_tasks, keyed_task, keyed_spilled}
use Rattle.spec_state.specs.Least.{Queued, Spilled_at, spot_cmp, IsHeir}
use Rattle.spec_law.specs.Sound.{SoundOrder, SoundSizes}
use Rattle.spec_law.proofs.Tasks.Rebound.{below_all}
use Rattle.spec_law.proofs.Aborted.Spared.{least_key, not_below_least}
use Rattle.spec_law.proofs.Tasks.Filtered.{get_mapped, got_mapped}
use Rattle.spec_law.proofs.Tasks.Leasts.{makes_least}
use Rattle.spec_law.proofs.Tasks.Lowest.{lowest}
use Rattle.spec_law.proofs.Aborted.KeptHeir.{same_key, not_above}
use Rattle.spec_law.proofs.Tasks.Beside.{id_below, queued_stands}
use Rattle.spec_law.proofs.Tasks.Places.{place_in_all, place_in_one}

-- a key with an open tiebreaker ties with no key of a dispatched task
not_open : (key other : Key) → key.tb ≡ None → is_some other.tb ≡ true → key_cmp key other ≢ Greater
    → key_cmp other key ≢ Greater → ⊥
not_open key other open' numbered one two =
    let same = same_key key other one two in
    absurd (cc (sym (ap (λ k. is_some k.tb) same) ∙ ap is_some open', numbered))

module _ (view : View) (sizes : SoundSizes view) (sound : SoundOrder view None) where
  -- a spilled task, as the order reads it where there is no heir
  abbrev spilled_in_order : Spilled → Keyed
  spilled_in_order = keyed_spilled (length view.history) None

  -- the bound of the ids: so many slots, and behind them the spilled tasks
  abbrev bound : ℕ
  bound = length view.tasks + length (all_spilled view)

  -- each task stands below it
  below_bound : (k : ℕ) (x : Keyed) → all_keyed view None k ≡ Some x → k < bound
  below_bound k x at =
      let low = below_all (length view.tasks) (keyed_tasks view) (map spilled_in_order (all_spilled view)) bounded k x at in
      let same = length-map (all_spilled view) spilled_in_order in
      omega (arith, low, same)
    where
      bounded : (j : ℕ) (y : Keyed) → keyed_tasks view j ≡ Some y → j < length view.tasks
      bounded j y there = let read = mapped_some keyed_task (task_at view j) y there in id_below view j read.0 read.1

  -- where no task is uncommitted none is the heir
  no_heir : ((k : ℕ) → k < bound → all_keyed view None k ≡ None) → IsHeir view None
  no_heir none id task least runs =
      let at = queued_stands view None id task least.queued_at.there in
      absurd (cc (none id (below_bound id (keyed_task task) at), at))

  module _ (k : ℕ) (task : Keyed) (low : IsLeastInKeys (all_keyed view None) k task) where
    -- the least of all tasks, where it is dispatched, is the heir
    dispatched_heir : (t : Task) → task_at view k ≡ Some t → task ≡ keyed_task t → (n : ℕ) → t.key.tb ≡ Some n
        → IsHeir view (Some k)
    dispatched_heir t there is n tie = (t, makes_least view sizes k t there others spilled, ap is_some tie)
      where
        others : (j : ℕ) (x : Task) → j ≢ k → task_at view j ≡ Some x → key_cmp t.key x.key ≡ Less
        others j x other at =
            subst (λ y. levels_cmp (levels_of y) (levels_of (keyed_task x)) ≡ Less) is
            (least_is_below (all_keyed view None) (map closed_level view.path) view.next k n task sound.order low (ap (λ y. y.last.tb) is ∙ tie) j (keyed_task x) other
            (queued_stands view None j x at))

        spilled : (tile place : ℕ) (s : Spilled) → slice_get (block_at view tile) place ≡ Some s
            → key_cmp t.key (open_key s) ≢ Greater
        spilled tile place s at =
            let all = place_in_all view.blocks tile place s at in
            let stands = beside_spilled (length view.tasks) (keyed_tasks view) (map spilled_in_order (all_spilled view)) (spilled_in_order s) (all.0, get_mapped spilled_in_order (all_spilled view) all.0 s all.1) in
            subst (λ y. levels_cmp (levels_of y) (levels_of (spilled_in_order s)) ≢ Greater) is
            (low.least stands.0 (spilled_in_order s) stands.1)

    -- where it is idle there is none
    idle_none : (t : Task) → task_at view k ≡ Some t → task ≡ keyed_task t → t.key.tb ≡ None → IsHeir view None
    idle_none t there is open' id other least runs =
        not_open t.key other.key open' runs
        (subst (λ y. levels_cmp (levels_of y) (levels_of (keyed_task other)) ≢ Greater) is (low.least id (keyed_task other) (queued_stands view None id other least.queued_at.there)))
        (not_above other.key t.key (not_below_least view sizes id k other t least there))

    -- nor where it is spilled
    spilled_none : (s : Spilled) (place : ℕ) → slice_get (all_spilled view) place ≡ Some s → task ≡ spilled_in_order s
        → IsHeir view None
    spilled_none s place at is id other least runs =
        let one = place_in_one view.blocks place s at in
        let whole = least.least.least (Spilled_at one.0 one.1) (open_key s) (s, one.2, refl) in
        let above =
        subst (λ key. key_cmp key (open_key s) ≢ Greater) (least_key view id other least)
        (first_not_greater (key_cmp least.least.key (open_key s)) (spot_cmp (Queued other.tile least.place) (Spilled_at one.0 one.1)) whole)
        in
        not_open (open_key s) other.key refl runs
        (subst (λ y. levels_cmp (levels_of y) (levels_of (keyed_task other)) ≢ Greater) is (low.least id (keyed_task other) (queued_stands view None id other least.queued_at.there)))
        above

    -- there is an heir or none by how it stands
    by_lowest : (heir : Option ℕ) × IsHeir view heir
    by_lowest =
        elim (beside_which (length view.tasks) (keyed_tasks view) (map spilled_in_order (all_spilled view)) k task low.there) [
          | inl queued ↦ (let read = mapped_some keyed_task (task_at view k) task queued in by_tie read.0 read.1 read.2 read.0.key.tb refl)
          | inr at ↦ (let read = got_mapped spilled_in_order (all_spilled view) at.0 task at.1 in (None, spilled_none read.0 at.0 read.1 read.2))
        ]
      where
        by_tie : (t : Task) → task_at view k ≡ Some t → task ≡ keyed_task t → (tie : Option ℕ) → t.key.tb ≡ tie
            → (heir : Option ℕ) × IsHeir view heir
        by_tie t there is None tie = (None, idle_none t there is tie)
        by_tie t there is (Some n) tie = (Some k, dispatched_heir t there is n tie)

  -- the lowest of all tasks decides
  pub heir_of : (heir : Option ℕ) × IsHeir view heir
  heir_of = elim (lowest (all_keyed view None) bound) [
    | inl none ↦ (None, no_heir none)
    | inr low ↦ by_lowest low.id low.task
        (record { there = low.there; least = λ k y at. greater_not (levels_cmp (levels_of low.task) (levels_of y)) (low.low k y (below_bound k y at) at) })
  ]
