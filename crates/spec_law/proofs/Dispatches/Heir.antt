-- The heir after a dispatch: the one of before, where there was one, and else the dispatched task, where it is the least one then.
use Rattle.std.proofs.Common.{◌≡◌, ◌≢◌, ◌⊎◌, ◌<◌, ◌+◌, ◌∷◌, ◌++◌, ℕ, true, [], length, Option, Some, None, refl, sym}
use Rattle.std.proofs.Common.{ap, subst, ◌∙◌, inl, inr, arith, map, is_some}
use Rattle.std.proofs.lemmas.Bool.{cases_eq}
use Rattle.std.proofs.lemmas.Cmp.{upto}
use Rattle.std.proofs.lemmas.List.{length-map}
use Rattle.std.specs.declared.cmp.Ordering.{Ordering}
use Rattle.std.specs.declared.cmp.Ordering.TheVariants.{Less, Equal, Greater}
use Rattle.fractal_vt.specs.Keys.{key_cmp}
use Rattle.fractal_vt.specs.Levels.{closed_level, level_cmp, levels_cmp}
use Rattle.fractal_vt.proofs.Proved.{greater_not, less_of, levels_cmp_total, mapped_some, not_greater}
use Rattle.order_law.specs.Ordered.{TieBelow, LevelsBelow}
use Rattle.order_law.specs.Tasks.{Keyed, levels_of}
use Rattle.order_law.proofs.Proved.{cmp_alike, levels_alike, LevelsBelow-append}
use Rattle.spec_state.specs.declared.task.Task.{Task}
use Rattle.spec_state.specs.View.{View, task_at}
use Rattle.spec_state.specs.Tasks.{is_dispatched}
use Rattle.spec_state.specs.Groups.{all_keyed, all_spilled, keyed_tasks, keyed_spilled, keyed_task}
use Rattle.spec_state.specs.Least.{IsHeir, IsLeastTask}
use Rattle.spec_state.specs.Changes.{Dispatches}
use Rattle.spec_law.specs.Sound.{SoundOrder, SoundSizes}
use Rattle.spec_law.proofs.Tasks.Beside.{which, spilled_stands, id_below, queued_stands}
use Rattle.spec_law.proofs.Tasks.Leasts.{makes_least}
use Rattle.spec_law.proofs.Tasks.Lowest.{IsLowest, lowest}
use Rattle.spec_law.proofs.Tasks.Rebound.{below_all}
use Rattle.spec_law.proofs.Dispatches.Below.{number_of, no_tie, upto_spilled, upto_queued, below_others}
use Rattle.spec_law.proofs.Dispatches.One as one
use Rattle.spec_law.proofs.Dispatches.One.{after, now, was, was_this}
use Rattle.spec_law.proofs.Tasks.Places.{place_in_all, place_in_one}

-- the levels of a task that was dispatched have numbers of before
levels_below : (view : View) (heir : Option ℕ) → SoundOrder view heir → (k : ℕ) (t : Task) → task_at view k ≡ Some t
    → is_dispatched t ≡ true
    → LevelsBelow view.next (levels_of (keyed_task t))
levels_below view heir sound k t there runs =
    let number = number_of t.key.tb runs in
    let stands = queued_stands view heir k t there in
    let below : number.0 < view.next = sound.order.number_below k (keyed_task t) number.0 stands number.1 in
    LevelsBelow-append view.next (map closed_level t.key.domain) (keyed_task t).last (sound.order.domain_numbers k (keyed_task t) stands)
    (subst (TieBelow view.next) (sym number.1) below)

module _ (old new : View) (heir : Option ℕ) (tile : ℕ) (d : Dispatches tile old new) (open' : d.task.key.tb ≡ None) (order : SoundOrder old heir) (sizes : SoundSizes old) (sizes' : SoundSizes (after old new tile d)) (order' : SoundOrder (after old new tile d) heir) where
  -- a dispatched task of before compares with the dispatched one as it did
  alike : (k : ℕ) (t : Task) → task_at old k ≡ Some t → is_dispatched t ≡ true
      → key_cmp t.key d.task.key ≡ key_cmp t.key (now old new tile d).key
  alike k t there runs =
      ap (λ tie. levels_cmp (levels_of (keyed_task t)) (map closed_level d.task.key.domain ++ record { ts = d.task.key.ts; tb = tie } ∷ [])) open'
      ∙ cmp_alike level_cmp (record { ts = d.task.key.ts; tb = None }) (record { ts = d.task.key.ts; tb = Some old.next })
      (levels_of (keyed_task t)) (map closed_level d.task.key.domain)
      (levels_alike d.task.key.ts old.next (levels_of (keyed_task t)) (levels_below old heir order k t there runs))

  -- a dispatched task is another one
  runs_other : (k : ℕ) (t : Task) → task_at old k ≡ Some t → is_dispatched t ≡ true → k ≢ d.id
  runs_other k t there runs same =
      absurd (cc (sym runs ∙ ap is_dispatched (was_this old new tile d k t same there) ∙ ap is_some open'))

  -- the heir stays
  module _ (h : ℕ) (is : IsHeir old (Some h)) where
    others : (k : ℕ) (t : Task) → k ≢ h → task_at new k ≡ Some t → key_cmp is.0.key t.key ≡ Less
    others k t other at = elim (one.which old new tile d k t at) [
      | inl here ↦
          let was_other : d.id ≢ h = λ same. other (here.0 ∙ same) in
          let below : key_cmp is.0.key d.task.key ≡ Less =
          below_others old h is.0 is.1 heir order sizes is.2 d.id d.task was_other (was old new tile d)
          in
          ap (λ x. key_cmp is.0.key x.key) here.1 ∙ sym (alike h is.0 is.1.queued_at.there is.2) ∙ below
      | inr there ↦ below_others old h is.0 is.1 heir order sizes is.2 k t other there.1
    ]

    pub heir_stays : IsHeir (after old new tile d) (Some h)
    heir_stays = (
      is.0,
      makes_least (after old new tile d) sizes' h is.0
          (d.changes.others h (runs_other h is.0 is.1.queued_at.there is.2) ∙ is.1.queued_at.there) others (upto_spilled old h is.0 is.1),
      is.2,
    )

    pub heir_other : h ≢ d.id
    heir_other = runs_other h is.0 is.1.queued_at.there is.2

  -- where there was no heir, no other task is one
  none_other : IsHeir old None → (k : ℕ) (t : Task) → IsLeastTask (after old new tile d) k t → is_dispatched t ≡ true
      → k ≢ d.id → ⊥
  none_other none k t least runs other =
      none k t (makes_least old sizes k t there below (upto_spilled (after old new tile d) k t least)) runs
    where
      there : task_at old k ≡ Some t
      there = sym (d.changes.others k other) ∙ least.queued_at.there

      below : (j : ℕ) (x : Task) → j ≢ k → task_at old j ≡ Some x → key_cmp t.key x.key ≡ Less
      below j x differs at = elim (cases_eq j d.id) [
        | inl same ↦
            let changed : task_at new j ≡ Some (now old new tile d) = ap (task_at new) same ∙ d.changes.changed in
            ap (λ y. key_cmp t.key y.key) (was_this old new tile d j x same at)
            ∙ alike k t (sym (d.changes.others k other) ∙ least.queued_at.there) runs
            ∙ below_others (after old new tile d) k t least heir order' sizes' runs j (now old new tile d) differs changed
        | inr same_task ↦ below_others (after old new tile d) k t least heir order' sizes' runs j x differs (d.changes.others j same_task ∙ at)
      ]

  -- the dispatched task is the least one then
  abbrev IsLeastThen : Type 0
  IsLeastThen = IsLeastTask (after old new tile d) d.id (now old new tile d)

  -- the bound of the ids: so many slots, and behind them the spilled tasks
  abbrev bound : ℕ
  bound = length new.tasks + length (all_spilled old)

  -- no task stands from the bound on
  below_bound : (k : ℕ) (x : Keyed) → all_keyed (after old new tile d) heir k ≡ Some x → k < bound
  below_bound k x at =
      let low = below_all (length new.tasks) (keyed_tasks new) (map (keyed_spilled (length old.history) heir) (all_spilled old)) bounded k x at in
      let same = length-map (all_spilled old) (keyed_spilled (length old.history) heir) in
      omega (arith, low, same)
    where
      bounded : (j : ℕ) (y : Keyed) → keyed_tasks new j ≡ Some y → j < length new.tasks
      bounded j y there = let read = mapped_some keyed_task (task_at new j) y there in id_below new j read.0 read.1

  -- the dispatched task is one of all
  stands : all_keyed (after old new tile d) heir d.id ≡ Some (keyed_task (now old new tile d))
  stands = queued_stands (after old new tile d) heir d.id (now old new tile d) d.changes.changed

  -- where the lowest task is not below it, it is the least
  is_least : (low : IsLowest (all_keyed (after old new tile d) heir) bound)
      → levels_cmp (levels_of (keyed_task (now old new tile d))) (levels_of low.task) ≢ Greater → IsLeastThen
  is_least low upto_low = makes_least (after old new tile d) sizes' d.id (now old new tile d) d.changes.changed
      (λ k t other there.
      less_of (key_cmp (now old new tile d).key t.key)
      (upto_each k (keyed_task t) (queued_stands (after old new tile d) heir k t there))
      (no_tie (after old new tile d) heir order' d.id k (now old new tile d) t d.changes.changed there refl other))
      (λ at place s there. (
      let all = place_in_all old.blocks at place s there in
      let entry = spilled_stands (after old new tile d) heir all.0 s all.1 in
      upto_each entry.0 (keyed_spilled (length old.history) heir s) entry.1
      ))
    where
      upto_each : (k : ℕ) (x : Keyed) → all_keyed (after old new tile d) heir k ≡ Some x
          → levels_cmp (levels_of (keyed_task (now old new tile d))) (levels_of x) ≢ Greater
      upto_each k x at =
          greater_not (levels_cmp (levels_of (keyed_task (now old new tile d))) (levels_of x))
          (upto levels_cmp_total (levels_of (keyed_task (now old new tile d))) (levels_of low.task) (levels_of x)
          (not_greater (levels_cmp (levels_of (keyed_task (now old new tile d))) (levels_of low.task)) upto_low) (low.low k x (below_bound k x at) at))

  -- where it is below it, it isn't
  is_not_least : (low : IsLowest (all_keyed (after old new tile d) heir) bound)
      → levels_cmp (levels_of (keyed_task (now old new tile d))) (levels_of low.task) ≡ Greater
      → IsLeastThen → ⊥
  is_not_least low greater least = elim (which (after old new tile d) heir low.id low.task low.there) [
    | inl q ↦
        upto_queued (after old new tile d) d.id (now old new tile d) least sizes' low.id q.0 q.1
        (ap (λ x. levels_cmp (levels_of (keyed_task (now old new tile d))) (levels_of x)) (sym q.2) ∙ greater)
    | inr s ↦
        let at = place_in_one old.blocks s.0 s.1 s.2 in
        upto_spilled (after old new tile d) d.id (now old new tile d) least at.0 at.1 s.1 at.2
        (ap (λ x. levels_cmp (levels_of (keyed_task (now old new tile d))) (levels_of x)) (sym s.3) ∙ greater)
  ]

  -- which of both, the lowest of all tasks tells
  decided : IsLeastThen ⊎ (IsLeastThen → ⊥)
  decided = elim (lowest (all_keyed (after old new tile d) heir) bound) [
    | inl none ↦ absurd (cc (sym (none d.id (below_bound d.id (keyed_task (now old new tile d)) stands)) ∙ stands))
    | inr low ↦ by_order low (levels_cmp (levels_of (keyed_task (now old new tile d))) (levels_of low.task)) refl
  ]
    where
      by_order : (low : IsLowest (all_keyed (after old new tile d) heir) bound) (o : Ordering)
          → levels_cmp (levels_of (keyed_task (now old new tile d))) (levels_of low.task) ≡ o
          → IsLeastThen ⊎ (IsLeastThen → ⊥)
      by_order low Less is = inl (is_least low (λ e. absurd (cc (sym is ∙ e))))
      by_order low Equal is = inl (is_least low (λ e. absurd (cc (sym is ∙ e))))
      by_order low Greater is = inr (is_not_least low is)

  -- where there was no heir, the dispatched task is it, or none is
  pub heir_after : IsHeir old None → IsHeir (after old new tile d) (Some d.id) ⊎ IsHeir (after old new tile d) None
  heir_after none = elim decided [
    | inl least ↦ inl (now old new tile d, least, refl)
    | inr not_least ↦ inr (λ k t least runs. elim (one.which old new tile d k t least.queued_at.there) [
      | inl here ↦ not_least (subst (λ x. IsLeastTask (after old new tile d) d.id x) here.1 (subst (λ j. IsLeastTask (after old new tile d) j t) here.0 least))
      | inr there ↦ none_other none k t least runs there.0
    ])
  ]
