-- Tasks that move between queues and blocks leave the heir the heir, and make none where there was none.
use Rattle.std.proofs.Common.{◌≡◌, ◌≢◌, ◌⊎◌, ℕ, true, Option, Some, None, refl, sym, ap, subst, ◌∙◌, inl, inr, is_some}
use Rattle.std.specs.Prelude.{Contains}
use Rattle.std.specs.declared.cmp.Ordering.TheVariants.{Less, Greater}
use Rattle.fractal_vt.specs.declared.key.Key.{Key}
use Rattle.fractal_vt.specs.Keys.{key_cmp}
use Rattle.fractal_vt.proofs.Proved.{equal_keys_tie, first_not_greater, less_of}
use Rattle.spill_store.specs.SpilledTasks.{Spilled, open_key}
use Rattle.spec_state.specs.declared.task.Task.{Task}
use Rattle.spec_state.specs.View.{View, task_at}
use Rattle.spec_state.specs.Tasks.{is_dispatched}
use Rattle.spec_state.specs.Groups.{all_spilled}
use Rattle.spec_state.specs.Least.{Spot, Queued, Spilled_at, HasKey, spot_cmp, IsHeir, IsLeastTask}
use Rattle.spec_law.specs.Sound.{SoundOrder, SoundSizes}
use Rattle.spec_law.proofs.Aborted.Spared.{queued_at, least_key}
use Rattle.spec_law.proofs.Tasks.Leasts.{makes_least}
use Rattle.spec_law.proofs.Dispatches.Below.{same_number}
use Rattle.spec_law.proofs.Moves.Moving.{Moves, moved_to, IsSpilledIn, IsQueuedIn, runs_still, runs_was, spill_key}
use Rattle.spec_law.proofs.Moves.MovingOrder.{moved_order}
use Rattle.spec_law.proofs.Tasks.Places.{contains_get, get_contains, place_in_all, place_in_one}

-- each key of the one view is one of the other, where each task stands in the other, queued or spilled
spot_moves : (base one other : View) → SoundSizes other
    → ((k : ℕ) (t : Task) → task_at one k ≡ Some t → (task_at other k ≡ Some t) ⊎ IsSpilledIn base other t)
    → ((s : Spilled) → Contains (all_spilled one) s → Contains (all_spilled other) s ⊎ IsQueuedIn base other s)
    → (spot : Spot) (key : Key) → HasKey one spot key → (to : Spot) × HasKey other to key
spot_moves base one other sizes queued spilled spot key has = by_spot spot has
  where
    as_queued : (k : ℕ) (t : Task) → task_at other k ≡ Some t → key ≡ t.key → (to : Spot) × HasKey other to key
    as_queued k t there is = let at = queued_at other sizes k t there in (Queued t.tile at.0, (k, t, at.1, is))

    as_spilled : (s : Spilled) → Contains (all_spilled other) s → key ≡ open_key s → (to : Spot) × HasKey other to key
    as_spilled s among is =
        let place = contains_get (all_spilled other) s among in
        let at = place_in_one other.blocks place.0 s place.1 in
        (Spilled_at at.0 at.1, (s, at.2, is))

    by_spot : (from : Spot) → HasKey one from key → (to : Spot) × HasKey other to key
    by_spot (Queued tile place) has = elim (queued has.0 has.1 has.2.there) [
      | inl stays ↦ as_queued has.0 has.1 stays has.3
      | inr moved ↦ as_spilled moved.0 moved.1 (has.3 ∙ sym (spill_key base has.1 moved.0 moved.2))
    ]
    by_spot (Spilled_at tile place) has =
        let all = place_in_all one.blocks tile place has.0 has.1 in
        elim (spilled has.0 (get_contains (all_spilled one) all.0 has.0 all.1)) [
          | inl stays ↦ as_spilled has.0 stays has.2
          | inr moved ↦ as_queued moved.0 moved.1 moved.2 (has.2 ∙ spill_key base moved.1 has.0 moved.3)
        ]

-- where each key of the second view is one of the first, and dispatched tasks are the same, a dispatched least task of the first is that of
-- the second
pub least_still : (one other : View) (heir : Option ℕ) → SoundOrder one heir → SoundSizes other
    → ((k : ℕ) (t : Task) → task_at one k ≡ Some t → is_dispatched t ≡ true → task_at other k ≡ Some t)
    → ((k : ℕ) (t : Task) → task_at other k ≡ Some t → is_dispatched t ≡ true → task_at one k ≡ Some t)
    → ((spot : Spot) (key : Key) → HasKey other spot key → (to : Spot) × HasKey one to key)
    → (id : ℕ) (x : Task) → IsLeastTask one id x → is_dispatched x ≡ true → IsLeastTask other id x
least_still one other heir order sizes stays was spots id x least runs =
    makes_least other sizes id x (stays id x least.queued_at.there runs) others
    (λ tile place s at. upto (Spilled_at tile place) (open_key s) (s, at, refl))
  where
    upto : (spot : Spot) (key : Key) → HasKey other spot key → key_cmp x.key key ≢ Greater
    upto spot key has =
        let from = spots spot key has in
        subst (λ k. key_cmp k key ≢ Greater) (least_key one id x least)
        (first_not_greater (key_cmp least.least.key key) (spot_cmp (Queued x.tile least.place) from.0) (least.least.least from.0 key from.1))

    others : (k : ℕ) (t : Task) → k ≢ id → task_at other k ≡ Some t → key_cmp x.key t.key ≡ Less
    others k t differs there =
        let at = queued_at other sizes k t there in
        less_of (key_cmp x.key t.key) (upto (Queued t.tile at.0) t.key (k, t, at.1, refl))
        (λ tie. (
        let same : x.key ≡ t.key = (equal_keys_tie x.key t.key).0 tie in
        let run : is_dispatched t ≡ true = ap (λ key. is_some key.tb) (sym same) ∙ runs in
        differs (sym (same_number one heir order id k x t least.queued_at.there (was k t there run) runs (ap (λ key. key.tb) same)))
        ))

-- so the heir stays, and where there was none there is none
pub moved_heir : (old new : View) (heir : Option ℕ) → Moves old new → SoundOrder old heir → SoundSizes old
    → SoundSizes (moved_to old new)
    → IsHeir old heir → IsHeir (moved_to old new) heir
moved_heir old new (Some id) moves order sizes now heir = (
  heir.0,
  least_still old (moved_to old new) (Some id) order now (runs_still old new moves) (runs_was old new moves)
      (spot_moves old (moved_to old new) old sizes moves.queued moves.spilled) id heir.0 heir.1 heir.2,
  heir.2,
)
moved_heir old new None moves order sizes now none = λ id n least runs.
    none id n
    (least_still (moved_to old new) old None (moved_order old new None moves none order) sizes (runs_was old new moves) (runs_still old new moves)
    (spot_moves old old (moved_to old new) now moves.queued_still moves.spilled_still) id n least runs)
    runs
