-- The victim, which is the latest task of a queue other than the asker, as one place after another is looked at.
use Rattle.std.proofs.Common.{◌≡◌, ◌≢◌, ◌⊎◌, ◌≤◌, ◌+◌, ℕ, Bool, true, false, List, length, Option, Some, None, refl}
use Rattle.std.proofs.Common.{sym, ap, subst, ◌∙◌, inl, inr, arith, slice_get, slice_index_or}
use Rattle.std.specs.Prelude.{◌↔◌, IsSome, IsNone, IfSome, IsTrue, is_some}
use Rattle.std.proofs.lemmas.Bool.{cases_eq}
use Rattle.std.proofs.lemmas.Option.{slice_get-get_or}
use Rattle.tile_queues.specs.Queue.{AreDistinct}
use Rattle.spec_state.specs.declared.task.Task.{Task}
use Rattle.spec_state.specs.View.{View, task_at, queue_at}
use Rattle.spec_state.specs.Least.{IsFirm, Precedes}
use Rattle.spec_state.specs.Room.{Asker, Enqueuer, IsVictim}
use Rattle.spec_state.specs.Stored.{IsStored}
use Rattle.spec_state.proofs.Proved.{held_at}
use Rattle.spec_commit.specs.Latest.{HasLessKey, IsAmong, IsLatestOther}
use Rattle.spec_commit.proofs.Choices.{live_at}
use Rattle.spec_commit.proofs.Places.{less_precedes, place_precedes, precedes_trans}

pub is_there : (now : Option ℕ) (v : ℕ) → now ≡ Some v → IsNone now → ⊥
is_there None v is none = absurd (cc (is))
is_there (Some w) v is none = absurd (cc (none))

-- the latest so far is a task
pub live_latest : (size : ℕ) (view : View) (tile : ℕ) (asker : Asker) (count : ℕ) (latest : Option ℕ)
    → IsStored size view → IfSome latest (IsLatestOther view tile asker count)
    → IfSome latest (λ other. IsSome (task_at view other))
live_latest size view tile asker count None stored is = tt
live_latest size view tile asker count (Some v) stored is = live_at size view tile is.among.0 v stored is.among.2

module _ (size : ℕ) (view : View) (tile : ℕ) (stored : IsStored size view) (distinct : AreDistinct (queue_at view tile)) (asker : Asker) (i id : ℕ)
    (item : slice_get (queue_at view tile) i ≡ Some id) (latest : Option ℕ) (some : IfSome latest (IsLatestOther view tile asker i))
    (none : IsNone latest → (k : ℕ) → IsAmong view tile i k → asker ≡ Enqueuer k) where
  which : (k : ℕ) → IsAmong view tile (i + 1) k → IsAmong view tile i k ⊎ (id ≡ k)
  which k has = elim (cases_eq has.0 i) [
    | inl same ↦ inr (let both : Some id ≡ Some k = sym item ∙ ap (slice_get (queue_at view tile)) (sym same) ∙ has.2 in cc)
    | inr other ↦ inl (has.0, omega (arith, has.1, other), has.2)
  ]

  more : (k : ℕ) → IsAmong view tile i k → IsAmong view tile (i + 1) k
  more k has = (has.0, omega (arith, has.1), has.2)

  -- it stays the latest where this one has a lesser key
  stays : (v : ℕ) → latest ≡ Some v → HasLessKey view id v → IsLatestOther view tile asker (i + 1) v
  stays v is less = go (subst (λ o. IfSome o (IsLatestOther view tile asker i)) is some)
    where
      go : IsLatestOther view tile asker i v → IsLatestOther view tile asker (i + 1) v
      go was = record {
        among = more v was.among;
        other = was.other;
        last = λ k has differs asks. elim (which k has) [
          | inl old ↦ was.last k old differs asks
          | inr same ↦ subst (λ j. Precedes view tile j v) same (less_precedes view tile distinct id v less)
        ];
      }

  -- and else this one is the latest
  comes_before : (latest : Option ℕ) → IfSome latest (IsLatestOther view tile asker i)
      → (IsNone latest → (k : ℕ) → IsAmong view tile i k → asker ≡ Enqueuer k)
      → IfSome latest (λ v. HasLessKey view id v → ⊥) → (k : ℕ) → IsAmong view tile i k → asker ≢ Enqueuer k
      → Precedes view tile k id
  comes_before None some none not k has asks = absurd (asks (none refl k has))
  comes_before (Some v) some none not k has asks =
      let last : Precedes view tile v id = place_precedes view tile distinct v id some.among.0 i some.among.2 item some.among.1 not in
      let there = (stored.queued_are tile v).0 (held_at (queue_at view tile) some.among.0 v some.among.2) in
      elim (cases_eq k v) [
        | inl same ↦ subst (λ j. Precedes view tile j id) (sym same) last
        | inr other ↦ precedes_trans view tile distinct k v id some.among.0 there.0 (record { queued = some.among.2; there = there.1 }) (some.last k has other asks) last
      ]

  takes_over : (asker ≢ Enqueuer id) → IfSome latest (λ v. HasLessKey view id v → ⊥)
      → IsLatestOther view tile asker (i + 1) id
  takes_over other not = record {
    among = (i, omega arith, item);
    other = other;
    last = λ k has differs asks. elim (which k has) [
      | inl old ↦ comes_before latest some none not k old asks
      | inr same ↦ absurd (differs (sym same))
    ];
  }

  pub later_is : (v : ℕ) → (asker ≢ Enqueuer id)
      → ((latest ≡ Some v) × HasLessKey view id v) ⊎ ((v ≡ id) × IfSome latest (λ k. HasLessKey view id k → ⊥))
      → IsLatestOther view tile asker (i + 1) v
  later_is v other (inl old) = stays v old.0 old.1
  later_is v other (inr new) = subst (IsLatestOther view tile asker (i + 1)) (sym new.0) (takes_over other new.1)

  -- who asks is passed over
  pub passed_some : asker ≡ Enqueuer id → (now : Option ℕ) → now ≡ latest
      → IfSome now (IsLatestOther view tile asker (i + 1))
  passed_some asks now same = subst (λ o. IfSome o (IsLatestOther view tile asker (i + 1))) (sym same) (go latest some)
    where
      go : (latest : Option ℕ) → IfSome latest (IsLatestOther view tile asker i)
          → IfSome latest (IsLatestOther view tile asker (i + 1))
      go None some = tt
      go (Some v) was = record {
        among = more v was.among;
        other = was.other;
        last = λ k has differs not. elim (which k has) [
          | inl old ↦ was.last k old differs not
          | inr same ↦ absurd (not (asks ∙ ap Enqueuer same))
        ];
      }

  pub passed_none : asker ≡ Enqueuer id → (now : Option ℕ) → now ≡ latest → IsNone now → (k : ℕ)
      → IsAmong view tile (i + 1) k → asker ≡ Enqueuer k
  passed_none asks now same is k has = elim (which k has) [
    | inl old ↦ none (ap is_some (sym same) ∙ is) k old
    | inr own ↦ asks ∙ ap Enqueuer own
  ]

-- once all places are looked at it is the victim
pub is_victim : (size : ℕ) (view : View) (tile : ℕ) (asker : Asker) (count v : ℕ) (ids : List ℕ) → IsStored size view
    → ids ≡ queue_at view tile → length ids ≤ count
    → (latest : Option ℕ) → latest ≡ Some v → IfSome latest (IsLatestOther view tile asker count)
    → (task : Task) × IsVictim view tile asker v task
is_victim size view tile asker count v ids stored same past latest found some =
    let is : IsLatestOther view tile asker count v = subst (λ o. IfSome o (IsLatestOther view tile asker count)) found some in
    let queued = held_at (queue_at view tile) is.among.0 v is.among.2 in
    let there = (stored.queued_are tile v).0 queued in (
      there.0,
      record {
        queued = queued;
        there = there.1;
        other = is.other;
        last = λ k differs asks has.
            let long : length (queue_at view tile) ≤ count = subst (λ xs. length xs ≤ count) same past in
            is.last k (has.0, omega (arith, has.1, long), slice_get-get_or (queue_at view tile) has.0 k has.1 ∙ ap Some has.2) differs asks;
      },
    )

-- where four tasks are queued not all of them ask
pub one_is_other : (view : View) (tile : ℕ) (asker : Asker) (count : ℕ) (ids : List ℕ)
    → AreDistinct (queue_at view tile) → ids ≡ queue_at view tile → 4 ≤ length ids → length ids ≤ count
    → ((k : ℕ) → IsAmong view tile count k → asker ≡ Enqueuer k) → ⊥
one_is_other view tile asker count ids distinct same long past all =
    let long' : 4 ≤ length (queue_at view tile) = subst (λ xs. 4 ≤ length xs) same long in
    let past' : length (queue_at view tile) ≤ count = subst (λ xs. length xs ≤ count) same past in
    let first = all (slice_index_or (queue_at view tile) 0 0) (0, omega (arith, long', past'), slice_get-get_or (queue_at view tile) 0 0 (omega (arith, long'))) in
    let second = all (slice_index_or (queue_at view tile) 1 0) (1, omega (arith, long', past'), slice_get-get_or (queue_at view tile) 1 0 (omega (arith, long'))) in
    distinct 0 1 0 (omega arith) (omega (arith, long')) (let both = sym first ∙ second in cc)

-- whether a task is firm, where that is read
pub read_firm : (view : View) (id : ℕ) (task : Task) (firm : Bool) → task_at view id ≡ Some task
    → IfSome (task_at view id) (λ t. IsTrue firm ↔ IsFirm view t) → firm ≡ true → IsFirm view task
read_firm view id task firm there read is = (subst (λ o. IfSome o (λ t. IsTrue firm ↔ IsFirm view t)) there read).0 is

pub read_loose : (view : View) (id : ℕ) (task : Task) (firm : Bool) → task_at view id ≡ Some task
    → IfSome (task_at view id) (λ t. IsTrue firm ↔ IsFirm view t) → firm ≡ false → IsFirm view task → ⊥
read_loose view id task firm there read is holds =
    absurd (cc (sym ((subst (λ o. IfSome o (λ t. IsTrue firm ↔ IsFirm view t)) there read).1 holds) ∙ is))
