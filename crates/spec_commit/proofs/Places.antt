-- The order along a tile's queue, in which no id stands twice.
use Rattle.std.proofs.Common.{◌≡◌, ◌≢◌, ◌⊎◌, ◌<◌, ℕ, Some, refl, sym, ap, ◌∙◌, inl, inr, arith, slice_get}
use Rattle.std.specs.Ordering.{nat_cmp, ordering_then, ordering_reverse}
use Rattle.std.specs.declared.cmp.Ordering.{Ordering}
use Rattle.std.specs.declared.cmp.Ordering.TheVariants.{Less, Equal, Greater}
use Rattle.fractal_vt.specs.declared.key.Key.{Key}
use Rattle.fractal_vt.specs.Keys.{key_cmp}
use Rattle.fractal_vt.proofs.Proved.{key_cmp_total, less_number, same_number, below_from, less_then}
use Rattle.tile_queues.specs.Queue.{AreDistinct}
use Rattle.tile_queues.proofs.Proved.{one_place}
use Rattle.spec_state.specs.declared.task.Task.{Task}
use Rattle.spec_state.specs.View.{View, queue_at}
use Rattle.spec_state.specs.Least.{Queued, ranked_cmp, IsQueuedAt, Precedes}
use Rattle.spec_commit.specs.Latest.{HasLessKey}

-- in one tile an order by key and place is one by key, or by place where keys tie
ranked : (o : Ordering) (tile p q : ℕ)
    → ordering_then o (ordering_then (nat_cmp tile tile) (nat_cmp p q)) ≡ ordering_then o (nat_cmp p q)
ranked o tile p q = ap (λ r. ordering_then o (ordering_then r (nat_cmp p q))) (same_number tile)

by_parts : (o : Ordering) (p q : ℕ) → ordering_then o (nat_cmp p q) ≡ Less → (o ≡ Less) ⊎ ((o ≡ Equal) × (p < q))
by_parts Less p q less = inl refl
by_parts Equal p q less = inr (refl, below_from p q less)
by_parts Greater p q less = absurd (cc (less))

parts : (o : Ordering) (tile p q : ℕ) → ordering_then o (ordering_then (nat_cmp tile tile) (nat_cmp p q)) ≡ Less
    → (o ≡ Less) ⊎ ((o ≡ Equal) × (p < q))
parts o tile p q less = by_parts o p q (sym (ranked o tile p q) ∙ less)

by_key : (o : Ordering) (tile p q : ℕ) → o ≡ Less
    → ordering_then o (ordering_then (nat_cmp tile tile) (nat_cmp p q)) ≡ Less
by_key o tile p q less = ap (λ r. ordering_then r (ordering_then (nat_cmp tile tile) (nat_cmp p q))) less

by_place : (o : Ordering) (tile p q : ℕ) → o ≢ Greater → p < q
    → ordering_then o (ordering_then (nat_cmp tile tile) (nat_cmp p q)) ≡ Less
by_place Less tile p q not less = refl
by_place Equal tile p q not less = ranked Equal tile p q ∙ less_number p q less
by_place Greater tile p q not less = absurd (not refl)

ranked_trans : (a b c : Key) (tile p q r : ℕ) → ranked_cmp a (Queued tile p) b (Queued tile q) ≡ Less
    → ranked_cmp b (Queued tile q) c (Queued tile r) ≡ Less
    → ranked_cmp a (Queued tile p) c (Queued tile r) ≡ Less
ranked_trans a b c tile p q r first second = elim (parts (key_cmp a b) tile p q first) [
  | inl less ↦ elim (parts (key_cmp b c) tile q r second) [
    | inl then ↦ by_key (key_cmp a c) tile p r (key_cmp_total.trans a b c less then)
    | inr then ↦ by_key (key_cmp a c) tile p r (less_then key_cmp_total a b c less (λ greater. absurd (cc (greater, then.0))))
  ]
  | inr tie ↦ elim (parts (key_cmp b c) tile q r second) [
    | inl then ↦ by_key (key_cmp a c) tile p r (key_cmp_total.congr a b c tie.0 ∙ then)
    | inr then ↦ by_place (key_cmp a c) tile p r (λ greater. absurd (cc (greater, key_cmp_total.congr a b c tie.0, then.0))) (omega (arith, tie.1, then.1))
  ]
]

module _ (view : View) (tile : ℕ) (distinct : AreDistinct (queue_at view tile)) where
  -- of two tasks the one with the lesser key comes first
  pub less_precedes : (a b : ℕ) → HasLessKey view a b → Precedes view tile a b
  less_precedes a b is p q x y at then =
      let first : Some x ≡ Some is.x = sym at.there ∙ is.first in
      let second : Some y ≡ Some is.y = sym then.there ∙ is.second in
      let same : x ≡ is.x = cc in
      let same' : y ≡ is.y = cc in
      by_key (key_cmp x.key y.key) tile p q (ap (λ (t : Task). key_cmp t.key y.key) same ∙ ap (λ (t : Task). key_cmp is.x.key t.key) same' ∙ is.less)

  -- and the one at the earlier place, where its key isn't greater
  pub place_precedes : (a b i j : ℕ) → slice_get (queue_at view tile) i ≡ Some a
      → slice_get (queue_at view tile) j ≡ Some b → i < j → (HasLessKey view b a → ⊥) → Precedes view tile a b
  place_precedes a b i j here there before not p q x y at then =
      let p_is = one_place (queue_at view tile) p i a distinct at.queued here in
      let q_is = one_place (queue_at view tile) q j b distinct then.queued there in
      by_place (key_cmp x.key y.key) tile p q (λ greater. not (record { x = y; y = x; first = then.there; second = at.there; less = key_cmp_total.antisymm y.key x.key ∙ ap ordering_reverse greater }))
      (omega (arith, p_is, q_is, before))

  pub precedes_trans : (a b c i : ℕ) (t : Task) → IsQueuedAt view tile i b t → Precedes view tile a b
      → Precedes view tile b c → Precedes view tile a c
  precedes_trans a b c i t mid first second p q x y at then =
      ranked_trans x.key t.key y.key tile p i q (first p i x t at mid) (second i q t y mid then)

  -- who comes before has no greater key
  pub precedes_upto : (a b i j : ℕ) (x y : Task) → IsQueuedAt view tile i a x → IsQueuedAt view tile j b y
      → Precedes view tile a b → key_cmp x.key y.key ≢ Greater
  precedes_upto a b i j x y at then before greater =
      elim (parts (key_cmp x.key y.key) tile i j (before i j x y at then)) [
        | inl less ↦ absurd (cc (less, greater))
        | inr tie ↦ absurd (cc (tie.0, greater))
      ]
