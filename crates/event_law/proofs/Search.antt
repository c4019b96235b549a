-- Of finitely many values in a total order there is one that is above none, or there is none at all.
use Rattle.std.proofs.Common.{ℕ, zero, suc, ◌≡◌, ◌<◌, ◌⊎◌, inl, inr, false, refl, sym, ap, subst, ◌∙◌, arith}
use Rattle.std.proofs.lemmas.Bool.{cases_eq}
use Rattle.std.proofs.lemmas.Cmp.{tied_itself, upto}
use Rattle.std.specs.Cmp.{IsTotalOrder}
use Rattle.std.specs.Ordering.{is_gt, ordering_reverse}
use Rattle.std.specs.declared.cmp.Ordering.{Ordering}
use Rattle.std.specs.declared.cmp.Ordering.TheVariants.{Less, Equal, Greater}

-- one of the values, which is above none of them
pub record IsLeastOf {X : Type 0} (order : X → X → Ordering) (among : X → Type 0) : Type 0 where
  pub one : X
  pub is : among one
  pub low : (other : X) → among other → is_gt (order one other) ≡ false

-- there is no value, or one that is above none
abbrev pub HasLeast : {X : Type 0} → (X → X → Ordering) → (X → Type 0) → Type 0
HasLeast {X} order among = ((x : X) → among x → ⊥) ⊎ IsLeastOf order among

-- it stands at one of the places below a bound
abbrev pub IsBelow : {X : Type 0} → (ℕ → X → Type 0) → ℕ → X → Type 0
IsBelow {X} at bound x = (k : ℕ) × (k < bound) × at k x

module _ {X : Type 0} (order : X → X → Ordering) (total : IsTotalOrder order) where
  -- a value beside which there is no other is the least
  pub only_one : (among : X → Type 0) (x : X) → among x → ((y : X) → among y → y ≡ x) → HasLeast order among
  only_one among x is same =
      inr (record {
        one = x;
        is = is;
        low = λ y other. subst (λ z. is_gt (order x z) ≡ false) (sym (same y other)) (ap is_gt (tied_itself total x));
      })

  -- values of two kinds have a least one where both kinds have
  pub either_least : (first second : X → Type 0) → HasLeast order first → HasLeast order second
      → HasLeast order (λ x. first x ⊎ second x)
  either_least first second (inl none) (inl nor) = inl (λ x is. elim is [ inl one ↦ none x one | inr two ↦ nor x two ])
  either_least first second (inl none) (inr low) =
      inr (record { one = low.one; is = inr low.is; low = λ y is. elim is [ inl one ↦ absurd (none y one) | inr two ↦ low.low y two ] })
  either_least first second (inr low) (inl nor) =
      inr (record { one = low.one; is = inl low.is; low = λ y is. elim is [ inl one ↦ low.low y one | inr two ↦ absurd (nor y two) ] })
  either_least first second (inr low) (inr other) = by_order (order low.one other.one) refl
    where
      stays : is_gt (order low.one other.one) ≡ false → HasLeast order (λ x. first x ⊎ second x)
      stays under =
          inr (record {
            one = low.one;
            is = inl low.is;
            low =
                λ y is. elim is [ inl one ↦ low.low y one | inr two ↦ upto total low.one other.one y under (other.low y two) ];
          })

      gives_way : is_gt (order other.one low.one) ≡ false → HasLeast order (λ x. first x ⊎ second x)
      gives_way under =
          inr (record {
            one = other.one;
            is = inr other.is;
            low =
                λ y is. elim is [ inl one ↦ upto total other.one low.one y under (low.low y one) | inr two ↦ other.low y two ];
          })

      by_order : (o : Ordering) → order low.one other.one ≡ o → HasLeast order (λ x. first x ⊎ second x)
      by_order Less less = stays (ap is_gt less)
      by_order Equal tie = stays (ap is_gt tie)
      by_order Greater greater = gives_way (ap is_gt (total.antisymm other.one low.one ∙ ap ordering_reverse greater))

  -- values that are the same have the same least one
  pub same_least : (first second : X → Type 0) → ((x : X) → first x → second x) → ((x : X) → second x → first x)
      → HasLeast order first → HasLeast order second
  same_least first second to from (inl none) = inl (λ x is. none x (from x is))
  same_least first second to from (inr low) =
      inr (record { one = low.one; is = to low.one low.is; low = λ y is. low.low y (from y is) })

  -- where each place has a least value or none, all places below a bound have together
  pub search : (at : ℕ → X → Type 0) → ((k : ℕ) → HasLeast order (at k)) → (bound : ℕ)
      → HasLeast order (IsBelow at bound)
  search at each zero = inl (λ x is. absurd (omega (arith, is.1)))
  search at each (suc bound) =
      same_least (λ x. IsBelow at bound x ⊎ at bound x) (IsBelow at (suc bound)) to from
      (either_least (IsBelow at bound) (at bound) (search at each bound) (each bound))
    where
      to : (x : X) → IsBelow at bound x ⊎ at bound x → IsBelow at (suc bound) x
      to x (inl below) = (below.0, omega (arith, below.1), below.2)
      to x (inr last) = (bound, omega arith, last)

      from : (x : X) → IsBelow at (suc bound) x → IsBelow at bound x ⊎ at bound x
      from x is = elim (cases_eq is.0 bound) [
        | inl same ↦ inr (subst (λ k. at k x) same is.2)
        | inr other ↦ inl (is.0, omega (arith, other, is.1), is.2)
      ]
