-- Lists of which one element is replaced, or behind which one more is put.
use Rattle.std.proofs.Common.{◌≡◌, ◌≢◌, ◌∷◌, ◌++◌, ℕ, zero, suc, List, [], Some, refl, sym, ap, ◌∙◌, arith, slice_get}
use Rattle.std.proofs.Common.{slice_set}
use Rattle.std.specs.Prelude.{Contains}
use Rattle.std.proofs.lemmas.List.Quantifiers.{all_pairs_push}
use Rattle.std.proofs.lemmas.Option.{slice_get-get_or}
use Rattle.tile_queues.specs.Queue.{AreDistinct}
use Rattle.spec_law.proofs.Tasks.Places.{get_contains}

-- what was put stands there
pub get_put : {X : Type 0} (xs : List X) (k : ℕ) (x y : X) → slice_get xs k ≡ Some y
    → slice_get (slice_set xs k x) k ≡ Some x
get_put [] k x y at = absurd (cc)
get_put (z ∷ xs) zero x y at = refl
get_put (z ∷ xs) (suc k) x y at = get_put xs k x y at

-- a list of one element contains no other
pub only_one : {X : Type 0} (x y : X) → Contains (x ∷ []) y → y ≡ x
only_one x y (zero, low, at) = sym at
only_one x y (suc k, low, at) = absurd (omega (arith, low))

-- distinct ids and one that is not among them
pub distinct_more : (ids : List ℕ) (id : ℕ) → AreDistinct ids → (Contains ids id → ⊥) → AreDistinct (ids ++ id ∷ [])
distinct_more ids id apart absent =
    all_pairs_push (λ a b. a ≢ b) ids id apart (λ k d low same. absent (get_contains ids k id (slice_get-get_or ids k d low ∙ ap Some same)))
