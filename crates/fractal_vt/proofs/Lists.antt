-- What holds of every list and every option.
use Rattle.std.proofs.Common.{◌≡◌, ◌≢◌, ◌⊎◌, ◌≤◌, ◌+◌, ◌∷◌, ◌++◌, ℕ, zero, suc, List, [], length, drop, Option}
use Rattle.std.proofs.Common.{map, take}
use Rattle.std.proofs.Common.{None, Some, is_some, option_map, inl, inr, refl, sym, ap, subst, ◌∙◌, arith}
use Rattle.std.specs.Prelude.{All, slice_get}
use Rattle.std.specs.List.{AllByRecursion, insert}
use Rattle.std.specs.List.Sorted.{IsPermutation}
use Rattle.std.proofs.lemmas.Bool.{cases_eq}
use Rattle.std.proofs.lemmas.List.{append_assoc, drop-map, map-append, take-map}
use Rattle.std.proofs.lemmas.List.Edits.{insert-append_left}
use Rattle.std.proofs.lemmas.List.Sorted.{IsPermutation-insert, IsPermutation-to_front}
use Rattle.std.proofs.lemmas.Option.{get_or_from_slice_get, slice_get_within}

-- an element is put in before or after a list is mapped
pub map-insert : {X Y : Type 0} (f : X → Y) (xs : List X) (i : ℕ) (x : X)
    → map f (insert xs i x) ≡ insert (map f xs) i (f x)
map-insert f xs i x =
    map-append f (take i xs) (x ∷ drop i xs)
    ∙ ap (λ ys. ys ++ f x ∷ map f (drop i xs)) (sym (take-map f i xs))
    ∙ ap (λ ys. take i (map f xs) ++ f x ∷ ys) (sym (drop-map f i xs))

-- what holds of two lists after one another holds of the first
pub All-front : (P : ℕ → Type 0) (xs ys : List ℕ) → AllByRecursion P (xs ++ ys) → AllByRecursion P xs
All-front P [] ys all = tt
All-front P (x ∷ xs) ys all = (all.0, All-front P xs ys all.1)

-- the element at the end
pub get_end : {X : Type 0} (xs : List X) (x : X) → slice_get (xs ++ x ∷ []) (length xs) ≡ Some x
get_end [] x = refl
get_end (y ∷ xs) x = get_end xs x

-- an element of the first of two lists is one of both
pub get_front : {X : Type 0} (xs ys : List X) (k : ℕ) (x : X) → slice_get xs k ≡ Some x
    → slice_get (xs ++ ys) k ≡ Some x
get_front [] ys k x e = absurd (cc (e))
get_front (y ∷ xs) ys zero x e = e
get_front (y ∷ xs) ys (suc k) x e = get_front xs ys k x e

-- what holds of each element holds of one
pub all_get : {X : Type 0} (P : X → Type 0) (xs : List X) (k : ℕ) (x : X) → All P xs → slice_get xs k ≡ Some x → P x
all_get P xs k x all at = subst P (get_or_from_slice_get xs k x x at) (all k x (slice_get_within xs k x at))

-- a list with one element more and those behind it, wherever the one was put in
pub inserted_front : (xs ys : List ℕ) (x place : ℕ) → place ≤ length xs
    → IsPermutation (x ∷ (xs ++ ys)) (insert xs place x ++ ys)
inserted_front xs ys x place inside =
    subst (IsPermutation (x ∷ (xs ++ ys))) (insert-append_left xs ys place x inside)
    (IsPermutation-insert (xs ++ ys) place x)

-- the last of both lists comes to the front
pub last_front : (xs ys : List ℕ) (x : ℕ) → IsPermutation (xs ++ (ys ++ x ∷ [])) (x ∷ (xs ++ ys))
last_front xs ys x =
    subst (λ zs. IsPermutation zs (x ∷ (xs ++ ys))) (append_assoc xs ys (x ∷ []))
    (IsPermutation-to_front (xs ++ ys) x)

-- a list up to one place more
pub take_next : {X : Type 0} (xs : List X) (k : ℕ) (x : X) → slice_get xs k ≡ Some x
    → take (suc k) xs ≡ take k xs ++ x ∷ []
take_next [] k x e = absurd (cc (e))
take_next (y ∷ xs) zero x e = let same : y ≡ x = cc in ap (λ z. z ∷ []) same
take_next (y ∷ xs) (suc k) x e = ap (λ zs. y ∷ zs) (take_next xs k x e)

-- and the same of a place that was counted on
pub take_one_more : {X : Type 0} (xs : List X) (k : ℕ) (x : X) → slice_get xs k ≡ Some x
    → take (k + 1) xs ≡ take k xs ++ x ∷ []
take_one_more xs k x e = let next : k + 1 ≡ suc k = omega arith in rw next (take_next xs k x e)

-- an option holds this number or does not
pub cases_some : (a : Option ℕ) (b : ℕ) → (a ≡ Some b) ⊎ (a ≢ Some b)
cases_some None b = inr (λ e. absurd (cc))
cases_some (Some a) b = elim (cases_eq a b) [ inl e ↦ inl (ap Some e) | inr differs ↦ inr (λ e. differs (cc)) ]

-- a mapped option is there where the option was
pub is_some_mapped : {X Y : Type 0} (f : X → Y) (o : Option X) → is_some (option_map f o) ≡ is_some o
is_some_mapped f None = refl
is_some_mapped f (Some x) = refl

-- what a mapped option holds comes from what the option holds
pub mapped_some : {X Y : Type 0} (f : X → Y) (o : Option X) (y : Y) → option_map f o ≡ Some y
    → (x : X) × (o ≡ Some x) × (y ≡ f x)
mapped_some f None y at = absurd (cc (at))
mapped_some f (Some x) y at = (x, refl, cc)
