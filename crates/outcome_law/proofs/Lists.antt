-- Lists that are permuted, and marks that are counted.
use Rattle.std.proofs.Common.{◌≡◌, ◌≢◌, ◌≤◌, ◌+◌, zero, suc, ℕ, Bool, true, false, List, [], ◌∷◌, map, set, length}
use Rattle.std.proofs.Common.{Option, Some, None, option_map, is_some, refl, sym, ap, subst, ◌∙◌, arith, cond}
use Rattle.std.specs.Prelude.{slice_get, slice_index_or, Contains, filter, count_by}
use Rattle.std.proofs.lemmas.List.{get_or-set_other}
use Rattle.std.proofs.lemmas.List.Sums.{sum_by-cons}
use Rattle.step_script.specs.task_law.Room.{RoomTask, queue_after}
use Rattle.step_script.proofs.Below.spec_law.Proved.{get_mapped, queue_filtered, contains_get, get_contains}

pub contains_mapped : {X Y : Type 0} (f : X → Y) (xs : List X) (x : X) → Contains xs x → Contains (map f xs) (f x)
contains_mapped f xs x has =
    let at = contains_get xs x has in
    get_contains (map f xs) at.0 (f x) (get_mapped f xs at.0 x at.1)

pub map_same : {X Y Z W : Type 0} (f : Y → Z) (g : X → Y) (h : W → Z) (k : X → W) → ((x : X) → f (g x) ≡ h (k x))
    → (xs : List X) → map f (map g xs) ≡ map h (map k xs)
map_same f g h k same [] = refl
map_same f g h k same (x ∷ xs) = λ i. same x i ∷ map_same f g h k same xs i

pub filter_mapped : {X Y : Type 0} (f : X → Y) (p : X → Bool) (q : Y → Bool) → ((x : X) → q (f x) ≡ p x) → (xs : List X)
    → filter q (map f xs) ≡ map f (filter p xs)
filter_mapped f p q same [] = refl
filter_mapped f p q same (x ∷ xs) =
    ap (λ b. cond b (f x ∷ filter q (map f xs)) (filter q (map f xs))) (same x)
    ∙ (ap (λ ys. cond (p x) (f x ∷ ys) ys) (filter_mapped f p q same xs) ∙ by_test (p x))
  where
    by_test : (b : Bool)
        → cond b (f x ∷ map f (filter p xs)) (map f (filter p xs)) ≡ map f (cond b (x ∷ filter p xs) (filter p xs))
    by_test true = refl
    by_test false = refl

pub left_mapped : (f : ℕ → ℕ) (old new : ℕ → Option RoomTask) → ((k : ℕ) → is_some (new (f k)) ≡ is_some (old k))
    → (ids : List ℕ) → queue_after new (map f ids) ≡ map f (queue_after old ids)
left_mapped f old new same ids =
    queue_filtered new (map f ids)
    ∙ (filter_mapped f (λ k. is_some (old k)) (λ k. is_some (new k)) same ids ∙ ap (map f) (sym (queue_filtered old ids)))

pub same_bool : (b c : Bool) → (b ≡ true → c ≡ true) → (c ≡ true → b ≡ true) → c ≡ b
same_bool true c on back = on refl
same_bool false true on back = sym (back refl)
same_bool false false on back = refl

-- the marks of a list with one more in front
counted : (x : Bool) (xs : List Bool) → count_by (λ m. m) (x ∷ xs) ≡ cond x 1 0 + count_by (λ m. m) xs
counted x xs = sum_by-cons (λ y. cond y 1 0) x xs

-- one mark is cleared
cleared : (ys : List Bool) (i : ℕ) → slice_index_or ys i false ≡ true
    → suc (count_by (λ m. m) (set ys i false)) ≡ count_by (λ m. m) ys
cleared [] i at = absurd (cc (at))
cleared (true ∷ ys) zero at = let before = counted false ys in let after = counted true ys in omega arith
cleared (false ∷ ys) zero at = absurd (cc (at))
cleared (x ∷ ys) (suc i) at =
    let rest = cleared ys i at in
    let before = counted x (set ys i false) in
    let after = counted x ys in
    omega arith

-- marks that are permuted are no fewer
pub count_upto : (to : ℕ → ℕ) → ((i j : ℕ) → to i ≡ to j → i ≡ j) → (xs ys : List Bool)
    → ((k : ℕ) → slice_index_or xs k false ≡ true → slice_index_or ys (to k) false ≡ true)
    → count_by (λ m. m) xs ≤ count_by (λ m. m) ys
count_upto to one [] ys keeps = omega arith
count_upto to one (false ∷ xs) ys keeps =
    let rest = count_upto (λ k. to (suc k)) (λ i j e. (let same : suc i ≡ suc j = one (suc i) (suc j) e in omega arith)) xs ys (λ k. keeps (suc k)) in
    let here = counted false xs in
    omega arith
count_upto to one (true ∷ xs) ys keeps =
    let differs : (k : ℕ) → to (suc k) ≢ to zero = λ k e. (let same : suc k ≡ zero = one (suc k) zero e in omega arith) in
    let rest : count_by (λ m. m) xs ≤ count_by (λ m. m) (set ys (to zero) false) = count_upto (λ k. to (suc k)) (λ i j e. (let same : suc i ≡ suc j = one (suc i) (suc j) e in omega arith)) xs (set ys (to zero) false)
    (λ k at. get_or-set_other ys (to zero) (to (suc k)) false false (differs k) ∙ keeps (suc k) at) in
    let fewer : suc (count_by (λ m. m) (set ys (to zero) false)) ≡ count_by (λ m. m) ys = cleared ys (to zero) (keeps zero refl) in
    let here = counted true xs in
    omega arith
