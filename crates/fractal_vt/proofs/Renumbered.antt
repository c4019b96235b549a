-- Keys renumbered by a table compare as before, and domains begin each other, and keys, as
-- before; numbers of a table stay apart.
use Rattle.std.proofs.Common.{◌≡◌, ◌↔◌, ℕ, zero, suc, ◌+◌, ◌<◌, ◌≤◌, Bool, true, false, cond, List, [], ◌∷◌, ◌++◌}
use Rattle.std.proofs.Common.{length, get_or, map, Option, Some, None, refl, sym, ap, subst, ◌∙◌, arith}
use Rattle.std.proofs.Common.{◌⊎◌, inl, inr, Result, Ok, Err}
use Rattle.std.specs.Prelude.{nat_lt, AllPairs, if◌then◌else◌}
use Rattle.std.specs.Result.{MatchResult}
use Rattle.std.specs.List.Sorted.{IsBinarySearchResult}
use Rattle.std.proofs.lemmas.List.Sorted.{searched}
use Rattle.std.proofs.lemmas.List.Kept.{AllPairs-from_increasing}
use Rattle.std.proofs.lemmas.Bool.{cases_lt}
use Rattle.std.specs.List.{All, Contains, filter}
use Rattle.std.specs.List.Sorted.{IsStrictlyIncreasing}
use Rattle.std.specs.Option.{IfSome, option_map}
use Rattle.std.specs.Ordering.{nat_cmp, ordering_then}
use Rattle.std.specs.FinMap.{nat_cmp-IsAntisymmetric}
use Rattle.std.proofs.lemmas.Bool.Decides.{nat_tests}
use Rattle.std.proofs.lemmas.Cmp.{tied_itself}
use Rattle.std.proofs.lemmas.List.Elements.{All-nil, All-cons, All-head, All-tail}
use Rattle.fractal_vt.specs.declared.level.Level.{Level}
use Rattle.fractal_vt.specs.Levels.{Open, closed_level, tie_cmp, level_cmp, levels_cmp}
use Rattle.fractal_vt.specs.Keys.{last, levels}
use Rattle.fractal_vt.specs.Paths.{Begins}
use Rattle.fractal_vt.specs.Renumbered.{place_in, with_number, renumbered_level, renumbered_levels, renumbered_key}
use Rattle.fractal_vt.specs.Renumbered.{IsHeld, HoldsDomain, RenumberingKeepsKeyOrder, RenumberingKeepsPrefixes}
use Rattle.fractal_vt.specs.Renumbered.{RenumberingKeepsDomains, NumbersStayApart, PlacesAreWhereNumbersStand}
use Rattle.fractal_vt.proofs.Total.{level_cmp_total}
use Rattle.fractal_vt.proofs.KeyLaws.{level_cmp-same, closed_level-same}
use Rattle.fractal_vt.proofs.Orderings.{same_number}

-- what one number of a table adds to the places of others
abbrev one : ℕ → ℕ → ℕ
one t n = if nat_lt t n then 1 else 0

-- the places as a sum over the table
abbrev below_in : List ℕ → ℕ → ℕ
below_in [] number = 0
below_in (t ∷ table) number = one t number + below_in table number

place_is : (table : List ℕ) (number : ℕ) → place_in table number ≡ below_in table number
place_is [] number = refl
place_is (t ∷ table) number = by_case (nat_lt t number) (place_is table number)
  where
    by_case : (b : Bool) → place_in table number ≡ below_in table number
        → length (cond b (t ∷ filter (λ other. nat_lt other number) table) (filter (λ other. nat_lt other number) table)) ≡ (if b then 1 else 0) + below_in table number
    by_case true more = grind (arith, more)
    by_case false more = grind (arith, more)

one_upto : (t m n : ℕ) → m ≤ n → one t m ≤ one t n
one_upto t m n upto = grind (arith, nat_tests)

one_below : (t n : ℕ) → t < n → ◌≡◌ {A = ℕ} (one t n) 1
one_below t n less = grind (arith, nat_tests)

one_above : (t n : ℕ) → n ≤ t → ◌≡◌ {A = ℕ} (one t n) 0
one_above t n upto = grind (arith, nat_tests)

-- a greater number is at no lesser place
place_upto : (table : List ℕ) (m n : ℕ) → m ≤ n → below_in table m ≤ below_in table n
place_upto [] m n upto = omega arith
place_upto (t ∷ ts) m n upto = sums (one_upto t m n upto) (place_upto ts m n upto)
  where
    sums : {a b p q : ℕ} → a ≤ b → p ≤ q → a + p ≤ b + q
    sums here there = omega arith

-- a number of the table is at a lesser place than each that is greater
place_below : (table : List ℕ) (m n k : ℕ) → m < n → k < length table → get_or table k m ≡ m
    → below_in table m < below_in table n
place_below [] m n k less inside at = absurd (omega arith)
place_below (t ∷ ts) m n zero less inside at =
    sums (one_above t m (omega arith)) (one_below t n (omega arith)) (place_upto ts m n (omega arith))
  where
    sums : {a b p q : ℕ} → a ≡ 0 → b ≡ 1 → p ≤ q → a + p < b + q
    sums none one upto = omega arith
place_below (t ∷ ts) m n (suc k) less inside at =
    sums (one_upto t m n (omega arith)) (place_below ts m n k less (omega arith) at)
  where
    sums : {a b p q : ℕ} → a ≤ b → p < q → a + p < b + q
    sums upto less = omega arith

pub place_cmp : (table : List ℕ) (m n : ℕ) → Contains table m → Contains table n
    → nat_cmp (place_in table m) (place_in table n) ≡ nat_cmp m n
place_cmp table m n in_m in_n =
    ap (λ p. nat_cmp p (place_in table n)) (place_is table m) ∙ ap (nat_cmp (below_in table m)) (place_is table n)
    ∙ kept
  where
    below : m < n → below_in table m < below_in table n
    below less = place_below table m n in_m.0 less in_m.1 in_m.2

    above : n < m → below_in table n < below_in table m
    above less = place_below table n m in_n.0 less in_n.1 in_n.2

    same : m ≡ n → below_in table m ≡ below_in table n
    same e = ap (below_in table) e

    numbers : (p q : ℕ) → (m < n → p < q) → (n < m → q < p) → (m ≡ n → p ≡ q) → nat_cmp p q ≡ nat_cmp m n
    numbers p q lower higher equal = grind (arith, nat_tests)

    kept : nat_cmp (below_in table m) (below_in table n) ≡ nat_cmp m n
    kept = numbers (below_in table m) (below_in table n) below above same

tie_kept : (table : List ℕ) (a b : Option ℕ) → IfSome a (Contains table) → IfSome b (Contains table)
    → tie_cmp (option_map (place_in table) a) (option_map (place_in table) b) ≡ tie_cmp a b
tie_kept table None None in_a in_b = refl
tie_kept table None (Some n) in_a in_b = refl
tie_kept table (Some m) None in_a in_b = refl
tie_kept table (Some m) (Some n) in_a in_b = place_cmp table m n in_a in_b

-- a level with its tiebreaker's place for its tiebreaker; an open one stays open
abbrev open_placed : List ℕ → Open → Open
open_placed table = with_number (place_in table)

level_kept : (table : List ℕ) (a b : Open) → IsHeld table a → IsHeld table b
    → level_cmp (open_placed table a) (open_placed table b) ≡ level_cmp a b
level_kept table a b in_a in_b = ap (ordering_then (nat_cmp a.ts b.ts)) (tie_kept table a.tb b.tb in_a in_b)

levels_kept : (table : List ℕ) (xs ys : List Open) → All (IsHeld table) xs → All (IsHeld table) ys
    → levels_cmp (map (open_placed table) xs) (map (open_placed table) ys) ≡ levels_cmp xs ys
levels_kept table [] [] in_x in_y = refl
levels_kept table [] (y ∷ ys) in_x in_y = refl
levels_kept table (x ∷ xs) [] in_x in_y = refl
levels_kept table (x ∷ xs) (y ∷ ys) in_x in_y =
    ap (λ o. ordering_then o (levels_cmp (map (open_placed table) xs) (map (open_placed table) ys))) (level_kept table x y (All-head (IsHeld table) x xs in_x) (All-head (IsHeld table) y ys in_y))
    ∙ ap (ordering_then (level_cmp x y)) (levels_kept table xs ys (All-tail (IsHeld table) x xs in_x) (All-tail (IsHeld table) y ys in_y))

-- the levels of the renumbered key are those of the key, each renumbered
levels_placed : (table : List ℕ) (ds : List Level) (o : Open)
    → map closed_level (renumbered_levels table ds) ++ open_placed table o ∷ [] ≡ map (open_placed table) (map closed_level ds ++ o ∷ [])
levels_placed table [] o = refl
levels_placed table (d ∷ ds) o = ap (λ xs. closed_level (renumbered_level table d) ∷ xs) (levels_placed table ds o)

domain_placed : (table : List ℕ) (ds : List Level)
    → map closed_level (renumbered_levels table ds) ≡ map (open_placed table) (map closed_level ds)
domain_placed table [] = refl
domain_placed table (d ∷ ds) = ap (λ xs. closed_level (renumbered_level table d) ∷ xs) (domain_placed table ds)

pub keeps_order : RenumberingKeepsKeyOrder
keeps_order table a b in_a in_b =
    ap (levels_cmp (levels (renumbered_key table a))) (levels_placed table b.domain (last b))
    ∙ ap (λ xs. levels_cmp xs (map (open_placed table) (levels b))) (levels_placed table a.domain (last a))
    ∙ levels_kept table (levels a) (levels b) in_a in_b

-- numbers and levels stay apart

pub stay_apart : NumbersStayApart
stay_apart table m n in_m in_n = (
  λ same. nat_cmp-IsAntisymmetric m n (sym (place_cmp table m n in_m in_n) ∙ ap (λ p. nat_cmp p (place_in table n)) same ∙ same_number (place_in table n)),
  λ same. ap (place_in table) same,
)

level_apart : (table : List ℕ) (a b : Open) → IsHeld table a → IsHeld table b
    → open_placed table a ≡ open_placed table b → a ≡ b
level_apart table a b in_a in_b same =
    level_cmp-same a b (sym (level_kept table a b in_a in_b) ∙ ap (λ l. level_cmp l (open_placed table b)) same ∙ tied_itself level_cmp_total (open_placed table b))

-- for a map of elements that stay apart, one list begins another where it does so mapped
module _ {X : Type 0} (g : X → X) (Ok : X → Type 0) (apart : (x y : X) → Ok x → Ok y → g x ≡ g y → x ≡ y) where
  begins_before : (xs ys : List X) → All Ok xs → All Ok ys → Begins (map g xs) (map g ys) → Begins xs ys
  begins_before [] ys in_x in_y begins = (ys, refl)
  begins_before (x ∷ xs) [] in_x in_y (rest, is) = absurd (cc (is))
  begins_before (x ∷ xs) (y ∷ ys) in_x in_y (rest, is) =
      let first : g x ≡ g y = cc in
      let others : map g xs ++ rest ≡ map g ys = cc in
      let same = apart x y (All-head Ok x xs in_x) (All-head Ok y ys in_y) first in
      let more = begins_before xs ys (All-tail Ok x xs in_x) (All-tail Ok y ys in_y) (rest, others) in (
        more.0,
        (λ i. same i ∷ more.1 i),
      )

  begins_after : (xs ys : List X) → Begins xs ys → Begins (map g xs) (map g ys)
  begins_after xs ys (rest, is) = (map g rest, sym (mapped xs rest) ∙ ap (map g) is)
    where
      mapped : (front back : List X) → map g (front ++ back) ≡ map g front ++ map g back
      mapped [] back = refl
      mapped (x ∷ front) back = ap (λ zs. g x ∷ zs) (mapped front back)

  begins_kept : (xs ys : List X) → All Ok xs → All Ok ys → Begins (map g xs) (map g ys) ↔ Begins xs ys
  begins_kept xs ys in_x in_y = (begins_before xs ys in_x in_y, begins_after xs ys)

pub keeps_domains : RenumberingKeepsDomains
keeps_domains table domain key in_domain in_key =
    subst (λ xs. Begins xs (levels (renumbered_key table key)) ↔ Begins (map closed_level domain) (levels key)) (sym (domain_placed table domain))
    (subst (λ ys. Begins (map (open_placed table) (map closed_level domain)) ys ↔ Begins (map closed_level domain) (levels key)) (sym (levels_placed table key.domain (last key)))
    (begins_kept (open_placed table) (IsHeld table) (level_apart table) (map closed_level domain) (levels key) in_domain in_key))

held_each : (table : List ℕ) (ds : List Level) → HoldsDomain table ds
    → All (λ level. IsHeld table (closed_level level)) ds
held_each table [] held = All-nil (λ level. IsHeld table (closed_level level))
held_each table (d ∷ ds) held =
    All-cons (λ level. IsHeld table (closed_level level)) d ds (All-head (IsHeld table) (closed_level d) (map closed_level ds) held) (held_each table ds (All-tail (IsHeld table) (closed_level d) (map closed_level ds) held))

pub keeps_prefixes : RenumberingKeepsPrefixes
keeps_prefixes table a b in_a in_b =
    begins_kept (renumbered_level table) (λ level. IsHeld table (closed_level level))
    (λ x y in_x in_y same. closed_level-same x y
    (level_apart table (closed_level x) (closed_level y) in_x in_y (ap closed_level same)))
    a b (held_each table a in_a) (held_each table b in_b)

-- one number of a table adds at most 1 to a place
one_most : (t n : ℕ) → one t n ≤ 1
one_most t n = grind (arith, nat_tests)

below_most : (table : List ℕ) (n : ℕ) → below_in table n ≤ length table
below_most [] n = omega arith
below_most (t ∷ ts) n = sums (one_most t n) (below_most ts n)
  where
    sums : {a p q : ℕ} → a ≤ 1 → p ≤ q → a + p ≤ suc q
    sums one more = omega arith

below_within : (table : List ℕ) (n k : ℕ) → k < length table → get_or table k n ≡ n → below_in table n < length table
below_within [] n k inside at = absurd (omega arith)
below_within (t ∷ ts) n zero inside at = sums (one_above t n (omega arith)) (below_most ts n)
  where
    sums : {a p q : ℕ} → a ≡ 0 → p ≤ q → a + p < suc q
    sums none more = omega arith
below_within (t ∷ ts) n (suc k) inside at = sums (one_most t n) (below_within ts n k (omega arith) at)
  where
    sums : {a p q : ℕ} → a ≤ 1 → p < q → a + p < suc q
    sums one more = omega arith

-- a number of the table has a place in it
pub place_within : (table : List ℕ) (number : ℕ) → Contains table number → place_in table number < length table
place_within table number held =
    subst (λ p. p < length table) (sym (place_is table number)) (below_within table number held.0 held.1 held.2)

-- where the numbers before a place are below, and the others are not, the place is how many are below
found : (table : List ℕ) (number at : ℕ) → at ≤ length table → ((k : ℕ) → k < at → get_or table k 0 < number)
    → ((k : ℕ) → at ≤ k → k < length table → number ≤ get_or table k 0) → below_in table number ≡ at
found [] number at upto below above = omega arith
found (t ∷ ts) number zero upto below above =
    sums (one_above t number (above 0 (omega arith) (omega arith))) (found ts number 0 (omega arith) (λ k less. absurd (omega arith)) (λ k beyond inside. above (suc k) (omega arith) (omega arith)))
  where
    sums : {a p : ℕ} → a ≡ 0 → p ≡ 0 → a + p ≡ 0
    sums one more = omega arith
found (t ∷ ts) number (suc at) upto below above =
    sums (one_below t number (below 0 (omega arith))) (found ts number at (omega arith) (λ k less. below (suc k) (omega arith)) (λ k beyond inside. above (suc k) (omega arith) (omega arith)))
  where
    sums : {a p : ℕ} → a ≡ 1 → p ≡ at → a + p ≡ suc at
    sums one more = omega arith

pub place_found : (table : List ℕ) (number at : ℕ) → at ≤ length table → ((k : ℕ) → k < at → get_or table k 0 < number)
    → ((k : ℕ) → at ≤ k → k < length table → number ≤ get_or table k 0) → place_in table number ≡ at
place_found table number at upto below above = place_is table number ∙ found table number at upto below above

rising_upto : (table : List ℕ) → AllPairs (λ x y. x < y) table → (i j : ℕ) → i ≤ j → j < length table
    → get_or table i 0 ≤ get_or table j 0
rising_upto table rises i j upto inside = by_case (cases_lt i j)
  where
    by_case : (i < j) ⊎ (j ≤ i) → get_or table i 0 ≤ get_or table j 0
    by_case (inl less) = let step = rises i j 0 less inside in omega arith
    by_case (inr back) =
        let same : i ≡ j = omega arith in subst (λ k. get_or table i 0 ≤ get_or table k 0) same (omega arith)

-- what a binary search of a rising table answers is the place
pub place_searched : (table : List ℕ) (number : ℕ) (answer : Result ℕ ℕ) → IsStrictlyIncreasing table
    → IsBinarySearchResult (λ y. nat_cmp y number) table answer
    → MatchResult answer (λ at. place_in table number ≡ at) (λ at. place_in table number ≡ at)
place_searched table number (Ok at) rising is =
    let rises = AllPairs-from_increasing table rising in
    let found = searched table number (Ok at) is (λ i j upto inside. rising_upto table rises i j upto inside) in
    place_found table number at (omega arith)
    (λ k less. (let step = rises k at 0 less found.0 in omega arith))
    (λ k beyond inside. (let step = rising_upto table rises at k beyond inside in omega arith))
place_searched table number (Err at) rising is =
    let rises = AllPairs-from_increasing table rising in
    let found = searched table number (Err at) is (λ i j upto inside. rising_upto table rises i j upto inside) in
    place_found table number at found.0 found.1 (λ k beyond inside. (let step = found.2 k beyond inside in omega arith))

pub places_stand : PlacesAreWhereNumbersStand
places_stand table k rising inside =
    let rises = AllPairs-from_increasing table rising in
    place_found table (get_or table k 0) k (omega arith) (λ j less. rises j k 0 less inside) (λ j beyond within. rising_upto table rises k j beyond within)
