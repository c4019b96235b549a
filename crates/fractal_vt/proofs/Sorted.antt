-- Lists in an order: where an element goes, and what the list with it is.
use Rattle.std.proofs.Common.{◌≡◌, ◌≢◌, ℕ, zero, suc, ◌<◌, ◌≤◌, Bool, true, false, cond, List, [], ◌∷◌, ◌++◌, length}
use Rattle.std.proofs.Common.{get_or, map, refl, sym, ap, subst, ◌∙◌, arith}
use Rattle.std.specs.Bool.{if◌then◌else◌}
use Rattle.std.specs.List.{All, AllPairs, insert, filter}
use Rattle.std.specs.List.Sorted.{IsPermutation}
use Rattle.std.proofs.lemmas.List.Elements.{All-nil, All-cons, All-head, All-tail}
use Rattle.std.proofs.lemmas.List.Kept.{AllPairs-cons}
use Rattle.std.proofs.lemmas.List.{length-map, get_or-map}
use Rattle.std.proofs.lemmas.List.Sorted.{IsPermutation-insert}
use Rattle.std.specs.Ordering.{is_lt, is_eq, ordering_reverse}
use Rattle.std.specs.declared.cmp.Ordering.{Ordering}
use Rattle.std.specs.declared.cmp.Ordering.TheVariants.{Less, Equal, Greater}
use Rattle.std.specs.Cmp.{IsTotalOrder}
use Rattle.std.proofs.lemmas.Cmp.{alike_right, tied_itself}
use Rattle.fractal_vt.specs.Sorted.{IsInOrder, after_insert, place_for}
use Rattle.fractal_vt.proofs.Orderings.{less_from}

pub AllPairs-head : {X : Type 0} (S : X → X → Type 0) (x : X) (xs : List X) → AllPairs S (x ∷ xs) → All (S x) xs
AllPairs-head S x xs all k d inside = all 0 (suc k) d (omega arith) (omega arith)

pub AllPairs-tail : {X : Type 0} (S : X → X → Type 0) (x : X) (xs : List X) → AllPairs S (x ∷ xs) → AllPairs S xs
AllPairs-tail S x xs all i j d before inside = all (suc i) (suc j) d (omega arith) (omega arith)

pub less_then : {X : Type 0} {R : X → X → Ordering} (total : IsTotalOrder R) (x y z : X) → R x y ≡ Less
    → R y z ≢ Greater → R x z ≡ Less
less_then {X} {R} total x y z less upto = by_case (R y z) refl upto
  where
    by_case : (o : Ordering) → R y z ≡ o → o ≢ Greater → R x z ≡ Less
    by_case Less e not = total.trans x y z less e
    by_case Equal e not = sym (alike_right total y z x e) ∙ less
    by_case Greater e not = absurd (not refl)

pub less_upto : (o : Ordering) → o ≡ Less → o ≢ Greater
less_upto o less greater = let no_way : Less ≡ Greater = sym less ∙ greater in cc

back_upto : (o : Ordering) → is_lt o ≡ false → ordering_reverse o ≢ Greater
back_upto Less e = absurd (cc)
back_upto Equal e = λ no_way. cc
back_upto Greater e = λ no_way. cc

-- the list with the element is the list with the element at its place
pub inserted_at : {X : Type 0} (R : X → X → Ordering) (x : X) (xs : List X)
    → after_insert R x xs ≡ insert xs (place_for R x xs) x
inserted_at R x [] = refl
inserted_at R x (y ∷ ys) = by_case (is_lt (R x y)) (inserted_at R x ys)
  where
    by_case : (b : Bool) → after_insert R x ys ≡ insert ys (place_for R x ys) x
        → (if b then x ∷ y ∷ ys else y ∷ after_insert R x ys) ≡ insert (y ∷ ys) (if b then 0 else suc (place_for R x ys)) x
    by_case true more = refl
    by_case false more = ap (λ zs. y ∷ zs) more

pub place_within : {X : Type 0} (R : X → X → Ordering) (x : X) (xs : List X) → place_for R x xs ≤ length xs
place_within R x [] = omega arith
place_within R x (y ∷ ys) = by_case (is_lt (R x y)) (place_within R x ys)
  where
    by_case : (b : Bool) → place_for R x ys ≤ length ys → (if b then 0 else suc (place_for R x ys)) ≤ suc (length ys)
    by_case true more = omega arith
    by_case false more = omega arith

pub after_insert-permutes : {X : Type 0} (R : X → X → Ordering) (x : X) (xs : List X)
    → IsPermutation (x ∷ xs) (after_insert R x xs)
after_insert-permutes R x xs =
    subst (IsPermutation (x ∷ xs)) (sym (inserted_at R x xs)) (IsPermutation-insert xs (place_for R x xs) x)

pub length-after_insert : {X : Type 0} (R : X → X → Ordering) (x : X) (xs : List X)
    → length (after_insert R x xs) ≡ suc (length xs)
length-after_insert R x [] = refl
length-after_insert R x (y ∷ ys) = by_case (is_lt (R x y)) (length-after_insert R x ys)
  where
    by_case : (b : Bool) → length (after_insert R x ys) ≡ suc (length ys)
        → length (if b then x ∷ y ∷ ys else y ∷ after_insert R x ys) ≡ suc (suc (length ys))
    by_case true more = refl
    by_case false more = ap suc more

pub All-after_insert : {X : Type 0} (P : X → Type 0) (R : X → X → Ordering) (x : X) (xs : List X) → P x → All P xs
    → All P (after_insert R x xs)
All-after_insert P R x [] here all = All-cons P x [] here (All-nil P)
All-after_insert P R x (y ∷ ys) here all =
    by_case (is_lt (R x y)) (All-after_insert P R x ys here (All-tail P y ys all))
  where
    by_case : (b : Bool) → All P (after_insert R x ys) → All P (if b then x ∷ y ∷ ys else y ∷ after_insert R x ys)
    by_case true more = All-cons P x (y ∷ ys) here all
    by_case false more = All-cons P y (after_insert R x ys) (All-head P y ys all) more

module _ {X : Type 0} (R : X → X → Ordering) (total : IsTotalOrder R) where
  abbrev Upto : X → X → Type 0
  Upto first later = R first later ≢ Greater

  upto_rest : (x y : X) (ys : List X) → R x y ≡ Less → All (Upto y) ys → All (Upto x) (y ∷ ys)
  upto_rest x y ys less all =
      All-cons (Upto x) y ys (less_upto (R x y) less) (λ k d inside. less_upto (R x (get_or ys k d)) (less_then total x y (get_or ys k d) less (all k d inside)))

  pub in_order-after_insert : (x : X) (xs : List X) → IsInOrder R xs → IsInOrder R (after_insert R x xs)
  in_order-after_insert x [] order = AllPairs-cons Upto x [] (All-nil (Upto x)) order
  in_order-after_insert x (y ∷ ys) order =
      by_case (is_lt (R x y)) refl (in_order-after_insert x ys (AllPairs-tail Upto y ys order))
    where
      by_case : (b : Bool) → is_lt (R x y) ≡ b → IsInOrder R (after_insert R x ys)
          → IsInOrder R (if b then x ∷ y ∷ ys else y ∷ after_insert R x ys)
      by_case true less more =
          AllPairs-cons Upto x (y ∷ ys) (upto_rest x y ys (less_from (R x y) less) (AllPairs-head Upto y ys order)) order
      by_case false not more = AllPairs-cons Upto y (after_insert R x ys)
          (All-after_insert (Upto y) R x ys (subst (λ o. o ≢ Greater) (sym (total.antisymm y x)) (back_upto (R x y) not)) (AllPairs-head Upto y ys order))
          more

  -- the search for the place: at an element that is greater it is no later
  pub place_upto : (x : X) (xs : List X) (k : ℕ) (d : X) → k < length xs → is_lt (R x (get_or xs k d)) ≡ true
      → place_for R x xs ≤ k
  place_upto x [] k d inside less = absurd (omega arith)
  place_upto x (y ∷ ys) zero d inside less =
      subst (λ b. (if b then 0 else suc (place_for R x ys)) ≤ 0) (sym less) (omega arith)
  place_upto x (y ∷ ys) (suc k) d inside less = by_case (is_lt (R x y)) (place_upto x ys k d (omega arith) less)
    where
      by_case : (b : Bool) → place_for R x ys ≤ k → (if b then 0 else suc (place_for R x ys)) ≤ suc k
      by_case true more = omega arith
      by_case false more = omega arith

  -- and at one that is not greater it is later
  pub place_beyond : (x : X) (xs : List X) (k : ℕ) (d : X) → IsInOrder R xs → k < length xs
      → is_lt (R x (get_or xs k d)) ≡ false → k < place_for R x xs
  place_beyond x [] k d order inside not = absurd (omega arith)
  place_beyond x (y ∷ ys) zero d order inside not =
      subst (λ b. 0 < (if b then 0 else suc (place_for R x ys))) (sym not) (omega arith)
  place_beyond x (y ∷ ys) (suc k) d order inside not =
      by_case (is_lt (R x y)) refl (place_beyond x ys k d (AllPairs-tail Upto y ys order) (omega arith) not)
    where
      by_case : (b : Bool) → is_lt (R x y) ≡ b → k < place_for R x ys
          → suc k < (if b then 0 else suc (place_for R x ys))
      by_case true less more =
          let below = less_then total x y (get_or ys k d) (less_from (R x y) less) (AllPairs-head Upto y ys order k d (omega arith)) in
          let no_way : true ≡ false = sym (ap is_lt below) ∙ not in
          absurd (cc)
      by_case false later more = omega arith

-- pairs of a mapped list
pub AllPairs-map : {X Y : Type 0} (S : X → X → Type 0) (T : Y → Y → Type 0) (P : X → Type 0) (f : X → Y)
    → ((a b : X) → P a → P b → S a b → T (f a) (f b)) → (xs : List X) → All P xs → AllPairs S xs → AllPairs T (map f xs)
AllPairs-map S T P f keeps [] all pairs i j d before inside = absurd (omega arith)
AllPairs-map S T P f keeps (x ∷ xs) all pairs i j d before inside =
    let long = length-map (x ∷ xs) f in
    let last : j < length (x ∷ xs) = subst (λ n. j < n) long inside in
    let first : i < length (x ∷ xs) = omega arith in
    let one = keeps (get_or (x ∷ xs) i x) (get_or (x ∷ xs) j x) (all i x first) (all j x last) (pairs i j x before last) in
    subst (λ y. T y (get_or (map f (x ∷ xs)) j d)) (sym (get_or-map f (x ∷ xs) i x d first))
    (subst (λ y. T (f (get_or (x ∷ xs) i x)) y) (sym (get_or-map f (x ∷ xs) j x d last)) one)

-- the new element is the last of those that tie with it, and they stay in their order
module _ {X : Type 0} (R : X → X → Ordering) (total : IsTotalOrder R) (x : X) where
  abbrev ties : X → Bool
  ties y = is_eq (R x y)

  none_ties : (ys : List X) → All (λ y. R x y ≡ Less) ys → filter ties ys ≡ []
  none_ties [] above = refl
  none_ties (y ∷ ys) above =
      by_case (R x y) (All-head (λ y. R x y ≡ Less) y ys above) (none_ties ys (All-tail (λ y. R x y ≡ Less) y ys above))
    where
      by_case : (o : Ordering) → o ≡ Less → filter ties ys ≡ []
          → cond (is_eq o) (y ∷ filter ties ys) (filter ties ys) ≡ []
      by_case Less is more = more
      by_case Equal is more = absurd (cc (is))
      by_case Greater is more = absurd (cc (is))

  alone : (ys : List X) → filter ties ys ≡ [] → filter ties (x ∷ ys) ≡ x ∷ []
  alone ys none = by_case (R x x) (tied_itself total x)
    where
      by_case : (o : Ordering) → o ≡ Equal → cond (is_eq o) (x ∷ filter ties ys) (filter ties ys) ≡ x ∷ []
      by_case Less is = absurd (cc (is))
      by_case Equal is = ap (λ zs. x ∷ zs) none
      by_case Greater is = absurd (cc (is))

  both : (y : X) (ys : List X) (b : Bool) → filter ties (after_insert R x ys) ≡ filter ties ys ++ x ∷ []
      → cond b (y ∷ filter ties (after_insert R x ys)) (filter ties (after_insert R x ys)) ≡ cond b (y ∷ filter ties ys) (filter ties ys) ++ x ∷ []
  both y ys true more = ap (λ zs. y ∷ zs) more
  both y ys false more = more

  pub ties_behind : (xs : List X) → IsInOrder R xs
      → filter (λ y. is_eq (R x y)) (after_insert R x xs) ≡ filter (λ y. is_eq (R x y)) xs ++ x ∷ []
  ties_behind [] order = alone [] refl
  ties_behind (y ∷ ys) order =
      by_case (R x y) refl (ties_behind ys (AllPairs-tail (λ a b. R a b ≢ Greater) y ys order))
    where
      rest_above : R x y ≡ Less → filter ties (y ∷ ys) ≡ []
      rest_above less =
          none_ties (y ∷ ys) (All-cons (λ z. R x z ≡ Less) y ys less (λ k d inside. less_then total x y (get_or ys k d) less (AllPairs-head (λ a b. R a b ≢ Greater) y ys order k d inside)))

      by_case : (o : Ordering) → R x y ≡ o → filter ties (after_insert R x ys) ≡ filter ties ys ++ x ∷ []
          → filter ties (if is_lt o then x ∷ y ∷ ys else y ∷ after_insert R x ys) ≡ filter ties (y ∷ ys) ++ x ∷ []
      by_case Less is more = alone (y ∷ ys) (rest_above is) ∙ ap (λ zs. zs ++ x ∷ []) (sym (rest_above is))
      by_case Equal is more = both y ys (is_eq (R x y)) more
      by_case Greater is more = both y ys (is_eq (R x y)) more

-- a list put in its order, where only equal elements tie
module _ {X : Type 0} (R : X → X → Ordering) (total : IsTotalOrder R) (same : (a b : X) → R a b ≡ Equal → a ≡ b) where
  pair_swaps : (a b : X) (zs : List X)
      → (if is_lt (R a b) then a ∷ b ∷ zs else b ∷ a ∷ zs) ≡ (if is_lt (R b a) then b ∷ a ∷ zs else a ∷ b ∷ zs)
  pair_swaps a b zs = by_case (R a b) refl
    where
      by_case : (o : Ordering) → R a b ≡ o
          → (if is_lt (R a b) then a ∷ b ∷ zs else b ∷ a ∷ zs) ≡ (if is_lt (R b a) then b ∷ a ∷ zs else a ∷ b ∷ zs)
      by_case Less is = rw (is, total.antisymm b a, is)
      by_case Equal is =
          let one = same a b is in
          subst (λ c. (if is_lt (R a c) then a ∷ c ∷ zs else c ∷ a ∷ zs) ≡ (if is_lt (R c a) then c ∷ a ∷ zs else a ∷ c ∷ zs)) one refl
      by_case Greater is = rw (is, total.antisymm b a, is)

  -- one that goes in front of y is not behind one that doesn't
  not_before : (a b y : X) → is_lt (R a y) ≡ true → is_lt (R b y) ≡ false → is_lt (R b a) ≡ false
  not_before a b y front behind = by_case (R b a) refl
    where
      by_case : (o : Ordering) → R b a ≡ o → is_lt (R b a) ≡ false
      by_case Less is =
          let less = total.trans b a y is (less_from (R a y) front) in
          let no_way : true ≡ false = sym (ap is_lt less) ∙ behind in
          absurd (cc)
      by_case Equal is = ap is_lt is
      by_case Greater is = ap is_lt is

  -- elements go in in either order
  pub after_insert-after_insert : (a b : X) (xs : List X)
      → after_insert R a (after_insert R b xs) ≡ after_insert R b (after_insert R a xs)
  after_insert-after_insert a b [] = pair_swaps a b []
  after_insert-after_insert a b (y ∷ ys) =
      by_case (is_lt (R a y)) (is_lt (R b y)) refl refl (after_insert-after_insert a b ys)
    where
      by_case : (p q : Bool) → is_lt (R a y) ≡ p → is_lt (R b y) ≡ q
          → after_insert R a (after_insert R b ys) ≡ after_insert R b (after_insert R a ys)
          → after_insert R a (after_insert R b (y ∷ ys)) ≡ after_insert R b (after_insert R a (y ∷ ys))
      by_case true true ea eb more = simp (ea, eb) (pair_swaps a b (y ∷ ys))
      by_case true false ea eb more = let no = not_before a b y ea eb in simp (ea, eb, no)
      by_case false true ea eb more = let no = not_before b a y eb ea in simp (ea, eb, no)
      by_case false false ea eb more = simp (ea, eb) (ap (λ zs. y ∷ zs) more)

  -- a list in its order
  abbrev pub in_turn : List X → List X
  in_turn [] = []
  in_turn (x ∷ xs) = after_insert R x (in_turn xs)

  pub in_turn-middle : (front : List X) (x : X) (back : List X)
      → in_turn (front ++ x ∷ back) ≡ after_insert R x (in_turn (front ++ back))
  in_turn-middle [] x back = refl
  in_turn-middle (f ∷ front) x back =
      ap (after_insert R f) (in_turn-middle front x back) ∙ after_insert-after_insert f x (in_turn (front ++ back))

  -- an element that is greater than none of a list goes to its front
  pub front-after_insert : (x : X) (xs : List X) → All (λ y. R x y ≢ Greater) xs → after_insert R x xs ≡ x ∷ xs
  front-after_insert x [] all = refl
  front-after_insert x (y ∷ ys) all =
      by_case (R x y) refl (All-head (λ y. R x y ≢ Greater) y ys all) (λ one. front-after_insert x ys (All-tail (λ y. R x y ≢ Greater) y ys all))
    where
      by_case : (o : Ordering) → R x y ≡ o → o ≢ Greater → (x ≡ y → after_insert R x ys ≡ x ∷ ys)
          → (if is_lt o then x ∷ y ∷ ys else y ∷ after_insert R x ys) ≡ x ∷ y ∷ ys
      by_case Less is upto more = refl
      by_case Equal is upto more = let one = same x y is in ap (λ zs. y ∷ zs) (more one) ∙ (λ i. sym one i ∷ one i ∷ ys)
      by_case Greater is upto more = absurd (upto refl)

  -- a list that is in order is its own order
  pub in_turn-in_order : (xs : List X) → IsInOrder R xs → in_turn xs ≡ xs
  in_turn-in_order [] order = refl
  in_turn-in_order (x ∷ xs) order =
      ap (after_insert R x) (in_turn-in_order xs (AllPairs-tail (λ a b. R a b ≢ Greater) x xs order))
      ∙ front-after_insert x xs (AllPairs-head (λ a b. R a b ≢ Greater) x xs order)
