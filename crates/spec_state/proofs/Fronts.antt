-- The first of the spilled tasks, from block to block, and from what the blocks tell of it.
use Rattle.std.proofs.Common.{◌≡◌, ◌≢◌, ◌<◌, ◌≤◌, ◌+◌, ◌∷◌, ℕ, true, false, List, [], length, map, take, Some, refl}
use Rattle.std.proofs.Common.{sym, ap, subst, ◌∙◌, inl, inr, arith, slice_get, slice_index_or}
use Rattle.std.specs.Cmp.{IsTotalOrder}
use Rattle.std.specs.Ordering.{nat_cmp, ordering_then, ordering_reverse, is_lt}
use Rattle.std.specs.declared.cmp.Ordering.{Ordering}
use Rattle.std.specs.declared.cmp.Ordering.TheVariants.{Less, Equal, Greater}
use Rattle.std.proofs.lemmas.Bool.{cases_eq, cases_lt}
use Rattle.std.proofs.lemmas.Bool.Decides.{nat_tests}
use Rattle.std.proofs.lemmas.Cmp.{upto}
use Rattle.std.proofs.lemmas.List.{get_or-take}
use Rattle.std.proofs.lemmas.Option.{slice_get_within, slice_get-map, get_or_from_slice_get}
use Rattle.std.proofs.Common.{option_map, length-take-le}
use Rattle.fractal_vt.specs.declared.key.Key.{Key}
use Rattle.fractal_vt.specs.Keys.{key_cmp}
use Rattle.fractal_vt.proofs.Proved.{key_cmp_total, least_at, not_greater, greater_not, less_from, less_number}
use Rattle.fractal_vt.proofs.Proved.{same_number, less_then}
use Rattle.spill_store.specs.SpilledTasks.{Spilled, first_key, open_key, IsLeastKey}
use Rattle.spill_store.specs.Fronts.{IsFirstOfAll}
use Rattle.spec_state.specs.Least.{Spilled_at, ranked_cmp, place_cmp}
use Rattle.spec_state.specs.Fronts.{IsFirstSpilled, HoldNone}

-- not above is transitive
pub not_above : {K : Type 0} {R : K → K → Ordering} (total : IsTotalOrder R) (x y z : K) → R x y ≢ Greater
    → R y z ≢ Greater → R x z ≢ Greater
not_above {K} {R} total x y z a b =
    greater_not (R x z) (upto total x y z (not_greater (R x y) a) (not_greater (R y z) b))

pub upto_place : (a b : ℕ) → a ≤ b → nat_cmp a b ≢ Greater
upto_place a b upto same = absurd (grind (arith, nat_tests))

-- in one tile: a key that isn't above, and no later place
pub in_tile : (key other : Key) (tile place p : ℕ) → key_cmp key other ≢ Greater → place ≤ p
    → ranked_cmp key (Spilled_at tile place) other (Spilled_at tile p) ≢ Greater
in_tile key other tile place p not upto = go (key_cmp key other) not
  where
    go : (o : Ordering) → o ≢ Greater → ordering_then o (ordering_then (nat_cmp tile tile) (nat_cmp place p)) ≢ Greater
    go Less fine = λ same. cc
    go Equal fine =
        subst (λ o. ordering_then o (nat_cmp place p) ≢ Greater) (sym (same_number tile)) (upto_place place p upto)
    go Greater fine = absurd (fine refl)

-- a key that isn't above, and a lower tile
pub lower_tile : (key other : Key) (tile place t p : ℕ) → key_cmp key other ≢ Greater → tile < t
    → ranked_cmp key (Spilled_at tile place) other (Spilled_at t p) ≢ Greater
lower_tile key other tile place t p not less = go (key_cmp key other) not
  where
    go : (o : Ordering) → o ≢ Greater → ordering_then o (ordering_then (nat_cmp tile t) (nat_cmp place p)) ≢ Greater
    go Less fine = λ same. cc
    go Equal fine =
        subst (λ o. ordering_then o (nat_cmp place p) ≢ Greater) (sym (less_number tile t less)) (λ same. cc)
    go Greater fine = absurd (fine refl)

-- a lesser key
pub lesser_key : (key other : Key) (tile place t p : ℕ) → key_cmp key other ≡ Less
    → ranked_cmp key (Spilled_at tile place) other (Spilled_at t p) ≢ Greater
lesser_key key other tile place t p less =
    subst (λ o. ordering_then o (place_cmp tile place t p) ≢ Greater) (sym less) (λ same. cc)

-- what isn't above by rank isn't above by key
key_upto : (key other : Key) (tile place t p : ℕ)
    → ranked_cmp key (Spilled_at tile place) other (Spilled_at t p) ≢ Greater → key_cmp key other ≢ Greater
key_upto key other tile place t p not same = not (ap (λ o. ordering_then o (place_cmp tile place t p)) same)

module _ (blocks : List (List Spilled)) (n : ℕ) where
  abbrev next : List Spilled
  next = slice_index_or blocks n []

  abbrev Found : ℕ → ℕ → Spilled → Type 0
  Found t p x = slice_get (slice_index_or blocks t []) p ≡ Some x

  pub none_and_none : HoldNone blocks n → next ≡ [] → HoldNone blocks (n + 1)
  none_and_none none empty t p x less at = elim (cases_eq t n) [
    | inl same ↦ absurd (cc (at, ap (λ j. slice_get (slice_index_or blocks j []) p) same, ap (λ (es : List Spilled). slice_get es p) empty))
    | inr other ↦ none t p x (omega (arith, less, other)) at
  ]

  pub front_and_none : (tile : ℕ) (key : Key) → IsFirstSpilled blocks n tile key → next ≡ []
      → IsFirstSpilled blocks (n + 1) tile key
  front_and_none tile key is empty = record {
    below = omega (arith, is.below);
    place = is.place;
    spilled = is.spilled;
    there = is.there;
    of_task = is.of_task;
    first = λ t p x less at. elim (cases_eq t n) [
      | inl same ↦ absurd (cc (at, ap (λ j. slice_get (slice_index_or blocks j []) p) same, ap (λ (es : List Spilled). slice_get es p) empty))
      | inr other ↦ is.first t p x (omega (arith, less, other)) at
    ];
  }

  module _ (key : Key) (least : IsLeastKey next key) where
    keys_at : (p : ℕ) (x : Spilled) → slice_get next p ≡ Some x → slice_get (map open_key next) p ≡ Some (open_key x)
    keys_at p x at = slice_get-map open_key next p ∙ ap (option_map open_key) at

    own_key : least.least.least.key ≡ key
    own_key =
        let both : Some least.least.least.key ≡ Some (open_key least.task) = sym least.least.least.there ∙ keys_at least.place least.task least.least.there in
        let same : least.least.least.key ≡ open_key least.task = cc in
        same ∙ sym least.of_task

    -- its key is above none of the block
    key_first : (p : ℕ) (x : Spilled) → slice_get next p ≡ Some x → key_cmp key (open_key x) ≢ Greater
    key_first p x at =
        subst (λ (k : Key). key_cmp k (open_key x) ≢ Greater) own_key (least_at key_cmp (map open_key next) least.place least.least.least p (open_key x) (keys_at p x at))

    key_before : (p : ℕ) (x : Spilled) → p < least.place → slice_get next p ≡ Some x → key_cmp key (open_key x) ≡ Less
    key_before p x before at =
        let keys = map open_key next in
        let taken : slice_index_or (take least.place keys) p (open_key x) ≡ open_key x = get_or-take least.place keys p (open_key x) before ∙ get_or_from_slice_get keys p (open_key x) (open_key x) (keys_at p x at) in
        let inside : p < length (take least.place keys) = (let long = length-take-le least.place keys (le_place at) in omega (arith, long, before)) in
        subst (λ (k : Key). key_cmp k (open_key x) ≡ Less) own_key (subst (λ (o : Key). key_cmp least.least.least.key o ≡ Less) taken (least.least.least.first p (open_key x) inside))
      where
        le_place : slice_get next p ≡ Some x → least.place ≤ length (map open_key next)
        le_place at' =
            (let within = slice_get_within (map open_key next) least.place least.least.least.key least.least.least.there in omega (arith, within))

    own_first : (p : ℕ) (x : Spilled) → slice_get next p ≡ Some x
        → ranked_cmp key (Spilled_at n least.place) (open_key x) (Spilled_at n p) ≢ Greater
    own_first p x at = elim (cases_lt p least.place) [
      | inl before ↦ lesser_key key (open_key x) n least.place n p (key_before p x before at)
      | inr behind ↦ in_tile key (open_key x) n least.place p (key_first p x at) behind
    ]

    -- the block's own first task, where it comes before all earlier ones
    begins : ((t p : ℕ) (x : Spilled) → t < n → Found t p x → key_cmp key (open_key x) ≡ Less)
        → IsFirstSpilled blocks (n + 1) n key
    begins before = record {
      below = omega arith;
      place = least.place;
      spilled = least.task;
      there = least.least.there;
      of_task = least.of_task;
      first = λ t p x less at. elim (cases_eq t n) [
        | inl same ↦ subst (λ j. ranked_cmp key (Spilled_at n least.place) (open_key x) (Spilled_at j p) ≢ Greater) (sym same) (own_first p x (subst (λ j. Found j p x) same at))
        | inr other ↦ lesser_key key (open_key x) n least.place t p (before t p x (omega (arith, less, other)) at)
      ];
    }

    pub none_and_front : HoldNone blocks n → IsFirstSpilled blocks (n + 1) n key
    none_and_front none = begins (λ t p x less at. absurd (none t p x less at))

    module _ (tile : ℕ) (old : Key) (is : IsFirstSpilled blocks n tile old) where
      pub takes_front : is_lt (key_cmp key old) ≡ true → IsFirstSpilled blocks (n + 1) n key
      takes_front less =
          begins (λ t p x below at. less_then key_cmp_total key old (open_key x) (less_from (key_cmp key old) less)
          (key_upto old (open_key x) tile is.place t p (is.first t p x below at)))

      pub stays_front : is_lt (key_cmp key old) ≡ false → IsFirstSpilled blocks (n + 1) tile old
      stays_front not = record {
        below = omega (arith, is.below);
        place = is.place;
        spilled = is.spilled;
        there = is.there;
        of_task = is.of_task;
        first = λ t p x less at. elim (cases_eq t n) [
          | inl same ↦
              let here : slice_get next p ≡ Some x = subst (λ j. Found j p x) same at in
              let upto : key_cmp old (open_key x) ≢ Greater = not_above key_cmp_total old key (open_key x) (turned (key_cmp key old) not) (key_first p x here) in
              lower_tile old (open_key x) tile is.place t p upto (omega (arith, is.below, same))
          | inr other ↦ is.first t p x (omega (arith, less, other)) at
        ];
      }
        where
          turned : (o : Ordering) → is_lt o ≡ false → key_cmp old key ≢ Greater
          turned o lt = back (key_cmp old key) (key_cmp_total.antisymm key old) not
            where
              back : (r : Ordering) → key_cmp key old ≡ ordering_reverse r → is_lt (key_cmp key old) ≡ false
                  → r ≢ Greater
              back Less e off = λ same. cc
              back Equal e off = λ same. cc
              back Greater e off = absurd (cc (ap is_lt e, off))

-- what the blocks of all tiles tell of their first task
pub first_is_spilled : (blocks : List (List Spilled)) (tile : ℕ) (key : Key) → IsFirstOfAll blocks tile key
    → IsFirstSpilled blocks (length blocks) tile key
first_is_spilled blocks tile key is = by_list (slice_index_or blocks tile []) refl is.own
  where
    later : (t p : ℕ) (x : Spilled) → t < length blocks → slice_get (slice_index_or blocks t []) p ≡ Some x
        → ranked_cmp key (Spilled_at tile 0) (open_key x) (Spilled_at t p) ≢ Greater
    later t p x less at = elim (cases_eq t tile) [
      | inl same ↦ subst (λ n. ranked_cmp key (Spilled_at tile 0) (open_key x) (Spilled_at n p) ≢ Greater) (sym same) (in_tile key (open_key x) tile 0 p (is.upto t p x less at) (omega arith))
      | inr other ↦ elim (cases_lt tile t) [
        | inl below ↦ lower_tile key (open_key x) tile 0 t p (is.upto t p x less at) below
        | inr above ↦ by_order (key_cmp key (open_key x)) refl
      ]
    ]
      where
        by_order : (o : Ordering) → key_cmp key (open_key x) ≡ o
            → ranked_cmp key (Spilled_at tile 0) (open_key x) (Spilled_at t p) ≢ Greater
        by_order Less o_is = lesser_key key (open_key x) tile 0 t p o_is
        by_order Equal o_is = elim (cases_eq t tile) [
          | inl same ↦ subst (λ n. ranked_cmp key (Spilled_at tile 0) (open_key x) (Spilled_at n p) ≢ Greater) (sym same) (in_tile key (open_key x) tile 0 p (is.upto t p x less at) (omega arith))
          | inr other ↦ lower_tile key (open_key x) tile 0 t p (is.upto t p x less at) (let low = is.tied t p x less at o_is in omega (arith, low, other))
        ]
        by_order Greater o_is = absurd (is.upto t p x less at o_is)

    by_list : (es : List Spilled) → slice_index_or blocks tile [] ≡ es
        → first_key (slice_index_or blocks tile []) ≡ Some key → IsFirstSpilled blocks (length blocks) tile key
    by_list [] same own = absurd (cc (own, ap first_key same))
    by_list (e ∷ es) same own = record {
      below = is.within;
      place = 0;
      spilled = e;
      there = ap (λ (ls : List Spilled). slice_get ls 0) same;
      of_task =
          (let both : Some (open_key e) ≡ Some key = sym (ap first_key same) ∙ own in let mine : open_key e ≡ key = cc (both) in sym mine);
      first = later;
    }
