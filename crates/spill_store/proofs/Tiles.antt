-- Which tile's block has the first of all spilled tasks.
use Rattle.std.proofs.Common.{◌≡◌, ◌≢◌, ◌⊎◌, ℕ, ◌+◌, ◌<◌, ◌≤◌, true, false, Option, Some, None, List, [], ◌∷◌, length}
use Rattle.std.proofs.Common.{set, refl, sym, ap, subst, ◌∙◌, inl, inr, arith, slice_get, slice_index_or, zero, suc}
use Rattle.std.specs.Bool.{if◌then◌else◌}
use Rattle.std.specs.Cmp.{IsTotalOrder}
use Rattle.std.specs.Ordering.{nat_cmp, ordering_then, ordering_reverse, is_lt}
use Rattle.std.specs.declared.cmp.Ordering.{Ordering}
use Rattle.std.specs.declared.cmp.Ordering.TheVariants.{Less, Equal, Greater}
use Rattle.std.proofs.lemmas.Bool.{cases_eq, cases_lt}
use Rattle.std.proofs.lemmas.Bool.Decides.{nat_tests}
use Rattle.std.proofs.lemmas.Cmp.{on_total, then_total, nat_cmp_total, tied_itself, upto}
use Rattle.std.proofs.lemmas.List.{get_or-set_same, get_or-set_other, length-set}
use Rattle.std.proofs.lemmas.Option.{slice_get_within, get_or_from_slice_get}
use Rattle.fractal_vt.specs.Sorted.{IsInOrder}
use Rattle.fractal_vt.specs.declared.key.Key.{Key}
use Rattle.fractal_vt.specs.Keys.{key_cmp}
use Rattle.fractal_vt.proofs.Proved.{first_not_greater, greater_not, key_cmp_total, not_greater}
use Rattle.spill_store.specs.SpilledTasks.{Spilled, open_key, by_key, after_push, first_key}
use Rattle.spill_store.specs.Fronts.{Front, key_rank, key_or, front_cmp, front_at, FrontPrecedes, IsFront, IsFrontBut}
use Rattle.spill_store.specs.Fronts.{IsFirstOfAll}

pub front_cmp_total : IsTotalOrder front_cmp
front_cmp_total =
    then_total (on_total (λ f. key_rank f.key) nat_cmp_total) (then_total (on_total (λ f. key_or f.key) key_cmp_total) (on_total (λ f. f.tile) nat_cmp_total))

through : (x y z : Front) → front_cmp x y ≢ Greater → front_cmp y z ≢ Greater → front_cmp x z ≢ Greater
through x y z a b =
    greater_not (front_cmp x z) (upto front_cmp_total x y z (not_greater (front_cmp x y) a) (not_greater (front_cmp y z) b))

itself : (x : Front) → front_cmp x x ≢ Greater
itself x e = let no_way : Equal ≡ Greater = sym (tied_itself front_cmp_total x) ∙ e in cc

less_upto : (x y : Front) → is_lt (front_cmp x y) ≡ true → front_cmp x y ≢ Greater
less_upto x y less e = let no_way : false ≡ true = ap is_lt (sym e) ∙ less in cc

not_less_upto : (x y : Front) → is_lt (front_cmp x y) ≡ false → front_cmp y x ≢ Greater
not_less_upto x y not e =
    let less : front_cmp x y ≡ Less = front_cmp_total.antisymm x y ∙ ap ordering_reverse e in
    let no_way : true ≡ false = sym (ap is_lt less) ∙ not in
    cc

module _ (lists : List (List Spilled)) where
  -- of the front and one tile the one that comes first
  pub takes_over : (front tile : ℕ) → tile < length lists → IsFrontBut lists front tile
      → is_lt (front_cmp (front_at lists tile) (front_at lists front)) ≡ true → IsFront lists tile
  takes_over front tile inside is less = record { within = inside; first = first }
    where
      first : (t : ℕ) → t < length lists → FrontPrecedes lists tile t
      first t below = elim (cases_eq t tile) [
        | inl same ↦ subst (λ k. FrontPrecedes lists tile k) (sym same) (itself (front_at lists tile))
        | inr other ↦ through (front_at lists tile) (front_at lists front) (front_at lists t) (less_upto (front_at lists tile) (front_at lists front) less) (is.others t below other)
      ]

  pub stays_first : (front tile : ℕ) → IsFrontBut lists front tile
      → is_lt (front_cmp (front_at lists tile) (front_at lists front)) ≡ false → IsFront lists front
  stays_first front tile is not = record { within = is.within; first = first }
    where
      first : (t : ℕ) → t < length lists → FrontPrecedes lists front t
      first t below = elim (cases_eq t tile) [
        | inl same ↦ subst (λ k. FrontPrecedes lists front k) (sym same) (not_less_upto (front_at lists tile) (front_at lists front) not)
        | inr other ↦ is.others t below other
      ]

  -- the first of so many tiles
  abbrev pub IsBest : ℕ → ℕ → Type 0
  IsBest count best = (t : ℕ) → t < count → FrontPrecedes lists best t

  pub best_none : IsBest 1 0
  best_none t below =
      subst (λ k. FrontPrecedes lists 0 k) (let zero_is : 0 ≡ t = omega arith in zero_is) (itself (front_at lists 0))

  pub best_over : (count best : ℕ) → IsBest count best
      → is_lt (front_cmp (front_at lists count) (front_at lists best)) ≡ true → IsBest (count + 1) count
  best_over count best is less t below = elim (cases_eq t count) [
    | inl same ↦ subst (λ k. FrontPrecedes lists count k) (sym same) (itself (front_at lists count))
    | inr other ↦ through (front_at lists count) (front_at lists best) (front_at lists t) (less_upto (front_at lists count) (front_at lists best) less) (is t (omega (arith, below, other)))
  ]

  pub best_stays : (count best : ℕ) → IsBest count best
      → is_lt (front_cmp (front_at lists count) (front_at lists best)) ≡ false → IsBest (count + 1) best
  best_stays count best is not t below = elim (cases_eq t count) [
    | inl same ↦ subst (λ k. FrontPrecedes lists best k) (sym same) (not_less_upto (front_at lists count) (front_at lists best) not)
    | inr other ↦ is t (omega (arith, below, other))
  ]

-- a push makes the first key of a tile no greater
pub pushed_upto : (tile : ℕ) (tasks : List Spilled) (task : Spilled)
    → front_cmp (record { key = first_key (after_push tasks task); tile = tile }) (record { key = first_key tasks; tile = tile }) ≢ Greater
pushed_upto tile [] task = λ same. cc
pushed_upto tile (e ∷ tasks) task = by_case (by_key task e) refl
  where
    by_case : (o : Ordering) → by_key task e ≡ o
        → front_cmp (record { key = first_key (if is_lt o then task ∷ e ∷ tasks else e ∷ after_push tasks task); tile = tile }) (record { key = Some (open_key e); tile = tile }) ≢ Greater
    by_case Less is = subst (λ o. ordering_then o (nat_cmp tile tile) ≢ Greater) (sym is) (λ same. cc)
    by_case Equal is = itself (record { key = Some (open_key e); tile = tile })
    by_case Greater is = itself (record { key = Some (open_key e); tile = tile })

pub pushed_but : (lists now : List (List Spilled)) (front tile : ℕ) (task : Spilled)
    → now ≡ set lists tile (after_push (slice_index_or lists tile []) task) → tile < length lists → IsFront lists front
    → IsFrontBut now front tile
pushed_but lists now front tile task is inside first = record {
  within = (let long = ap length is ∙ length-set lists tile own in let within = first.within in omega arith);
  others = λ t below other.
      subst (λ f. front_cmp (front_at now front) f ≢ Greater) (sym (stays t other))
      (through (front_at now front) (front_at lists front) (front_at lists t) lower (first.first t (let long = ap length is ∙ length-set lists tile own in omega arith)));
}
  where
    own : List Spilled
    own = after_push (slice_index_or lists tile []) task

    stays : (t : ℕ) → t ≢ tile → front_at now t ≡ front_at lists t
    stays t other =
        ap (λ es. record { key = first_key es; tile = t }) (ap (λ ls. slice_index_or ls t []) is ∙ get_or-set_other lists tile t own [] other)

    lower : front_cmp (front_at now front) (front_at lists front) ≢ Greater
    lower = elim (cases_eq front tile) [
      | inl same ↦
          subst (λ k. front_cmp (front_at now k) (front_at lists k) ≢ Greater) (sym same)
          (subst (λ es. front_cmp (record { key = first_key es; tile = tile }) (front_at lists tile) ≢ Greater) (sym (ap (λ ls. slice_index_or ls tile []) is ∙ get_or-set_same lists tile own [] inside)) (pushed_upto tile (slice_index_or lists tile []) task))
      | inr other ↦ subst (λ f. front_cmp f (front_at lists front) ≢ Greater) (sym (stays front other)) (itself (front_at lists front))
    ]

-- what the noted tile says
module _ (lists : List (List Spilled)) (front : ℕ) (is : IsFront lists front) where
  against : (tile : ℕ) (mine theirs : Option Key) → first_key (slice_index_or lists front []) ≡ mine
      → first_key (slice_index_or lists tile []) ≡ theirs → tile < length lists
      → front_cmp (record { key = mine; tile = front }) (record { key = theirs; tile = tile }) ≢ Greater
  against tile mine theirs at their inside =
      subst (λ k. front_cmp (record { key = k; tile = front }) (record { key = theirs; tile = tile }) ≢ Greater) at
      (subst (λ k. front_cmp (front_at lists front) (record { key = k; tile = tile }) ≢ Greater) their (is.first tile inside))

  pub first_of_all : ((tile : ℕ) → tile < length lists → IsInOrder by_key (slice_index_or lists tile [])) → (key : Key)
      → first_key (slice_index_or lists front []) ≡ Some key → IsFirstOfAll lists front key
  first_of_all order key at = record {
    within = is.within;
    own = at;
    upto =
        λ other place task inside there. (let facts = by_list other place task inside (slice_index_or lists other []) refl there in facts.0);
    tied =
        λ other place task inside there same. (let facts = by_list other place task inside (slice_index_or lists other []) refl there in facts.1 same);
  }
    where
      tiles : (other : ℕ) → nat_cmp front other ≢ Greater → front ≤ other
      tiles other not = by_case (cases_lt other front)
        where
          by_case : (other < front) ⊎ (front ≤ other) → front ≤ other
          by_case (inl less) = absurd (not (grind (arith, nat_tests)))
          by_case (inr not_less) = not_less

      -- the first of a list is not above any of it
      of_first : (e : Spilled) (es : List Spilled) (place : ℕ) (task : Spilled) → IsInOrder by_key (e ∷ es)
          → slice_get (e ∷ es) place ≡ Some task → key_cmp (open_key e) (open_key task) ≢ Greater
      of_first e es zero task order there =
          let same : e ≡ task = cc (there) in
          subst (λ x. key_cmp (open_key e) (open_key x) ≢ Greater) same (λ greater. (let no_way : Equal ≡ Greater = sym (tied_itself key_cmp_total (open_key e)) ∙ greater in cc))
      of_first e es (suc place) task order there =
          let low = slice_get_within es place task there in
          subst (λ x. key_cmp (open_key e) (open_key x) ≢ Greater) (get_or_from_slice_get es place task task there) (order zero (suc place) task (omega arith) (omega (arith, low)))

      by_list : (other place : ℕ) (task : Spilled) → other < length lists → (es : List Spilled)
          → slice_index_or lists other [] ≡ es → slice_get (slice_index_or lists other []) place ≡ Some task
          → (key_cmp key (open_key task) ≢ Greater) × (key_cmp key (open_key task) ≡ Equal → front ≤ other)
      by_list other place task inside [] same there =
          absurd (cc (there, ap (λ (ls : List Spilled). slice_get ls place) same))
      by_list other place task inside (e ∷ es) same there =
          let before = against other (Some key) (Some (open_key e)) at (ap first_key same) inside in
          let mine : key_cmp key (open_key e) ≢ Greater = first_not_greater (key_cmp key (open_key e)) (nat_cmp front other) before in
          let theirs = of_first e es place task (subst (IsInOrder by_key) same (order other inside)) (ap (λ (ls : List Spilled). slice_get ls place) (sym same) ∙ there) in (
            greater_not (key_cmp key (open_key task)) (upto key_cmp_total key (open_key e) (open_key task) (not_greater (key_cmp key (open_key e)) mine) (not_greater (key_cmp (open_key e) (open_key task)) theirs)),
            λ tie. by_order (key_cmp key (open_key e)) refl mine before theirs tie,
          )
        where
          by_order : (o : Ordering) → key_cmp key (open_key e) ≡ o → o ≢ Greater
              → ordering_then (key_cmp key (open_key e)) (nat_cmp front other) ≢ Greater
              → key_cmp (open_key e) (open_key task) ≢ Greater → key_cmp key (open_key task) ≡ Equal → front ≤ other
          by_order Less o_is fine before theirs tie =
              absurd (theirs (key_cmp_total.antisymm (open_key e) (open_key task) ∙ ap ordering_reverse (sym (key_cmp_total.congr key (open_key task) (open_key e) tie) ∙ o_is)))
          by_order Equal o_is fine before theirs tie =
              tiles other (subst (λ o. ordering_then o (nat_cmp front other) ≢ Greater) o_is before)
          by_order Greater o_is fine before theirs tie = absurd (fine refl)

  pub none_at_all : first_key (slice_index_or lists front []) ≡ None → (tile : ℕ) → tile < length lists
      → slice_index_or lists tile [] ≡ []
  none_at_all at tile inside = by_list (slice_index_or lists tile []) refl
    where
      by_list : (es : List Spilled) → slice_index_or lists tile [] ≡ es → es ≡ []
      by_list [] same = refl
      by_list (e ∷ es) same = absurd (against tile None (Some (open_key e)) at (ap first_key same) inside refl)
