-- A new child keeps the order.
use Rattle.std.proofs.Common.{append_assoc, ◌≡◌, ◌≢◌, ◌⊎◌, ℕ, ◌<◌, ◌≤◌, Bool, true, false, List, [], ◌∷◌, ◌++◌, length}
use Rattle.std.proofs.Common.{Option, Some, None, refl, sym, ap, subst, ◌∙◌, inl, inr, arith}
use Rattle.std.proofs.lemmas.Bool.{cases_eq}
use Rattle.std.specs.declared.cmp.Ordering.TheVariants.{Less, Equal, Greater}
use Rattle.std.specs.Cmp.Lexicographic.{slice_cmp}
use Rattle.fractal_vt.specs.Levels.{Open, tie_cmp, level_cmp, levels_cmp}
use Rattle.fractal_vt.specs.Paths.{Below}
use Rattle.order_law.specs.Tasks.{Keyed, levels_of, HasNumber, IsTimely, IsSame, IsSub, IsSuper, Kin}
use Rattle.order_law.specs.Ordered.{TieBelow, LevelsBelow, HasCreator, IsShaped, IsOrdered}
use Rattle.std.specs.List.{AllZip}
use Rattle.std.specs.Ordering.{nat_cmp, ordering_then}
use Rattle.std.proofs.lemmas.Bool.Decides.{nat_tests}
use Rattle.fractal_vt.specs.declared.vt.TheConstants.{MAX_LEVELS}
use Rattle.fractal_vt.proofs.Proved.{level_cmp_total, prefix_is_less, same_front}
use Rattle.order_law.specs.Events.{Changes, IsAllowed, IsPlaced, EnqueuesInKeys}
use Rattle.order_law.proofs.Numbers.{LevelsBelow-append}

module _ (old new : ℕ → Option Keyed) (path : List Open) (next id : ℕ) (child : Keyed) (vacant : old id ≡ None) (changes : Changes old new id (Some child)) (open' : child.last.tb ≡ None) (low : LevelsBelow next child.domain) (good : IsShaped child) (creator : ℕ) (parent : child.creator ≡ Some creator) (has : HasCreator old creator child) (ordered : IsOrdered old path next) where
  which : (k : ℕ) (x : Keyed) → new k ≡ Some x → ((k ≡ id) × (x ≡ child)) ⊎ (old k ≡ Some x)
  which k x at = elim (cases_eq k id) [
    | inl here ↦ (let both : Some child ≡ Some x = sym changes.changed ∙ sym (ap new here) ∙ at in let eq : child ≡ x = cc in inl (here, sym eq))
    | inr other ↦ inr (sym (changes.others k other) ∙ at)
  ]

  kept_creator : (c : ℕ) (x : Keyed) → HasCreator old c x → HasCreator new c x
  kept_creator c x h =
      let other : c ≢ id = λ here. absurd (cc (h.there, ap old here, vacant)) in
      record {
        task = h.task;
        there = changes.others c other ∙ h.there;
        number = h.number;
        dispatched = h.dispatched;
        below = h.below;
        kin = h.kin;
      }

  no_number : (x : Keyed) (n : ℕ) → x ≡ child → HasNumber x n → ⊥
  no_number x n is number = absurd (cc (ap (λ z. z.last.tb) is, number, open'))

  pub enqueue_in_order : IsOrdered new path next
  enqueue_in_order =
      record {
        path_numbers = ordered.path_numbers;
        path_short = ordered.path_short;
        path_differs = ordered.path_differs;
        off_path = λ k x n at has on. elim (which k x at) [
          | inl here ↦ absurd (no_number x n here.1 has)
          | inr was ↦ ordered.off_path k x n was has on
        ];
        shaped = λ k x at. elim (which k x at) [
          | inl here ↦ subst IsShaped (sym here.1) good
          | inr was ↦ ordered.shaped k x was
        ];
        domain_numbers = λ k x at. elim (which k x at) [
          | inl here ↦ subst (λ z. LevelsBelow next z.domain) (sym here.1) low
          | inr was ↦ ordered.domain_numbers k x was
        ];
        number_below = λ k x n at number. elim (which k x at) [
          | inl here ↦ absurd (no_number x n here.1 number)
          | inr was ↦ ordered.number_below k x n was number
        ];
        numbers_differ = λ a b x y n at at' number number'. elim (which a x at) [
          | inl here ↦ absurd (no_number x n here.1 number)
          | inr was ↦ elim (which b y at') [
            | inl here' ↦ absurd (no_number y n here'.1 number')
            | inr was' ↦ ordered.numbers_differ a b x y n was was' number number'
          ]
        ];
        creators = λ k x c at p. elim (which k x at) [
          | inl here ↦
              let both : Some creator ≡ Some c = sym parent ∙ sym (ap (λ z. z.creator) here.1) ∙ p in
              let eq : creator ≡ c = cc in
              subst (λ z. HasCreator new c z) (sym here.1) (subst (λ j. HasCreator new j child) eq (kept_creator creator child has))
          | inr was ↦ kept_creator c x (ordered.creators k x c was p)
        ];
        on_path = λ k x at p. elim (which k x at) [
          | inl here ↦ absurd (cc (parent, ap (λ z. z.creator) here.1, p))
          | inr was ↦ ordered.on_path k x was p
        ];
      }

-- an open level of no lesser timestamp is above a numbered one
earlier_ts : (l m : Open) (n : ℕ) → l.tb ≡ Some n → m.tb ≡ None → l.ts ≤ m.ts → level_cmp l m ≡ Less
earlier_ts l m n closed open' late = ap (ordering_then (nat_cmp l.ts m.ts)) tie ∙ by_ts
  where
    tie : tie_cmp l.tb m.tb ≡ Less
    tie = ap (λ t. tie_cmp t m.tb) closed ∙ ap (tie_cmp (Some n)) open'

    by_ts : ordering_then (nat_cmp l.ts m.ts) Less ≡ Less
    by_ts = grind (arith, nat_tests)

-- a child above its creator: in its domain, in its subdomain, or one domain further out
same_child_above : (ds : List Open) (l m : Open) (n : ℕ) → l.tb ≡ Some n → m.tb ≡ None → l.ts ≤ m.ts
    → Below level_cmp ds l ds m
same_child_above ds l m n closed open' late =
    same_front level_cmp level_cmp_total ds (l ∷ []) (m ∷ [])
    ∙ ap (λ o. ordering_then o Equal) (earlier_ts l m n closed open' late)

sub_child_above : (ds : List Open) (l m : Open) → Below level_cmp ds l (ds ++ l ∷ []) m
sub_child_above ds l m = prefix_is_less level_cmp level_cmp_total (ds ++ l ∷ []) m []

super_child_above : (ds : List Open) (q l m : Open) (n : ℕ) → q.tb ≡ Some n → m.tb ≡ None → q.ts ≤ m.ts
    → Below level_cmp (ds ++ q ∷ []) l ds m
super_child_above ds q l m n closed open' late =
    ap (λ xs. slice_cmp level_cmp xs (ds ++ m ∷ [])) (append_assoc ds (q ∷ []) (l ∷ []))
    ∙ same_front level_cmp level_cmp_total ds (q ∷ l ∷ []) (m ∷ [])
    ∙ ap (λ o. ordering_then o Greater) (earlier_ts q m n closed open' late)

LevelsBelow-front : (next : ℕ) (xs : List Open) (l : Open) → LevelsBelow next (xs ++ l ∷ [])
    → LevelsBelow next xs × TieBelow next l.tb
LevelsBelow-front next [] l below = (tt, below.0)
LevelsBelow-front next (x ∷ xs) l below = let rest = LevelsBelow-front next xs l below.1 in ((below.0, rest.0), rest.1)

timely_more : (kinds : List Bool) (xs : List Open) (kind : Bool) (l : Open) → AllZip IsTimely kinds xs → IsTimely kind l
    → AllZip IsTimely (kinds ++ kind ∷ []) (xs ++ l ∷ [])
timely_more [] [] kind l all last = (last, tt)
timely_more [] (x ∷ xs) kind l all last = absurd all
timely_more (k ∷ kinds) [] kind l all last = absurd all
timely_more (k ∷ kinds) (x ∷ xs) kind l all last = (all.0, timely_more kinds xs kind l all.1 last)

timely_front : (kinds : List Bool) (xs : List Open) (kind : Bool) (l : Open)
    → AllZip IsTimely (kinds ++ kind ∷ []) (xs ++ l ∷ []) → AllZip IsTimely kinds xs × IsTimely kind l
timely_front [] [] kind l all = (tt, all.0)
timely_front [] (x ∷ []) kind l all = absurd all.1
timely_front [] (x ∷ y ∷ xs) kind l all = absurd all.1
timely_front (k ∷ []) [] kind l all = absurd all.1
timely_front (k ∷ j ∷ kinds) [] kind l all = absurd all.1
timely_front (k ∷ kinds) (x ∷ xs) kind l all =
    let rest = timely_front kinds xs kind l all.1 in ((all.0, rest.0), rest.1)

tie_some : (next : ℕ) (t : Option ℕ) → TieBelow next t → (n : ℕ) × (t ≡ Some n)
tie_some next None below = absurd below
tie_some next (Some n) below = (n, refl)

length_front : (xs : List Open) (l : Open) → length xs < length (xs ++ l ∷ [])
length_front [] l = omega arith
length_front (x ∷ xs) l = (let less = length_front xs l in omega (arith, less))

-- a bound on the timestamp of an allowed child, whatever the kind of its domain
bound_holds : (child : Keyed) (level : Open) → IsAllowed child level.ts → IsTimely child.ordered level
    → level.ts ≤ child.last.ts
bound_holds child level allowed timely = by_kind child.ordered refl
  where
    by_kind : (b : Bool) → child.ordered ≡ b → level.ts ≤ child.last.ts
    by_kind true is = allowed.late is
    by_kind false is = let zero_ts : level.ts ≡ 0 = timely is in omega (arith, zero_ts)

-- what a child has, in whichever of the three domains (`Place`) it is
pub record Stands (next : ℕ) (creator child : Keyed) : Type 0 where
  pub below : levels_cmp (levels_of creator) (levels_of child) ≡ Less
  pub kin : Kin creator child
  pub numbers : LevelsBelow next child.domain
  pub good : IsShaped child

module _ (next n : ℕ) (creator child : Keyed) (number : HasNumber creator n) (low : n < next) (numbers : LevelsBelow next creator.domain) (good : IsShaped creator) (idle : child.last.tb ≡ None) where
  same_stands : IsSame creator child → IsAllowed child creator.last.ts → Stands next creator child
  same_stands is allowed =
      let late : creator.last.ts ≤ child.last.ts = bound_holds child creator.last allowed (subst (λ k. IsTimely k creator.last) (sym is.2) good.2) in
      record {
        below =
            ap (λ ds. levels_cmp (levels_of creator) (ds ++ child.last ∷ [])) is.0
            ∙ same_child_above creator.domain creator.last child.last n number idle late;
        kin = inl is;
        numbers = subst (LevelsBelow next) (sym is.0) numbers;
        good = (
          subst (λ ds. length ds < MAX_LEVELS) (sym is.0) good.0,
          subst (λ ks. AllZip IsTimely ks child.domain) (sym is.1) (subst (AllZip IsTimely creator.kinds) (sym is.0) good.1),
          allowed.timely,
        );
      }

  sub_stands : IsSub creator child → IsTimely child.ordered child.last → length child.domain < MAX_LEVELS
      → Stands next creator child
  sub_stands is timely deep =
      record {
        below =
            ap (λ ds. levels_cmp (levels_of creator) (ds ++ child.last ∷ [])) is.0
            ∙ sub_child_above creator.domain creator.last child.last;
        kin = inr (inl is);
        numbers =
            subst (LevelsBelow next) (sym is.0) (LevelsBelow-append next creator.domain creator.last numbers (subst (TieBelow next) (sym number) low));
        good = (
          deep,
          subst (λ ks. AllZip IsTimely ks child.domain) (sym is.1) (subst (AllZip IsTimely (creator.kinds ++ creator.ordered ∷ [])) (sym is.0) (timely_more creator.kinds creator.domain creator.ordered creator.last good.1 good.2)),
          timely,
        );
      }

  super_stands : (level : Open) → IsSuper creator child level → IsAllowed child level.ts → Stands next creator child
  super_stands level is allowed =
      let fits = timely_front child.kinds child.domain child.ordered level (subst (λ ks. AllZip IsTimely ks (child.domain ++ level ∷ [])) is.1 (subst (AllZip IsTimely creator.kinds) is.0 good.1)) in
      let late : level.ts ≤ child.last.ts = bound_holds child level allowed fits.1 in
      let parts = LevelsBelow-front next child.domain level (subst (LevelsBelow next) is.0 numbers) in
      let tie = tie_some next level.tb parts.1 in
      let shorter : length child.domain < length creator.domain = subst (λ ds. length child.domain < length ds) (sym is.0) (length_front child.domain level) in
      let deep : length creator.domain < MAX_LEVELS = good.0 in
      record {
        below =
            ap (λ ds. levels_cmp (ds ++ creator.last ∷ []) (levels_of child)) is.0
            ∙ super_child_above child.domain level creator.last child.last tie.0 tie.1 idle late;
        kin = inr (inr (level, is));
        numbers = parts.0;
        good = (omega (arith, shorter, deep), fits.0, allowed.timely);
      }

  pub stands : IsPlaced creator child → Stands next creator child
  stands (inl same) = same_stands same.0 same.1
  stands (inr (inl sub)) = sub_stands sub.0 sub.1 sub.2
  stands (inr (inr super)) = super_stands super.0 super.1 super.2

-- a new child has this, in whichever of the three domains (`Place`) it is
pub enqueued_creator : (old new : ℕ → Option Keyed) (path : List Open) (next : ℕ) (s : EnqueuesInKeys old new)
    → IsOrdered old path next → Stands next s.task s.child
enqueued_creator old new path next s ordered =
    stands next s.number s.task s.child s.dispatched (ordered.number_below s.creator s.task s.number s.there s.dispatched) (ordered.domain_numbers s.creator s.task s.there) (ordered.shaped s.creator s.task s.there) s.idle s.placed

pub enqueue_law : (old new : ℕ → Option Keyed) (path : List Open) (next : ℕ) → EnqueuesInKeys old new
    → IsOrdered old path next → IsOrdered new path next
enqueue_law old new path next s ordered =
    let is = enqueued_creator old new path next s ordered in
    enqueue_in_order old new path next s.id s.child s.vacant s.changes s.idle is.numbers is.good s.creator s.made_by
    (record { task = s.task; there = s.there; number = s.number; dispatched = s.dispatched; below = is.below; kin = is.kin }) ordered
