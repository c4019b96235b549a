-- Each number of a domain is one of the path or that of a dispatched task: along creators, which are below their children.
use Rattle.std.proofs.Common.{◌≡◌, ◌⊎◌, ℕ, zero, suc, ◌+◌, ◌<◌, ◌≤◌, Bool, true, false, List, [], ◌∷◌, ◌++◌, Option}
use Rattle.std.proofs.Common.{Some, None, refl, sym, ap, subst, ◌∙◌, inl, inr, arith, if◌then◌else◌}
use Rattle.std.proofs.lemmas.Bool.{cases_eq}
use Rattle.std.proofs.lemmas.Cmp.{tied_itself}
use Rattle.std.specs.Ordering.{is_lt}
use Rattle.std.specs.declared.cmp.Ordering.TheVariants.{Less}
use Rattle.fractal_vt.specs.Levels.{Open, level_cmp, levels_cmp}
use Rattle.fractal_vt.proofs.Proved.{levels_cmp_total, less_from}
use Rattle.order_law.specs.Tasks.{Keyed, levels_of, HasNumber, Kin}
use Rattle.order_law.specs.Ordered.{IsNumberOf, HasCreator, IsOrdered}
use Rattle.order_law.specs.Laws.{DomainNumbersAreHeld}
use Rattle.order_law.proofs.Numbers.{number_in, domain_in_path}

-- 1 for true, 0 for false
abbrev bit : Bool → ℕ
bit b = if b then 1 else 0

-- how many ids below a bound pass a test
abbrev count_below : (ℕ → Bool) → ℕ → ℕ
count_below test zero = 0
count_below test (suc n) = (if test n then 1 else 0) + count_below test n

-- what passes the first test passes the second
abbrev Implies : (ℕ → Bool) → (ℕ → Bool) → Type 0
Implies one two = (k : ℕ) → one k ≡ true → two k ≡ true

one_upto : (a b : Bool) → (a ≡ true → b ≡ true) → (if a then 1 else 0) ≤ (if b then 1 else 0)
one_upto false b implies = omega arith
one_upto true true implies = omega arith
one_upto true false implies = absurd (cc (implies refl))

count_upto : (one two : ℕ → Bool) → Implies one two → (n : ℕ) → count_below one n ≤ count_below two n
count_upto one two implies zero = omega arith
count_upto one two implies (suc n) =
    let here = one_upto (one n) (two n) (implies n) in
    let rest = count_upto one two implies n in
    omega (arith, here, rest)

-- fewer ids pass the first, where one that passes the second doesn't
count_less : (one two : ℕ → Bool) → Implies one two → (k : ℕ) → one k ≡ false → two k ≡ true → (n : ℕ) → k < n
    → count_below one n < count_below two n
count_less one two implies k out has zero low = absurd (omega (arith, low))
count_less one two implies k out has (suc n) low = elim (cases_eq k n) [
  | inl here ↦
      let rest = count_upto one two implies n in
      let none : ◌≡◌ {A = ℕ} (if one n then 1 else 0) 0 = ap bit (ap one (sym here) ∙ out) in
      let some : ◌≡◌ {A = ℕ} (if two n then 1 else 0) 1 = ap bit (ap two (sym here) ∙ has) in
      omega (arith, rest, none, some)
  | inr other ↦
      let first = one_upto (one n) (two n) (implies n) in
      let rest = count_less one two implies k out has n (omega (arith, low, other)) in
      omega (arith, first, rest)
]

-- whether a task stands there that is below this one
abbrev is_below : Keyed → Option Keyed → Bool
is_below task None = false
is_below task (Some x) = is_lt (levels_cmp (levels_of x) (levels_of task))

below_more : (low task : Keyed) → levels_cmp (levels_of low) (levels_of task) ≡ Less → (o : Option Keyed)
    → is_below low o ≡ true → is_below task o ≡ true
below_more low task less None is = is
below_more low task less (Some x) is =
    ap is_lt (levels_cmp_total.trans (levels_of x) (levels_of low) (levels_of task) (less_from (levels_cmp (levels_of x) (levels_of low)) is) less)

-- the numbers of a domain without its last level are numbers of the domain
number_in_front : (xs : List Open) (l : Open) (n : ℕ) → IsNumberOf n xs → IsNumberOf n (xs ++ l ∷ [])
number_in_front [] l n is = absurd is
number_in_front (x ∷ xs) l n (inl here) = inl here
number_in_front (x ∷ xs) l n (inr later) = inr (number_in_front xs l n later)

-- a number of a child's domain is one of its creator's domain, or the creator's own
number_of_creator : (creator child : Keyed) (n : ℕ) → Kin creator child → IsNumberOf n child.domain
    → IsNumberOf n creator.domain ⊎ HasNumber creator n
number_of_creator creator child n (inl same) is = inl (subst (IsNumberOf n) same.0 is)
number_of_creator creator child n (inr (inl sub)) is =
    number_in creator.domain creator.last n (subst (IsNumberOf n) sub.0 is)
number_of_creator creator child n (inr (inr super)) is =
    inl (subst (IsNumberOf n) (sym super.1.0) (number_in_front child.domain super.0 n is))

module _ (bound : ℕ) (tasks : ℕ → Option Keyed) (path : List Open) (next : ℕ) (bounded : (k : ℕ) (x : Keyed) → tasks k ≡ Some x → k < bound) (ordered : IsOrdered tasks path next) where
  -- the number is one of the path or that of a dispatched task
  abbrev IsHeldNumber : ℕ → Type 0
  IsHeldNumber n = IsNumberOf n path ⊎ ((k : ℕ) × (x : Keyed) × (tasks k ≡ Some x) × HasNumber x n)

  -- how many tasks are below this one
  abbrev rank_of : Keyed → ℕ
  rank_of task = count_below (λ k. is_below task (tasks k)) bound

  -- fewer are below a creator than below its child
  creator_is_lower : (c : ℕ) (child : Keyed) (has : HasCreator tasks c child) → rank_of has.task < rank_of child
  creator_is_lower c child has =
      count_less (λ k. is_below has.task (tasks k)) (λ k. is_below child (tasks k))
      (λ k is. below_more has.task child has.below (tasks k) is) c
      (ap (is_below has.task) has.there ∙ ap is_lt (tied_itself levels_cmp_total (levels_of has.task)))
      (ap (is_below child) has.there ∙ ap is_lt has.below)
      bound (bounded c has.task has.there)

  -- by the creator of the task, where it holds of the domain of that
  by_creator : (id : ℕ) (task : Keyed) (n : ℕ) → tasks id ≡ Some task → IsNumberOf n task.domain
      → ((c : ℕ) (has : HasCreator tasks c task) → IsNumberOf n has.task.domain → IsHeldNumber n) → IsHeldNumber n
  by_creator id task n at is before = by_option task.creator refl
    where
      by_number : (c : ℕ) (has : HasCreator tasks c task) → IsNumberOf n has.task.domain ⊎ HasNumber has.task n
          → IsHeldNumber n
      by_number c has (inl inside) = before c has inside
      by_number c has (inr own) = inr (c, has.task, has.there, own)

      by_option : (c : Option ℕ) → task.creator ≡ c → IsHeldNumber n
      by_option None free =
          inl (domain_in_path level_cmp path task.domain task.last n (ordered.on_path id task at free) is)
      by_option (Some c) made =
          let has = ordered.creators id task c at made in
          by_number c has (number_of_creator has.task task n has.kin is)

  -- by the number of tasks below
  held_within : (fuel id : ℕ) (task : Keyed) (n : ℕ) → rank_of task < fuel → tasks id ≡ Some task
      → IsNumberOf n task.domain → IsHeldNumber n
  held_within zero id task n low at is = absurd (omega (arith, low))
  held_within (suc fuel) id task n low at is =
      by_creator id task n at is (λ c has inside.
      (let less = creator_is_lower c task has in held_within fuel c has.task n (omega (arith, low, less)) has.there inside))

pub held_law : DomainNumbersAreHeld
held_law bound tasks path next bounded ordered id task n at is =
    held_within bound tasks path next bounded ordered (suc (rank_of bound tasks path next bounded ordered task)) id task n (omega arith) at is
