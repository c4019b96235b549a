-- What holds of every ordering, and of numbers that are compared.
use Rattle.std.proofs.Common.{◌≡◌, ◌≢◌, ◌<◌, ℕ, true, false, refl, arith}
use Rattle.std.specs.Ordering.{is_gt, is_lt, nat_cmp, ordering_then}
use Rattle.std.specs.declared.cmp.Ordering.{Ordering}
use Rattle.std.specs.declared.cmp.Ordering.TheVariants.{Less, Equal, Greater}
use Rattle.std.proofs.lemmas.Bool.Decides.{nat_tests}

-- an ordering that isn't greater fails the test for it
pub not_greater : (o : Ordering) → o ≢ Greater → is_gt o ≡ false
not_greater Less not = refl
not_greater Equal not = refl
not_greater Greater not = absurd (not refl)

-- and one that fails it isn't greater
pub greater_not : (o : Ordering) → is_gt o ≡ false → o ≢ Greater
greater_not Less e = λ never. absurd (cc)
greater_not Equal e = λ never. absurd (cc)
greater_not Greater e = absurd (cc)

-- an ordering that passes the test for less is less
pub less_from : (o : Ordering) → is_lt o ≡ true → o ≡ Less
less_from Less e = refl
less_from Equal e = absurd (cc)
less_from Greater e = absurd (cc)

-- what is neither greater nor equal is less
pub less_of : (o : Ordering) → o ≢ Greater → o ≢ Equal → o ≡ Less
less_of Less a b = refl
less_of Equal a b = absurd (b refl)
less_of Greater a b = absurd (a refl)

-- where two orderings after one another tie, both do
pub both_equal : (o p : Ordering) → ordering_then o p ≡ Equal → (o ≡ Equal) × (p ≡ Equal)
both_equal Less p e = absurd (cc)
both_equal Equal p e = (refl, e)
both_equal Greater p e = absurd (cc)

-- and so the second does
pub then_equal : (o p : Ordering) → ordering_then o p ≡ Equal → p ≡ Equal
then_equal Less p e = absurd (cc)
then_equal Equal p e = e
then_equal Greater p e = absurd (cc)

-- where the whole isn't greater, the first isn't
pub first_not_greater : (o p : Ordering) → ordering_then o p ≢ Greater → o ≢ Greater
first_not_greater Less p low e = absurd (cc)
first_not_greater Equal p low e = absurd (cc)
first_not_greater Greater p low e = low refl

-- one that isn't greater, and then less, isn't greater
pub then_less : (o : Ordering) → o ≢ Greater → ordering_then o Less ≢ Greater
then_less Less upto e = absurd (cc (e))
then_less Equal upto e = absurd (cc (e))
then_less Greater upto e = upto refl

-- where one and then greater isn't greater, the one is less
pub then_greater : (o : Ordering) → ordering_then o Greater ≢ Greater → o ≡ Less
then_greater Less upto = refl
then_greater Equal upto = absurd (upto refl)
then_greater Greater upto = absurd (upto refl)

-- the lower number is less
pub less_number : (a b : ℕ) → a < b → nat_cmp a b ≡ Less
less_number a b less = grind (arith, nat_tests)

-- and the higher one is greater
pub greater_number : (a b : ℕ) → b < a → nat_cmp a b ≡ Greater
greater_number a b less = grind (arith, nat_tests)

-- a number ties with itself
pub same_number : (n : ℕ) → nat_cmp n n ≡ Equal
same_number n = grind (arith, nat_tests)

-- of two numbers of which the first is less, the first is the lower one
pub below_from : (a b : ℕ) → nat_cmp a b ≡ Less → a < b
below_from a b less = grind (arith, nat_tests)
