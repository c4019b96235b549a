-- Sums of lists of numbers.
use Rattle.std.proofs.Common.{◌≡◌, ◌+◌, ◌++◌, ℕ, List, sum}
use Rattle.std.proofs.lemmas.List.Sums.{sum_by-append}

-- the sum of two lists, one behind the other
pub sum_both : (xs ys zs : List ℕ) → zs ≡ xs ++ ys → sum zs ≡ sum xs + sum ys
sum_both xs ys zs e = rw e (sum_by-append (λ x. x) xs ys)
