-- The numbers from some number on; those from 0 are all slots, before any is in use.
use Rattle.std.proofs.Common.{◌≡◌, ℕ, zero, suc, ◌+◌, ◌<◌, ◌≤◌, false, nat_eq, List, [], ◌∷◌, ◌++◌, length, get_or}
use Rattle.std.proofs.Common.{replicate, sym, ap, subst, ◌∙◌, arith}
use Rattle.std.specs.List.{All, IsDistinct, AllByRecursion, range_with_len}
use Rattle.std.proofs.lemmas.List.{length-replicate}
use Rattle.std.proofs.lemmas.List.FromFn.{length-range_with_len, get_or-range_with_len}
use Rattle.std.proofs.lemmas.Bool.Decides.{nat_tests}
use Rattle.commit_arbiter.specs.declared.candidate.Candidate.{Candidate}
use Rattle.commit_arbiter.specs.Slots.{blank_candidate, IsSlotted}

pub range_more : (from many last : ℕ) → from + many ≡ last
    → range_with_len from many ++ last ∷ [] ≡ range_with_len from (suc many)
range_more from zero last same = let here : last ≡ from = omega arith in ap (λ n. n ∷ []) here
range_more from (suc many) last same = ap (λ ns. from ∷ ns) (range_more (from + 1) many last (omega arith))

above_differ : (n from many : ℕ) → n < from
    → AllByRecursion (λ other. nat_eq n other ≡ false) (range_with_len from many)
above_differ n from zero less = tt
above_differ n from (suc many) less = (grind (arith, nat_tests), above_differ n (from + 1) many (omega arith))

range_distinct : (from many : ℕ) → IsDistinct nat_eq (range_with_len from many)
unfolding IsDistinct
range_distinct from zero = tt
range_distinct from (suc many) = (above_differ from (from + 1) many (omega arith), range_distinct (from + 1) many)

pub all_free : (table : List Candidate) (free : List ℕ) (many order_capacity free_capacity : ℕ)
    → table ≡ replicate many blank_candidate → free ≡ range_with_len 0 many → many ≤ order_capacity
    → many ≤ free_capacity → IsSlotted table [] free order_capacity free_capacity
all_free table free many order_capacity free_capacity blanks numbers order_holds free_holds =
    let long : length table ≡ many = ap length blanks ∙ length-replicate many blank_candidate in
    let as_long : length free ≡ many = ap length numbers ∙ length-range_with_len 0 many in
    record {
      distinct = subst (IsDistinct nat_eq) (sym numbers) (range_distinct 0 many);
      within =
          subst (All (λ slot. slot < length table)) (sym numbers) (λ k d inside. below k d (subst (λ n. k < n) (length-range_with_len 0 many) inside) long);
      all = omega arith;
      order_holds = omega arith;
      free_holds = omega arith;
    }
  where
    below : (k d : ℕ) → k < many → length table ≡ many → get_or (range_with_len 0 many) k d < length table
    below k d inside long = let at = get_or-range_with_len 0 many k d inside in omega arith
