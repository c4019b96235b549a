-- Sums of counts that stop.
use Rattle.std.proofs.Common.{◌≡◌, ◌∙◌, ℕ, ◌+◌, ◌-◌, ◌^◌, ◌<◌, ◌≤◌, List, map, min, max, arith, codes}
use Rattle.std.proofs.Common.{decimal, ap, sym, length, get_or, set}
use Rattle.std.proofs.lemmas.List.{get_or-map, length-map, map-set, set_past}
use Rattle.watch_counts.specs.Counts.{add_at}
use Rattle.watch_counts.specs.Texts.{count_text}
use Rattle.std.proofs.lemmas.Bool.Decides.{nat_tests}
use Rattle.watch_counts.specs.Capped.{capped}

pub capped_sum : (c n : ℕ) → min (capped c + capped n) (2 ^ 64 - 1) ≡ capped (c + n)
unfolding capped
capped_sum c n = omega arith

pub capped_more : (c n : ℕ) → min (capped c + n) (2 ^ 64 - 1) ≡ capped (c + n)
unfolding capped
capped_more c n = omega arith

pub capped_max : (c n : ℕ) → max (capped c) (capped n) ≡ capped (max c n)
unfolding capped
capped_max c n = omega arith

-- a number of 64 bits is no more than the greatest
pub capped_itself : (count : ℕ) → count < 2 ^ 64 → capped count ≡ count
unfolding capped
capped_itself count small = omega arith

-- a count of 32 bits, widened, stays what it is
pub capped_narrow : (count narrow wide : ℕ) → narrow ≡ count → wide ≡ narrow → narrow < 2 ^ 32 → wide ≡ capped count
unfolding capped
capped_narrow count narrow wide is widened small = omega (arith, is, widened, small)

-- so many more at a place that is there
pub capped_at : (counts c : List ℕ) (place number new : ℕ) → counts ≡ map capped c → place < length counts
    → ((n : ℕ) → get_or counts place 0 ≡ capped n → new ≡ capped (n + number))
    → set counts place new ≡ map capped (add_at place number c)
capped_at counts c place number new are inside more =
    let few : length counts ≡ length c = ap length are ∙ length-map c capped in
    let there : get_or counts place 0 ≡ capped (get_or c place 0) =
    ap (λ list. get_or list place 0) are ∙ get_or-map capped c place 0 0 (omega (arith, few, inside)) in
    ap (λ list. set list place new) are
    ∙ ap (λ n. set (map capped c) place n) (more (get_or c place 0) there)
    ∙ sym (map-set capped c place (get_or c place 0 + number))

-- and at one that isn't
pub capped_beyond : (counts c : List ℕ) (place number : ℕ) → counts ≡ map capped c → length counts ≤ place
    → counts ≡ map capped (add_at place number c)
capped_beyond counts c place number are beyond =
    let few : length counts ≡ length c = ap length are ∙ length-map c capped in
    are ∙ ap (map capped) (sym (set_past c place (get_or c place 0 + number) (omega (arith, few, beyond))))

-- the text of a number below the greatest, and of the greatest
pub text_below : (count : ℕ) → count < 2 ^ 64 - 1 → count_text count ≡ decimal count
unfolding count_text
text_below count below = grind (arith, nat_tests)

pub text_stopped : (count : ℕ) → 2 ^ 64 - 1 ≤ count → count_text count ≡ codes "\"stopped\""
unfolding count_text
text_stopped count stopped = grind (arith, nat_tests)

-- a count that stopped has the text of the true one
pub text_capped : (count : ℕ) → count_text (capped count) ≡ count_text count
unfolding capped count_text
text_capped count = grind (arith, nat_tests)
