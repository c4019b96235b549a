-- The kinds of the domains that a task is in, by the bits of a number; and the floor of a domain.
use Rattle.std.proofs.Common.{◌≡◌, ◌/◌, ◌%◌, ◌^◌, ◌∷◌, ◌++◌, ℕ, zero, suc, true, false, List, [], refl, sym, ap, ◌∙◌}
use Rattle.std.proofs.Common.{arith, ◌==◌}
use Rattle.std.proofs.Math.Nat.{div-div-eq-div-mul, mul_comm, pow-suc, div-one}
use Rattle.fractal_vt.specs.declared.level.Level.{Level}
use Rattle.std.proofs.Common.{◌≢◌}
use Rattle.std.proofs.lemmas.Bool.Decides.{nat_tests}
use Rattle.guest_image.specs.declared.image.Kind.TheVariants.{Ordered, Unordered}
use Rattle.spec_state.specs.Tasks.{is_ordered_at, kind_if, kind_at, floor_in}

-- whether a domain is ordered is a bit
pub ordered_by_bit : (outer kinds : ℕ) → is_ordered_at outer kinds ≡ (kinds / 2 ^ outer % 2 == 1)
ordered_by_bit zero kinds = ap (λ n. n % 2 == 1) (sym (div-one kinds))
ordered_by_bit (suc outer) kinds =
    ordered_by_bit outer (kinds / 2)
    ∙ ap (λ n. n % 2 == 1) (div-div-eq-div-mul kinds 2 (2 ^ outer) ∙ ap (λ n. kinds / n) (mul_comm 2 (2 ^ outer) ∙ sym (pow-suc 2 outer)))

-- the floor of a domain is the timestamp of its last level
pub floor_last : (floor : ℕ) (outer : List Level) (last : Level) → floor_in floor (outer ++ last ∷ []) ≡ last.ts
floor_last floor [] last = refl
floor_last floor (level ∷ levels) last = floor_last level.ts levels last

pub kind_ordered : (outer kinds : ℕ) → kinds / 2 ^ outer % 2 ≡ 1 → Ordered ≡ kind_at outer kinds
kind_ordered outer kinds bit = sym (ap kind_if (ordered_by_bit outer kinds ∙ is_one (kinds / 2 ^ outer % 2) bit))
  where
    is_one : (n : ℕ) → n ≡ 1 → (n == 1) ≡ true
    is_one n same = grind (arith, nat_tests)

pub kind_unordered : (outer kinds : ℕ) → kinds / 2 ^ outer % 2 ≢ 1 → Unordered ≡ kind_at outer kinds
kind_unordered outer kinds bit = sym (ap kind_if (ordered_by_bit outer kinds ∙ not_one (kinds / 2 ^ outer % 2) bit))
  where
    not_one : (n : ℕ) → n ≢ 1 → (n == 1) ≡ false
    not_one n other = grind (arith, nat_tests)

pub floor_found : (domain outer : List Level) (last : Level) → domain ≡ outer ++ last ∷ [] → last.ts ≡ floor_in 0 domain
floor_found domain outer last is = sym (ap (floor_in 0) is ∙ floor_last 0 outer last)
