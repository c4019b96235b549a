-- What timestamp a child has that is allowed.
use Rattle.std.proofs.Common.{◌≡◌, ℕ, ◌≤◌, nat_lt, Bool, true, false, refl, sym, arith, if◌then◌else◌}
use Rattle.std.proofs.lemmas.Bool.Decides.{nat_tests}
use Rattle.std.specs.Prelude.{Result, Ok, Err}
use Rattle.guest_image.specs.declared.image.Kind.{Kind}
use Rattle.guest_image.specs.declared.image.Kind.TheVariants.{Unordered, Ordered}
use Rattle.task_desc.specs.Calls.{domain_ts, is_early, one_more_child, most_children}
use Rattle.task_desc.specs.declared.desc.Ctx.{Ctx}
use Rattle.spec_state.specs.Tasks.{kind_if}

-- what the counting of children allows is the timestamp that it was given
counted_is : (ctx : Ctx) (ts t : ℕ) → one_more_child ctx ts ≡ Ok t → ts ≡ t
counted_is ctx ts t allows = by_test (nat_lt ctx.children (most_children ctx.version)) allows
  where
    by_test : (b : Bool) → ◌≡◌ {A = Result ℕ ℕ} (if b then Ok ts else Err 15) (Ok t) → ts ≡ t
    by_test true e = cc
    by_test false e = absurd (cc (e))

-- what a domain of this kind takes from a bound on is no less than it where the domain is ordered, and 0 where it is not
pub bounded_is : (ctx : Ctx) (ordered : Bool) (ts bound t : ℕ)
    → (if is_early (kind_if ordered) ts bound then Err 10 else one_more_child ctx (domain_ts (kind_if ordered) ts)) ≡ Ok t
    → (ordered ≡ true → bound ≤ t) × (ordered ≡ false → t ≡ 0)
bounded_is ctx true ts bound t allows = by_test (nat_lt ts bound) refl allows
  where
    by_test : (b : Bool) → nat_lt ts bound ≡ b → (if b then Err 10 else one_more_child ctx ts) ≡ Ok t
        → (true ≡ true → bound ≤ t) × (true ≡ false → t ≡ 0)
    by_test true early e = absurd (cc (e))
    by_test false early e =
        let same = counted_is ctx ts t e in
        let low : bound ≤ ts = grind (arith, nat_tests) in
        (λ is. omega (arith, same, low), λ is. absurd (cc (is)))
bounded_is ctx false ts bound t allows =
    let same = counted_is ctx 0 t allows in (λ is. absurd (cc (is)), λ is. sym same)

-- in a subdomain of this kind a timestamp is any, or 0 where it is unordered
pub free_is : (ctx : Ctx) (kind : Kind) (ts t : ℕ) → one_more_child ctx (domain_ts kind ts) ≡ Ok t
    → kind ≡ Unordered → t ≡ 0
free_is ctx Unordered ts t allows is = sym (counted_is ctx 0 t allows)
free_is ctx Ordered ts t allows is = absurd (cc (is))
