use Rattle.std.proofs.Common.{rules, ◌+◌, ◌∙◌, ℕ, ap, cond, get_or, nat_le, sym}
use Rattle.std.proofs.lemmas.List.Sums.{sum_by_more}
use Rattle.watch_counts.specs.declared.done.TheConstants.{POWERS}
use Rattle.watch_counts.proofs.Sums.{few_more}
use Rattle.watch_counts.proofs.done.length_place.Goals as goal

pub loop-place-preserved : goal.loop-place-preserved
loop-place-preserved c =
    let place = c.loop-place.place in
    let before = c.loop-place.invariant in
    let more = sum_by_more (λ (power : ℕ). cond (nat_le power c.args.used) 1 0) POWERS place 0 (search rules) in (
      c.one_if-found.ensures
          ∙ ap (λ (n : ℕ). n + cond (nat_le (get_or POWERS place 0) c.args.used) 1 0) before.0 ∙ sym more,
      few_more (nat_le (get_or POWERS place 0) c.args.used) _ _ place c.one_if-found.ensures before.1,
    )
