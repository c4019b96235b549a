use Rattle.std.proofs.Common.{◌≡◌, ◌<◌, ◌-◌, arith, subst, Option, IfSome}
use Rattle.rv_core.specs.declared.state.Stop.{Stop}
use Rattle.rv_core.specs.Next.{Stops}
use Rattle.rv_core.specs.Legs.{next_at}
use Rattle.rv_core.proofs.Runs.{PlainInstructions-append, next_at-other}
use Rattle.rv_core.proofs.decoded.run_decoded.Goals as goal

pub loop-steps-preserved : goal.loop-steps-preserved
loop-steps-preserved g c = record {
  run = PlainInstructions-append _ _ _ _ _ _ _ _ c.loop-steps.invariant.run c.run_some-more.ensures.run;
  bound = omega arith;
  used = omega arith;
}

pub returns-in-Some-clause-leg : goal.returns-in-Some-clause-leg
returns-in-Some-clause-leg g c =
    let Ends : Option Stop → Type 0 = λ o. IfSome o (λ found. (c.run_some-more.result.0 < c.limit_of-limit.result - c.loop-steps.steps)
    × (next_at c.args.image.now c.args.data_size c.args.budget c.run_some-more.new.core ≡ Stops found)) in
    let (early, stands) = subst Ends c.in-Some.is c.run_some-more.ensures.stopped in
    record {
      run = PlainInstructions-append _ _ _ _ _ _ _ _ c.loop-steps.invariant.run c.run_some-more.ensures.run;
      bound = omega arith;
      full = λ e. absurd (omega arith);
      next = λ _. stands;
      other = λ _. next_at-other _ _ _ _ _ stands;
    }
