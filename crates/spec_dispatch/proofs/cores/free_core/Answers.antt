use Rattle.std.proofs.Common.{arith, refl, None}
use Rattle.std.proofs.lemmas.Option.{slice_get_within}
use Rattle.spec_state.specs.View.{cores_at}
use Rattle.spec_dispatch.proofs.cores.free_core.Goals as goal

pub returns-clause-none : goal.returns-clause-none
returns-clause-none g c = (
  λ is core free.
      (let low = slice_get_within (cores_at c.args.state.now.view c.args.tile) core None free in
      c.loop-core.invariant core (omega (arith, low, c.core_count-core-end.ensures.all, c.loop-core-test.false)) free),
  λ all. refl,
)
