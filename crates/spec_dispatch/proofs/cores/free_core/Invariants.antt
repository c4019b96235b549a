use Rattle.std.proofs.Common.{◌<◌, ℕ}
use Rattle.spec_state.specs.Queries.{IsFreeCore}
use Rattle.spec_dispatch.proofs.cores.free_core.Given as goal

abbrev pub invariant-loop-core : goal.invariant-loop-core
invariant-loop-core g l = (other : ℕ) → other < l.core → IsFreeCore l.state.view l.tile other → ⊥
