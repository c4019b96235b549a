use Rattle.rv_core.proofs.Unreached.{legs_keep_the_stack}
use Rattle.rv_core.proofs.laws.a_leg_keeps_the_stack_of_version_1.Goals as goal

pub returns : goal.returns
returns c = legs_keep_the_stack
