use Rattle.std.proofs.Common.{rules}
use Rattle.fractal_vt.specs.Keys.{key_cmp}
use Rattle.spec_state.proofs.Picks.{first_none, second_none, first_picked, second_picked, less_upto, by_key}
use Rattle.spec_state.proofs.state.State.earlier.Goals as goal
use Rattle.spec_state.proofs.Leasts.{upto_turned}

pub returns-in-None-default : goal.returns-in-None-default
returns-in-None-default g c =
    first_none key_cmp by_key c.args.self.now.view c.args.one c.args.two c.in-None-default.is-0 c.requires.two

pub returns-in_default-None : goal.returns-in_default-None
returns-in_default-None g c =
    second_none key_cmp by_key c.args.self.now.view c.args.one c.args.two c.in_default-None.is-1 c.requires.one

pub returns-then-is_lt : goal.returns-then-is_lt
returns-then-is_lt g c =
    second_picked key_cmp by_key c.args.self.now.view c.args.one c.args.two c.in-Some-Some.first
    c.in-Some-Some.second c.task-in-Some-Some.result.now c.task.result.now c.in-Some-Some.is-0 c.in-Some-Some.is-1
    c.task-in-Some-Some.ensures c.task.ensures
    (less_upto c.task.result.now.key c.task-in-Some-Some.result.now.key (search rules))

pub returns-else-is_lt : goal.returns-else-is_lt
returns-else-is_lt g c =
    first_picked key_cmp by_key c.args.self.now.view c.args.one c.args.two c.in-Some-Some.first c.in-Some-Some.second
    c.task-in-Some-Some.result.now c.task.result.now c.in-Some-Some.is-0 c.in-Some-Some.is-1
    c.task-in-Some-Some.ensures c.task.ensures
    (upto_turned c.task.result.now.key c.task-in-Some-Some.result.now.key (search rules))
