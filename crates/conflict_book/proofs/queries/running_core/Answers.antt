use Rattle.std.proofs.Common.{refl, rules}
use Rattle.conflict_book.proofs.Cores.{held_is_there, held_runs}
use Rattle.event_step.proofs.Below.event_law.Proved.{running_within}
use Rattle.conflict_book.proofs.queries.running_core.Goals as goal

pub task-task-requires : goal.task-task-requires
task-task-requires g c =
    record {
      live = held_is_there g.N.Naming.image.data_size c.args.state.now.view c.is_stored.ensures c.args.tile c.args.core c.in_ok-id.id.0 (search rules);
    }

pub returns-in-Running-clause-some : goal.returns-in-Running-clause-some
returns-in-Running-clause-some g c = (
  c.in_ok-id.id.0,
  c.task-task.result.now,
  held_runs g.N.Naming.image.data_size c.args.state.now.view c.is_stored.ensures c.args.tile c.args.core c.in_ok-id.id.0 (search rules)
      c.task-task.result.now c.in-Running.core c.task-task.ensures c.in-Running.is,
  refl,
)

pub returns-in-Running-clause-none : goal.returns-in-Running-clause-none
returns-in-Running-clause-none g c = (
  λ no. absurd (cc no),
  λ none. absurd (none c.in_ok-id.id.0 c.task-task.result.now
      (held_runs g.N.Naming.image.data_size c.args.state.now.view c.is_stored.ensures c.args.tile c.args.core c.in_ok-id.id.0 (search rules)
      c.task-task.result.now c.in-Running.core c.task-task.ensures c.in-Running.is)),
)

pub returns-in-Running-clause-within : goal.returns-in-Running-clause-within
returns-in-Running-clause-within g c =
    running_within g.N.Naming.image c.args.state.now.view c.requires.sound c.in_ok-id.id.0 c.in-Running.core c.task-task.result.now
    c.task-task.ensures c.in-Running.is
