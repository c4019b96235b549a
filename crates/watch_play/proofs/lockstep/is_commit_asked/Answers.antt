use Rattle.watch_counts.specs.spec_state.declared.task.Where.TheVariants as where_
use Rattle.watch_play.proofs.Chosen.{commit_asked, no_commit_asked}
use Rattle.watch_play.proofs.lockstep.is_commit_asked.Goals as goal

pub returns-in-Finished : goal.returns-in-Finished
returns-in-Finished c view is = commit_asked view c.args.least c.in-Finished.field-0 is c.in-Finished.is

pub returns-in-Idle : goal.returns-in-Idle
returns-in-Idle c view is =
    no_commit_asked view c.args.least (where_.Idle c.in-Idle.field-0) is c.in-Idle.is tt

pub returns-in-Running : goal.returns-in-Running
returns-in-Running c view is =
    no_commit_asked view c.args.least (where_.Running c.in-Running.field-0) is c.in-Running.is tt

pub returns-in-Trapped : goal.returns-in-Trapped
returns-in-Trapped c view is =
    no_commit_asked view c.args.least (where_.Trapped c.in-Trapped.field-0) is c.in-Trapped.is tt

pub returns-in-Spilled : goal.returns-in-Spilled
returns-in-Spilled c view is =
    no_commit_asked view c.args.least (where_.Spilled c.in-Spilled.field-0) is c.in-Spilled.is tt
