use Rattle.std.proofs.Common.{rules}
use Rattle.spec_commit.proofs.Committed.{all_adopted}
use Rattle.spec_commit.proofs.committing.adopt.Goals as goal

pub returns-in-Some-clause-each : goal.returns-in-Some-clause-each
returns-in-Some-clause-each c =
    all_adopted c.args.id c.args.turn c.args.tasks.now.slots c.adopt_noted.new.tasks.slots c.args.children.now c.in-Some.keys.now c.requires.noted
    (search rules) (search rules) c.adopt_noted.ensures.each c.adopt_noted.ensures.noted
