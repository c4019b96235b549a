use Rattle.std.proofs.Common.{arith}
use Rattle.abort_cascade.proofs.Proved.{listed_below}
use Rattle.spec_rollback.proofs.Seen.{finds_new}
use Rattle.spec_rollback.proofs.marking.add.Goals as goal

pub bounds-members-found : goal.bounds-members-found
bounds-members-found c =
    let less = listed_below c.args.marks.now c.args.members.now c.args.found c.args.id
    (c.requires.listed (omega arith)) c.requires.within c.if-marks-id.false in
    omega (arith, less, c.requires.members)

pub returns : goal.returns
returns c = finds_new c.args.id c.args.found c.args.marks.now c.args.members.now (omega arith) c.requires.within
    c.requires.members c.if-marks-id.false c.requires.listed
