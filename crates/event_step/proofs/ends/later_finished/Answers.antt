use Rattle.std.proofs.Common.{refl}
use Rattle.event_step.proofs.Ending.{none_finished, one_later, none_later}
use Rattle.event_step.proofs.ends.later_finished.Goals as goal

pub returns-in_err-last-clause-none : goal.returns-in_err-last-clause-none
returns-in_err-last-clause-none g c none = none_finished _ c.args.tile _ (c.in_err-last.ensures.none.0 refl)

pub returns-then-is_later-clause-some : goal.returns-then-is_later-clause-some
returns-then-is_later-clause-some g c =
    let found = c.in_ok-last.ensures.some in
    one_later g.N.Naming.image _ c.args.tile c.in_ok-last.last.0 found.0 _ c.is_later.result c.requires.sound
    found.1 c.is_later.ensures c.if-is_later.true

pub returns-else-is_later-clause-none : goal.returns-else-is_later-clause-none
returns-else-is_later-clause-none g c none =
    let found = c.in_ok-last.ensures.some in
    none_later _ c.args.tile c.in_ok-last.last.0 found.0 _ c.is_later.result found.1 c.is_later.ensures
    c.if-is_later.false
