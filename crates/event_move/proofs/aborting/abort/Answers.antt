use Rattle.std.proofs.Common.{sym, ◌∙◌}
use Rattle.event_prelude.proofs.Proved.{tests_least}
use Rattle.event_move.proofs.Aborted.{least_stays}
use Rattle.event_move.proofs.aborting.abort.Goals as goal

pub make_abort-requires-clause-other : goal.make_abort-requires-clause-other
make_abort-requires-clause-other g c least =
    let is = tests_least c.args.state.now.view c.in-Some.least c.in-Some.ensures.some.1 c.is_at.result
    c.in-Some-latest.id.0 c.is_at.ensures in
    absurd (cc (sym (is.1 least) ∙ c.if-is_at.false))

pub returns-then-is_at : goal.returns-then-is_at
returns-then-is_at g c =
    let is = tests_least c.args.state.now.view c.in-Some.least c.in-Some.ensures.some.1 c.is_at.result
    c.in-Some-latest.id.0 c.is_at.ensures in
    let latest = c.in-Some-latest.ensures.some in
    least_stays g.row.N.Denot c.args.state.now.view c.in-Some.ensures.some.0 c.args.tile c.in-Some-latest.id.0 latest.0
    c.args.state.now.effect c.requires.fresh latest.1 (is.0 c.if-is_at.true)
