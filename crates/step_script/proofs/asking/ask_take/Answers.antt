use Rattle.step_script.proofs.Attempts.{take_asks}
use Rattle.step_script.proofs.asking.ask_take.Goals as goal

pub returns-in_ok-hold-in-Some-clause-asks : goal.returns-in_ok-hold-in-Some-clause-asks
returns-in_ok-hold-in-Some-clause-asks g c = λ leg.
    take_asks g.row.N.Denot g.N.Naming.image c.args.tile c.args.core _ c.args.held.now.items c.hold.new.held.items
    c.in-Some.leg
    c.in-Some.ensures.some c.in_ok-hold-in-Some.ensures.ok
