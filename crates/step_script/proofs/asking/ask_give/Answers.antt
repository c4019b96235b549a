use Rattle.std.proofs.Common.{rules, refl}
use Rattle.step_script.proofs.Attempts.{give_asks, give_asks_none}
use Rattle.step_script.proofs.asking.ask_give.Goals as goal

pub returns-in-Some-clause-asks : goal.returns-in-Some-clause-asks
returns-in-Some-clause-asks g c =
    give_asks g.row.N.Denot c.args.tile c.args.core _ c.args.held.now.items c.hand_out.new.held.items c.in-Some.found
    c.in-Some.found (search rules) (search rules) refl c.hand_out.ensures.rest

pub returns-in-None-clause-asks : goal.returns-in-None-clause-asks
returns-in-None-clause-asks g c =
    give_asks_none g.row.N.Denot c.args.tile c.args.core _ c.args.held.now.items c.hand_out.new.held.items
    (search rules) (search rules) c.hand_out.ensures.rest
