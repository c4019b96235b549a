use Rattle.step_script.specs.declared.act.Act.TheVariants as acts
use Rattle.step_script.proofs.Attempts.{asks_by, runs_out, takes_by}
use Rattle.step_script.proofs.player.Player.ask.Goals as goal

pub returns-in-Step-clause-asks : goal.returns-in-Step-clause-asks
returns-in-Step-clause-asks g c =
    asks_by g.row.N.Denot g.N.Naming.image c.args.act (acts.Step c.in-Step.tile c.in-Step.core) c.in-Step.is _ _
    c.self.view_is _ _ c.self.inside.held.items (c.ask_step.ensures.asks c.self.inside.held.items)

pub returns-in-Take-clause-asks : goal.returns-in-Take-clause-asks
returns-in-Take-clause-asks g c =
    takes_by c.args.act c.in-Take.tile c.in-Take.core c.in-Take.is _ _ c.self.view_is c.ask_take.new.held.items
    c.ask_take.result g.row.N.Denot g.N.Naming.image _ c.ask_take.ensures.asks

pub returns-in-Take-clause-out_of_memory : goal.returns-in-Take-clause-out_of_memory
returns-in-Take-clause-out_of_memory g c =
    runs_out c.args.act c.in-Take.tile c.in-Take.core c.in-Take.is _ _ c.self.view_is c.ask_take.new.held.items
    c.ask_take.result c.ask_take.ensures.out_of_memory

pub returns-in-Give-clause-asks : goal.returns-in-Give-clause-asks
returns-in-Give-clause-asks g c =
    asks_by g.row.N.Denot g.N.Naming.image c.args.act (acts.Give c.in-Give.tile c.in-Give.core) c.in-Give.is _ _
    c.self.view_is _ _ c.ask_give.new.held.items c.ask_give.ensures.asks

pub returns-in-Advance-clause-asks : goal.returns-in-Advance-clause-asks
returns-in-Advance-clause-asks g c =
    asks_by g.row.N.Denot g.N.Naming.image c.args.act acts.Advance c.in-Advance.is _ _ c.self.view_is _ _
    c.self.inside.held.items (c.ask_advance.ensures.asks c.self.inside.held.items)
