use Rattle.std.proofs.Common.{option_map}
use Rattle.spec_state.proofs.Heirs.{firm_seen}
use Rattle.spec_state.proofs.state.State.firm.Goals as goal

pub returns : goal.returns
returns g c =
    firm_seen c.args.self.now.view (option_map (λ id. id.0) c.heir.result) c.args.task.0 c.task.result.now c.is_firm.result c.task.ensures c.heir.ensures c.is_firm.ensures
