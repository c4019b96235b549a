use Rattle.std.proofs.Common.{take, option_map}
use Rattle.spec_state.proofs.Idles.{NoneSeen}
use Rattle.spec_state.proofs.state.State.has_firm.Given as goal

abbrev pub invariant-loop-id : goal.invariant-loop-id
invariant-loop-id g l = NoneSeen l.self.view (option_map (λ id. id.0) l.heir) (take l.id-index l.ids)
