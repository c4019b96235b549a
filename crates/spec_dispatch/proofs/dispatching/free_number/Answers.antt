use Rattle.std.proofs.Common.{ap, arith}
use Rattle.spec_state.specs.Numbers.{has_free, renumbers}
use Rattle.spec_state.specs.StateValue.{StateValue}
use Rattle.spec_dispatch.proofs.dispatching.free_number.Goals as goal

pub renumber-requires : goal.renumber-requires
renumber-requires g c =
    let same = ap (λ (v : StateValue). v.view.next) c.state.view_is in
    record { held = c.requires.held (omega (arith, same, c.if-state-ge-DISPATCH_NUMBERS.true)) }

pub returns-then-state-ge-DISPATCH_NUMBERS-clause-frees : goal.returns-then-state-ge-DISPATCH_NUMBERS-clause-frees
returns-then-state-ge-DISPATCH_NUMBERS-clause-frees g c =
    let same = ap (λ (v : StateValue). v.view.next) c.state.view_is in
    renumbers c.renumber.new.state.view (omega (arith, same, c.if-state-ge-DISPATCH_NUMBERS.true)) c.renumber.ensures.renumbers

pub returns-else-state-ge-DISPATCH_NUMBERS-clause-frees : goal.returns-else-state-ge-DISPATCH_NUMBERS-clause-frees
returns-else-state-ge-DISPATCH_NUMBERS-clause-frees g c =
    let same = ap (λ (v : StateValue). v.view.next) c.state.view_is in
    has_free (omega (arith, same, c.if-state-ge-DISPATCH_NUMBERS.false))
