use Rattle.std.proofs.Common.{◌≡◌, refl, ap, ◌∙◌, subst}
use Rattle.serial_machine.specs.State.{SerialValue}
use Rattle.serial_machine.specs.Names.{AreNamed, next_in}
use Rattle.serial_machine.specs.Stack.{bags}
use Rattle.serial_machine.specs.Turn.{inner}
use Rattle.serial_machine.proofs.Naming.{next-may}
use Rattle.serial_machine.proofs.serial.Serial.next.Goals as goal

pub returns-clause-may : goal.returns-clause-may
returns-clause-may c =
    let Named : SerialValue → Type 0 = λ k. AreNamed k.state.count k.state.stack in
    let same : c.next_of.result ≡ next_in (inner c.args.self.now.state.stack) =
    c.next_of.ensures ∙ ap (λ s. next_in (inner (bags s))) c.deref.ensures.value
    ∙ ap (λ k. next_in (inner k.state.stack)) c.self.view_is
    in
    rw same (next-may c.args.self.now.state.count c.args.self.now.state.stack (subst Named c.self.view_is c.self.invariant.1) _ refl)
