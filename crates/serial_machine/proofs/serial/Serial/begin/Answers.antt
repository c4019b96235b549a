use Rattle.std.proofs.Common.{sym, ap, subst, rules, List, ℕ, length, replicate, ◌-◌, arith, length-append}
use Rattle.std.proofs.lemmas.List.{length-replicate}
use Rattle.serial_machine.specs.declared.bag.Bag.{Bag}
use Rattle.serial_machine.specs.Names.{AreNamed}
use Rattle.serial_machine.specs.Stack.{bags}
use Rattle.serial_machine.proofs.Naming.{AreNamed-opening}
use Rattle.serial_machine.proofs.serial.Serial.begin.Goals as goal

pub invariant_of-result : goal.invariant_of-result
invariant_of-result c =
    let Named : List Bag → Type 0 = λ s. AreNamed 0 (bags s) in
    let initial = c.initial.result.now in
    let zeros : List ℕ = replicate (c.data_size.result - length initial) 0 in (
      search rules,
      subst Named (sym c.in_ok-push.ensures.items) (rw c.new-stack.ensures.items (AreNamed-opening c.kind.result c.tasks.result.now _ c.in_ok-tasks.ensures)),
      omega (arith, ap length c.in_ok-memory.ensures, length-append initial zeros, length-replicate {A = ℕ} (c.data_size.result - length initial) 0, ap length c.initial.ensures.value, c.initial.ensures.limits.initial, c.initial.ensures.limits.data_size, c.data_size.ensures),
    )
