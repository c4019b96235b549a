use Rattle.std.proofs.Common.{rules, ◌≡◌, Some, sym, ◌∙◌, arith}
use Rattle.serial_machine.specs.Names.{first_least}
use Rattle.serial_machine.proofs.Naming.{first-none, first-above, first-stands}
use Rattle.serial_machine.proofs.stack.smaller.Goals as goal

pub returns-in_default-clause-none : goal.returns-in_default-clause-none
returns-in_default-clause-none c =
    first-none c.args.ts c.args.tasks.now.tasks (sym c.first_least.ensures ∙ c.in_default.is)

pub returns-then-least-ts-clause-some : goal.returns-then-least-ts-clause-some
returns-then-least-ts-clause-some c =
    let found : first_least c.args.tasks.now.tasks ≡ Some c.in-Some.least = search rules in
    (omega arith, first-stands c.args.tasks.now.tasks c.in-Some.least found)

pub returns-clause-none : goal.returns-clause-none
returns-clause-none c =
    let found : first_least c.args.tasks.now.tasks ≡ Some c.in-Some.least = search rules in
    first-above c.args.ts c.args.tasks.now.tasks c.in-Some.least found (omega arith)
