use Rattle.std.proofs.Common.{◌∙◌, sym, ap, subst, List}
use Rattle.serial_machine.specs.declared.bag.Bag.{Bag}
use Rattle.serial_machine.specs.Turn.{is_pending}
use Rattle.serial_machine.specs.Stack.{bags, IsSelectedFrom}
use Rattle.serial_machine.proofs.Turns.{is_pending-inner}
use Rattle.serial_machine.proofs.turning.select.Goals as goal

pub returns-in_default-clause-refused : goal.returns-in_default-clause-refused
returns-in_default-clause-refused c =
    sym (is_pending-inner c.args.name (bags c.args.stack.now)) ∙ ap (is_pending c.args.name) c.in_default.ensures

pub returns-clause-ok : goal.returns-clause-ok
returns-clause-ok c =
    let From : List Bag → Type 0 = IsSelectedFrom (bags c.args.stack.now) c.args.name c.in-Some-find.task in
    record {
      within = c.in-Some.ensures.0;
      may = subst From (sym c.bag_at.ensures) (record {
        top = c.in-Some.ensures.1 ∙ ap bags c.bag_at.ensures;
        found = sym c.find.ensures ∙ c.in-Some-find.is;
        least = c.in_default-smaller.ensures.none;
      });
    }
