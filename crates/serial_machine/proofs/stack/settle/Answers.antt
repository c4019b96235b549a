use Rattle.std.proofs.Common.{◌∙◌, sym, ap, subst, arith, length, List}
use Rattle.serial_machine.specs.declared.bag.Bag.{Bag}
use Rattle.serial_machine.specs.BagValue.{BagValue}
use Rattle.serial_machine.specs.Stack.{bags, AreOlder, AreAllOlder, HaveSpare}
use Rattle.serial_machine.proofs.Older.{left-older}
use Rattle.serial_machine.proofs.Stacks.{HaveSpare-drop}
use Rattle.serial_machine.proofs.stack.settle.Goals as goal

pub join-requires-clause-spare : goal.join-requires-clause-spare
join-requires-clause-spare c =
    let HasSpare : List Bag → Type 0 = HaveSpare (length c.args.spawns.now) in
    let spare = subst HasSpare (sym c.drop_first.ensures.dropped ∙ c.take_first-bag.ensures.taken) (HaveSpare-drop (length c.args.spawns.now) c.args.top c.args.stack.now.items c.requires.each) in
    omega (arith, spare.0)

pub join_outside-requires-clause-each : goal.join_outside-requires-clause-each
join_outside-requires-clause-each c =
    let HasSpare : List Bag → Type 0 = HaveSpare (length c.args.spawns.now) in
    let spare = subst HasSpare (sym c.drop_first.ensures.dropped ∙ c.take_first-bag.ensures.taken) (HaveSpare-drop (length c.args.spawns.now) c.args.top c.args.stack.now.items c.requires.each) in
    spare.1

pub join-requires-clause-older : goal.join-requires-clause-older
join-requires-clause-older c =
    let AllOlder : List BagValue → Type 0 = AreAllOlder c.args.owner in
    let older = subst AllOlder (ap bags (sym c.drop_first.ensures.dropped ∙ c.take_first-bag.ensures.taken)) c.requires.older in
    subst (AreOlder c.args.owner) (sym c.remove.ensures.tasks) (left-older c.args.owner c.args.name c.take_first-bag.result.tasks.tasks older.0)
