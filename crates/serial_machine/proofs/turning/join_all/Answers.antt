use Rattle.std.proofs.Common.{◌≡◌, ◌∙◌, sym, ap, subst, List, drop, ◌+◌}
use Rattle.task_desc.specs.declared.desc.Place.TheVariants.{Sub}
use Rattle.serial_machine.specs.Turn.{children, sub_bags}
use Rattle.serial_machine.specs.BagValue.{BagValue}
use Rattle.serial_machine.specs.Stack.{bags, new_bags, stack_behind_turn, AreAllOlder}
use Rattle.serial_machine.proofs.Stacks.{bags-drop}
use Rattle.serial_machine.proofs.turning.join_all.Goals as goal

pub settle-requires-clause-older : goal.settle-requires-clause-older
settle-requires-clause-older c =
    let same = bags-drop c.args.place c.reserve_tasks.new.stack.items
    ∙ ap (drop c.args.place) c.reserve_tasks.ensures.same in
    let AreOlder : List BagValue → Type 0 = AreAllOlder c.args.owner in
    subst AreOlder (sym same) c.requires.older

pub returns-clause-stack : goal.returns-clause-stack
returns-clause-stack c =
    let same = bags-drop c.args.place c.reserve_tasks.new.stack.items
    ∙ ap (drop c.args.place) c.reserve_tasks.ensures.same in
    let done = c.args.done.now.task in
    let rest = drop c.args.place (bags c.args.stack.now.items) in
    let spawns : c.done.inside.spawns.items ≡ done.spawns = ap (λ p. p.task.spawns) c.done.view_is in
    c.settle.ensures
    ∙ ap (stack_behind_turn c.args.entry.name c.args.owner c.deref-3.result.now (new_bags c.in_ok-new.new)) same
    ∙ ap (λ spawns. stack_behind_turn c.args.entry.name c.args.owner spawns (new_bags c.in_ok-new.new) rest) (c.deref-3.ensures.value ∙ spawns)
    ∙ ap (λ new. stack_behind_turn c.args.entry.name c.args.owner done.spawns new rest) (
    c.in_ok-new.ensures
    ∙ ap (λ spawns. sub_bags (c.args.entry.depth + 1) c.args.entry.ts c.args.owner (children Sub c.args.owner spawns) c.done.inside.sub) (c.deref.ensures.value ∙ spawns)
    ∙ ap (sub_bags (c.args.entry.depth + 1) c.args.entry.ts c.args.owner (children Sub c.args.owner done.spawns)) (ap (λ p. p.task.sub) c.done.view_is)
    )
