use Rattle.std.proofs.Common.{sym, ap, subst, arith, List, ◌+◌}
use Rattle.serial_machine.specs.BagValue.{BagValue}
use Rattle.serial_machine.specs.Names.{AreNamed}
use Rattle.serial_machine.specs.Stack.{bag_value, bags}
use Rattle.serial_machine.specs.State.{IsStack}
use Rattle.serial_machine.proofs.Naming.{AreNamed-after}
use Rattle.serial_machine.proofs.Turns.{may_turn, older-at, stack-after, turn-taken, IsStack-inner, IsStack-after}
use Rattle.serial_machine.proofs.turning.take_turn.Goals as goal

pub join_all-requires-clause-depth : goal.join_all-requires-clause-depth
join_all-requires-clause-depth c =
    let may = may_turn c.args.stack.now.items _ _ _ _ _ _ _ c.deref.ensures.value c.deref-2.ensures.value c.in-Ok.ensures.ok c.bag_at.ensures in
    let depths = subst IsStack may.top (IsStack-inner _ c.requires.stack) in
    let same = ap (λ x. x.depth) c.context-ctx.ensures in
    omega (arith, same, depths.1)

pub join_all-requires-clause-older : goal.join_all-requires-clause-older
join_all-requires-clause-older c = older-at _ c.args.count (bags c.args.stack.now.items) c.requires.named

pub returns-clause-ok : goal.returns-clause-ok
returns-clause-ok c =
    let may = may_turn c.args.stack.now.items _ _ _ _ _ _ _ c.deref.ensures.value c.deref-2.ensures.value c.in-Ok.ensures.ok c.bag_at.ensures in
    turn-taken c.args.image.now c.args.budget (record { stack = bags c.args.stack.now.items; memory = c.args.memory.now; output = c.args.output.now.items; count = c.args.count }) c.args.name
    (bag_value c.bag_at.result.0.now) (bags c.bag_at.result.1.now) _ c.in-Ok.selected.1 c.context-ctx.result _ _ c.in-Ok-run_done.done.task
    may c.context-ctx.ensures c.in-Ok-run_done.ensures.done
    (stack-after c.args.stack.now.items _ _ _ _ _ _ _ _ _ _ _ c.deref-2.ensures.value c.bag_at.ensures (ap (λ x. x.depth) c.context-ctx.ensures) c.in-Ok-join_all.ensures.stack)
    (ap (λ p. p.task.memory) c.done.view_is)
    c.in-Ok-join_all.ensures.output

pub returns-clause-depths : goal.returns-clause-depths
returns-clause-depths c =
    let may = may_turn c.args.stack.now.items _ _ _ _ _ _ _ c.deref.ensures.value c.deref-2.ensures.value c.in-Ok.ensures.ok c.bag_at.ensures in
    let left = stack-after c.args.stack.now.items _ _ _ _ _ _ _ _ _ _ _ c.deref-2.ensures.value c.bag_at.ensures (ap (λ x. x.depth) c.context-ctx.ensures) c.in-Ok-join_all.ensures.stack in
    let same = ap (λ x. x.depth) c.context-ctx.ensures in
    rw left (IsStack-after _ _ _ _ _ _ _ (subst IsStack may.top (IsStack-inner _ c.requires.stack)) (rw (← same) c.in-Ok-run_done.ensures.sub))

pub returns-clause-names : goal.returns-clause-names
returns-clause-names c =
    let may = may_turn c.args.stack.now.items _ _ _ _ _ _ _ c.deref.ensures.value c.deref-2.ensures.value c.in-Ok.ensures.ok c.bag_at.ensures in
    let left = stack-after c.args.stack.now.items _ _ _ _ _ _ _ _ _ _ _ c.deref-2.ensures.value c.bag_at.ensures (ap (λ x. x.depth) c.context-ctx.ensures) c.in-Ok-join_all.ensures.stack in
    let Named : List BagValue → Type 0 = AreNamed (c.args.count + 1) in
    subst Named (sym left) (AreNamed-after (bags c.args.stack.now.items) _ _ _ _ _ _ _ may.top c.requires.named)
