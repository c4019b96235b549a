use Rattle.std.proofs.Common.{◌∙◌, ap, arith, get_or, add-one}
use Rattle.serial_machine.proofs.Stacks.{bags-set, HaveSpare-set}
use Rattle.serial_machine.proofs.stack.widen.Goals as goal

pub returns-in_err-reserve-clause-same : goal.returns-in_err-reserve-clause-same
returns-in_err-reserve-clause-same c =
    let old = get_or c.loop-bag.stack c.loop-bag.bag-index c.bag-item.result in
    bags-set c.loop-bag.stack c.loop-bag.bag-index (record old { tasks = c.reserve.new.self }) c.bag-item.result (omega arith)
    (ap (λ items. record { depth = old.depth; kind = old.kind; floor = old.floor; owner = old.owner; tasks = items }) c.reserve.ensures.tasks)
    ∙ c.loop-bag.invariant.same

pub loop-bag-preserved : goal.loop-bag-preserved
loop-bag-preserved c =
    let old = get_or c.loop-bag.stack c.loop-bag.bag-index c.bag-item.result in
    record {
      same =
          bags-set c.loop-bag.stack c.loop-bag.bag-index (record old { tasks = c.reserve.new.self }) c.bag-item.result (omega arith)
          (ap (λ items. record { depth = old.depth; kind = old.kind; floor = old.floor; owner = old.owner; tasks = items }) c.reserve.ensures.tasks)
          ∙ c.loop-bag.invariant.same;
      each =
          rw add-one (HaveSpare-set c.args.more c.loop-bag.stack c.loop-bag.bag-index (record old { tasks = c.reserve.new.self }) (omega arith) c.in_ok-reserve.ensures.spare c.loop-bag.invariant.each);
    }
