use Rattle.std.proofs.Common.{rules}
use Rattle.std.proofs.lemmas.List.Sorted.{IsPartitionPoint-from_clause}
use Rattle.pending_list.specs.Pending.{name_before}
use Rattle.pending_list.proofs.Indexes.{parted, first_not_before}
use Rattle.pending_list.proofs.slot.first_not_before.Goals as goal

pub returns : goal.returns
returns c =
    let slots = c.args.slots.now in
    let name = c.args.name in
    first_not_before name slots c.partition_point.result (search rules)
    (IsPartitionPoint-from_clause (λ s. name_before s.task.name name) slots _ c.partition_point.ensures.partitioned
    (parted name slots c.requires) (λ a r q k. search rules))
