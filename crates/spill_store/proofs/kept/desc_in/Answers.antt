use Rattle.std.proofs.Common.{sym, ◌∙◌}
use Rattle.task_desc.proofs.Proved.{desc_of-some, desc_of-valid}
use Rattle.spill_store.proofs.kept.desc_in.Goals as goal

pub unreachable-requires : goal.unreachable-requires
unreachable-requires c =
    let none = sym c.in-None.is ∙ c.get_desc.ensures.value ∙ desc_of-valid c.args.bytes.now c.requires in
    cc (none)

pub returns : goal.returns
returns c = sym (desc_of-some c.args.bytes.now c.in-Some.desc (sym c.get_desc.ensures.value ∙ c.in-Some.is)).1
