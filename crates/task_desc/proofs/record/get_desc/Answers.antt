use Rattle.std.proofs.Common.{ap, subst, sym, ◌∙◌}
use Rattle.task_desc.specs.Record.{IsDesc, record_bytes}
use Rattle.task_desc.proofs.RecordBytes.{bytes_back, fields_of-valid}
use Rattle.task_desc.proofs.record.get_desc.Goals as goal

pub returns-then-is_valid-clause-back : goal.returns-then-is_valid-clause-back
returns-then-is_valid-clause-back c =
    ap record_bytes c.fields.ensures
    ∙ bytes_back c.args.bytes.now c.fits-bytes c.told-bytes (sym c.is_valid.ensures.value ∙ c.if-is_valid.true)

pub returns-then-is_valid-clause-valid : goal.returns-then-is_valid-clause-valid
returns-then-is_valid-clause-valid c =
    subst IsDesc (sym c.fields.ensures) (fields_of-valid c.args.bytes.now (sym c.is_valid.ensures.value ∙ c.if-is_valid.true))
