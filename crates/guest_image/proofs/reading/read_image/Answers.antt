use Rattle.guest_image.proofs.Faults.{gives_fault}
use Rattle.guest_image.proofs.reading.read_image.Goals as goal

pub returns-in_err-check_header : goal.returns-in_err-check_header
returns-in_err-check_header c =
    gives_fault c.args.bytes.now c.from_residual.result c.in_err-check_header.field-0.0 c.from_residual.ensures.1 c.if-bytes-lt-HEADER.false c.in_err-check_header.ensures.fault c.in_err-check_header.ensures.own
