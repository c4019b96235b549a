use Rattle.std.proofs.Common.{rules, ◌<◌}
use Rattle.report_text.proofs.HexValues.{bounded}
use Rattle.report_text.proofs.hexing.hex_number.Goals as goal

pub overflow_add-read : goal.overflow_add-read
overflow_add-read c =
    let at : c.loop-digit.digit-index < 8 = search rules in
    let x : c.from.result < 16 = search rules in
    let small = bounded c.loop-digit.read c.loop-digit.digit-index c.from.result c.loop-digit.invariant.small at x in
    search (rules, small)
