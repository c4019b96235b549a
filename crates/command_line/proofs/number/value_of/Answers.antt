use Rattle.std.proofs.Common.{◌≡◌, true, arith}
use Rattle.std.specs.List.{list_all}
use Rattle.std.specs.Char.{is_ascii_digit}
use Rattle.std.proofs.lemmas.Grind.{common_steps}
use Rattle.command_line.proofs.Digits.{digit_more}
use Rattle.command_line.proofs.number.value_of.Goals as goal

pub loop-digit-preserved : goal.loop-digit-preserved
loop-digit-preserved c =
    let digits : list_all is_ascii_digit c.args.digits.now ≡ true = grind (arith, common_steps, c.requires) in
    let more = digit_more c.args.digits.now c.loop-digit.digit-index c.loop-digit.value digits c.loop-digit-test.true c.loop-digit.invariant.value c.loop-digit.invariant.small in
    rw c.from.ensures (record { value = more.0; small = more.1 })
