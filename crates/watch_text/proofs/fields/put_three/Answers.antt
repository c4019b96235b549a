use Rattle.std.proofs.Common.{arith}
use Rattle.watch_text.proofs.Joined.{digit_behind}
use Rattle.watch_text.proofs.fields.put_three.Goals as goal

pub returns : goal.returns
returns c =
    digit_behind _ _ _ _ _ (omega arith) c.ranges.number.fits c.in_ok-put_two.ensures c.put_digit.ensures
