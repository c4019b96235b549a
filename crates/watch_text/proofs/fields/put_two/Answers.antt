use Rattle.watch_text.proofs.Joined.{digit_behind}
use Rattle.watch_text.proofs.fields.put_two.Goals as goal

pub returns : goal.returns
returns c =
    digit_behind _ _ _ _ _ c.requires.0 c.ranges.number.fits c.in_ok-put_digit.ensures c.put_digit-2.ensures
