use Rattle.std.proofs.Common.{◌≤◌, ◌∙◌, length, arith, ap, refl}
use Rattle.std.proofs.lemmas.List.{take_all}
use Rattle.std.specs.Str.Parse.{digits_value}
use Rattle.text_lines.proofs.Numbers.{short_next}
use Rattle.text_lines.proofs.numerals.short_value.Goals as goal

pub loop-digit-init : goal.loop-digit-init
loop-digit-init c = refl

pub overflow_mul-value : goal.overflow_mul-value
overflow_mul-value c =
    let next = short_next c.args.digits.now c.loop-digit.digit-index c.requires.digits c.requires.short
    c.loop-digit-test.true in
    omega (arith, next.0, next.1, c.loop-digit.invariant)

pub overflow_add-value : goal.overflow_add-value
overflow_add-value c =
    let next = short_next c.args.digits.now c.loop-digit.digit-index c.requires.digits c.requires.short
    c.loop-digit-test.true in
    omega (arith, next.0, next.1, c.loop-digit.invariant, c.from.ensures)

pub loop-digit-preserved : goal.loop-digit-preserved
loop-digit-preserved c =
    let next = short_next c.args.digits.now c.loop-digit.digit-index c.requires.digits c.requires.short
    c.loop-digit-test.true in
    omega (arith, next.0, c.loop-digit.invariant, c.from.ensures)

pub returns : goal.returns
returns c =
    let all : length c.args.digits.now ≤ c.loop-digit.digit-index = omega arith in
    c.loop-digit.invariant ∙ ap (digits_value 10) (take_all c.loop-digit.digit-index c.args.digits.now all)
