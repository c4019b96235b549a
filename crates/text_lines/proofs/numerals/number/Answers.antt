use Rattle.std.proofs.Common.{rules, true, ◌≡◌, ◌∙◌}
use Rattle.text_lines.specs.Numerals.{is_plain}
use Rattle.text_lines.proofs.Numbers.{number_short, parsed_number, plain_is_text}
use Rattle.text_lines.proofs.numerals.number.Goals as goal

pub returns-then-digits-lt10 : goal.returns-then-digits-lt10
returns-then-digits-lt10 c =
    let plain : is_plain c.args.digits.now ≡ true = search rules in
    search (rules, number_short c.args.digits.now plain)

pub returns-in-Ok : goal.returns-in-Ok
returns-in-Ok c =
    let plain : is_plain c.args.digits.now ≡ true = search rules in
    c.ok.ensures.value
    ∙ parsed_number c.args.digits.now c.parse.result plain (rw (← c.in-Ok.ensures.cases.0) c.parse.ensures.value.0)

pub returns-in-Err : goal.returns-in-Err
returns-in-Err c =
    let plain : is_plain c.args.digits.now ≡ true = search rules in
    absurd (c.in-Err.ensures.cases.0 (plain_is_text c.args.digits.now plain))
