use Rattle.std.proofs.Common.{◌≡◌, ◌+◌, refl, sym, subst, inr, rules, length, None}
use Rattle.run_law.specs.serial_machine.Run.{IsEnd}
use Rattle.report_text.specs.Check.{IsExamined, IsWrongEnd, IsReplayed}
use Rattle.report_text.specs.Report.{window_of}
use Rattle.report_text.proofs.Written.{length_window}
use Rattle.report_text.proofs.checking.examine.Goals as goal

pub returns-in-Some-false : goal.returns-in-Some-false
returns-in-Some-false c =
    let report = c.args.report.now in
    let image = c.args.image.now in
    let state = c.in-Ok.serial.state in
    let run : IsReplayed image c.args.commits c.args.budget report.journal state = search rules in
    let output : report.output ≡ state.output = search rules in
    let window : report.window ≡ window_of image state.memory = search rules in
    let words : image.window_words ≡ length report.window = length_window image state.memory report.window window in
    let told : length c.as_slice-journal.result.now + 3 + c.window_len.result ≡ length report.journal + 3 + length report.window = search (rules, words) in
    let other : IsEnd image c.args.budget c.args.commits report.journal state report.end → ⊥ = search rules in
    let wrong : IsWrongEnd image c.args.commits c.args.budget report (length c.as_slice-journal.result.now + 3 + c.window_len.result) None =
    record { told = told; no_refusal = refl; state = state; run = run; output = output; window = window; other = other } in
    subst (IsExamined image c.args.commits c.args.budget report) (sym c.illegal-in-Some-false.ensures) (inr (inr (inr wrong)))

pub returns-in-Some-true : goal.returns-in-Some-true
returns-in-Some-true c =
    let report = c.args.report.now in
    let image = c.args.image.now in
    let state = c.in-Ok.serial.state in
    let run : IsReplayed image c.args.commits c.args.budget report.journal state = search rules in
    let output : report.output ≡ state.output = search rules in
    let window : report.window ≡ window_of image state.memory = search rules in
    let count : length c.as_slice-journal.result.now ≡ length report.journal = search rules in
    let end : IsEnd image c.args.budget c.args.commits report.journal state report.end = search rules in
    let same : c.ends.new.serial.state ≡ state = search rules in
    (record { state = state; run = run; output = output; window = window; end = end }, same)
