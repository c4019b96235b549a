use Rattle.std.proofs.Common.{◌≡◌, ◌≤◌, ◌+◌, length}
use Rattle.text_lines.specs.Lines.{lines_of}
use Rattle.report_text.specs.Grammar.{onto_window, window_at}
use Rattle.report_text.proofs.reading.read_window.Given as goal

abbrev pub invariant-loop-line : goal.invariant-loop-line
invariant-loop-line l =
    (onto_window l.window (window_at l.k (lines_of l.rest)) ≡ window_at l.from (lines_of l.text))
    × (l.k + length l.rest ≤ l.from + length l.text)

abbrev pub decreases-loop-line : goal.decreases-loop-line
decreases-loop-line l = length l.rest
