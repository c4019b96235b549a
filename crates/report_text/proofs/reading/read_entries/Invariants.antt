use Rattle.std.proofs.Common.{◌≡◌, ◌≤◌, ◌+◌, length}
use Rattle.text_lines.specs.Lines.{lines_of}
use Rattle.report_text.specs.Grammar.{onto_journal, entries_at}
use Rattle.report_text.proofs.reading.read_entries.Given as goal

abbrev pub invariant-loop-line : goal.invariant-loop-line
invariant-loop-line l =
    (onto_journal l.journal (entries_at l.n (lines_of l.rest)) ≡ entries_at 1 (lines_of l.text))
    × (l.n + length l.rest ≤ length l.text + 1)

abbrev pub decreases-loop-line : goal.decreases-loop-line
decreases-loop-line l = length l.rest
