use Rattle.std.proofs.Common.{◌≡◌, ◌≤◌, ◌+◌, length}
use Rattle.text_lines.specs.Lines.{lines_of}
use Rattle.step_script.specs.Grammar.{acts_at, acts_of, onto_acts}
use Rattle.step_script.proofs.reading.read_script.Given as goal

abbrev pub invariant-loop-line : goal.invariant-loop-line
invariant-loop-line l =
    (onto_acts l.acts.items (acts_at l.tiles l.cores l.k (lines_of l.rest)) ≡ acts_of l.text l.tiles l.cores)
    × (l.k + length l.rest ≤ length l.text + 1)

abbrev pub decreases-loop-line : goal.decreases-loop-line
decreases-loop-line l = length l.rest
