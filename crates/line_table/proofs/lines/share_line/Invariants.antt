use Rattle.std.proofs.Common.{◌≡◌, ℕ, ◌<◌, true}
use Rattle.line_table.specs.Lines.{bits_touch, bits_write}
use Rattle.line_table.proofs.lines.share_line.Given as goal

abbrev pub invariant-loop-number : goal.invariant-loop-number
invariant-loop-number l =
    (line : ℕ) → line < l.number → bits_write l.earlier line ≡ true → bits_touch l.later line ≡ true → ⊥
