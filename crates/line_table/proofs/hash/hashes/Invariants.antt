use Rattle.std.proofs.Common.{◌≡◌}
use Rattle.std.specs.Prelude.{bit_xor}
use Rattle.std.specs.List.{fold}
use Rattle.line_table.specs.Hash.{digits_below}
use Rattle.line_table.proofs.hash.hashes.Given as goal

abbrev pub invariant-loop-bit : goal.invariant-loop-bit
invariant-loop-bit l = l.mixed ≡ fold bit_xor 0 (digits_below l.line l.bit)
