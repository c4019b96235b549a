use Rattle.std.proofs.Common.{◌≡◌, length, option_map, ◌++◌}
use Rattle.report_text.specs.Hex.{hex_bytes}
use Rattle.report_text.proofs.hexing.hex_bytes.Given as goal

abbrev pub invariant-pairs : goal.invariant-pairs
invariant-pairs l = option_map (λ r. l.found.items ++ r) (hex_bytes l.rest) ≡ hex_bytes l.digits

abbrev pub decreases-pairs : goal.decreases-pairs
decreases-pairs l = length l.rest
