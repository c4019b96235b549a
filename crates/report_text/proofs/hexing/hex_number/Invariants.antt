use Rattle.std.proofs.Common.{◌≡◌, ◌<◌, ◌^◌, drop}
use Rattle.report_text.specs.Hex.{hex_number}
use Rattle.report_text.proofs.hexing.hex_number.Given as goal

abbrev pub invariant-loop-digit : goal.invariant-loop-digit
invariant-loop-digit l = record {
  same : hex_number l.read (drop l.digit-index l.digits) ≡ hex_number 0 l.digits;
  small : l.read < 16 ^ l.digit-index;
}
