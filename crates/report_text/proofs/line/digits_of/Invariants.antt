use Rattle.std.proofs.Common.{◌≡◌, ◌*◌, take}
use Rattle.std.specs.List.{flat_map}
use Rattle.arrayvec.specs.ArrayVec.{array_vec_len}
use Rattle.report_text.specs.Hex.{byte_hex}
use Rattle.report_text.proofs.line.digits_of.Given as goal

abbrev pub invariant-loop-byte : goal.invariant-loop-byte
invariant-loop-byte l = record {
  items : l.digits.items ≡ flat_map byte_hex (take l.byte-index l.bytes);
  len : array_vec_len l.digits ≡ 2 * l.byte-index;
}
