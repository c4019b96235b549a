use Rattle.std.proofs.Common.{◌≡◌, ◌++◌, take}
use Rattle.std.specs.List.{flat_map}
use Rattle.std.specs.String.{string_bytes}
use Rattle.script_text.specs.report_text.Hex.{byte_hex}
use Rattle.watch_text.proofs.fields.put_hex.Given as goal

abbrev pub invariant-loop-byte : goal.invariant-loop-byte
invariant-loop-byte l =
    string_bytes l.line ≡ string_bytes l.initial.line ++ flat_map byte_hex (take l.byte-index l.bytes)
