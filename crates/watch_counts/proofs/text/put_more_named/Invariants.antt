use Rattle.std.proofs.Common.{◌≡◌, ◌++◌, map, take}
use Rattle.std.specs.String.{string_bytes}
use Rattle.watch_text.specs.Fields.{more_items}
use Rattle.watch_counts.specs.Texts.{named_of, named_text}
use Rattle.watch_counts.proofs.text.put_more_named.Given as goal

abbrev pub invariant-loop-named : goal.invariant-loop-named
invariant-loop-named l =
    string_bytes l.line
    ≡ string_bytes l.initial.line ++ more_items named_text (map named_of (take l.named-index l.group))
