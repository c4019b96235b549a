use Rattle.std.proofs.Common.{◌≡◌, ◌++◌, take}
use Rattle.std.specs.String.{string_bytes}
use Rattle.watch_text.specs.Fields.{more_items}
use Rattle.watch_counts.specs.Texts.{count_text}
use Rattle.watch_counts.proofs.text.put_more_counts.Given as goal

abbrev pub invariant-loop-count : goal.invariant-loop-count
invariant-loop-count l =
    string_bytes l.line ≡ string_bytes l.initial.line ++ more_items count_text (take l.count-index l.counts)
