use Rattle.std.proofs.Common.{◌≡◌, ◌++◌, take}
use Rattle.std.specs.String.{string_bytes}
use Rattle.watch_text.specs.Fields.{more_items}
use Rattle.watch_text.proofs.items.put_more.Given as goal

abbrev pub invariant-loop-item : goal.invariant-loop-item
invariant-loop-item g l =
    string_bytes l.line ≡ string_bytes l.initial.line ++ more_items g.T.ListItem.text (take l.item-index l.items)
