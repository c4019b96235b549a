use Rattle.std.proofs.Common.{◌≡◌, ◌++◌, map, take}
use Rattle.resume_image.specs.Joined.{shifted_entry}
use Rattle.resume_image.proofs.joining.join_runs.Given as goal

abbrev pub invariant-loop-entry : goal.invariant-loop-entry
invariant-loop-entry l =
    l.journal.items ≡ l.frozen.closed.journal ++ map (shifted_entry l.turns l.pending) (take l.entry-index l.entries)
