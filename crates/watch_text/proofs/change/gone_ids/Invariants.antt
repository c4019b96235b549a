use Rattle.std.proofs.Common.{◌≡◌, take}
use Rattle.watch_text.specs.Changes.{gone_ids}
use Rattle.watch_text.proofs.change.gone_ids.Given as goal

abbrev pub invariant-loop-task : goal.invariant-loop-task
invariant-loop-task l = l.ids.items ≡ gone_ids (take l.task-index l.back)
