use Rattle.std.proofs.Common.{rules, ap}
use Rattle.std.specs.Ordering.{is_lt}
use Rattle.std.proofs.lemmas.Fn.{always_returns_same}
use Rattle.spec_rollback.proofs.Sorted.{later_first, later_first_ranks, sorted_falls}
use Rattle.spec_rollback.proofs.undoing.sort_latest_first.Goals as goal

pub returns-clause-falls : goal.returns-clause-falls
returns-clause-falls c =
    let tasks = c.args.tasks.now.slots in
    sorted_falls tasks c.sort_unstable_by.new.self
    (c.sort_unstable_by.ensures.sorted (later_first tasks) (later_first_ranks tasks)
    (always_returns_same _ _ _ (λ a r g h. (ap is_lt (search rules), search rules))))
