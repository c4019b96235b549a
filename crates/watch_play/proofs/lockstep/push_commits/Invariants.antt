use Rattle.std.proofs.Common.{◌≡◌, ◌++◌, replicate}
use Rattle.watch_counts.specs.step_script.declared.act.Act.TheVariants.{Commit}
use Rattle.watch_play.proofs.lockstep.push_commits.Given as goal

abbrev pub invariant-loop-tile : goal.invariant-loop-tile
invariant-loop-tile l = l.acts.items ≡ l.fn.acts.items ++ replicate l._tile Commit
