use Rattle.std.proofs.Common.{rules}
use Rattle.step_script.proofs.Ranges.{acts_within}
use Rattle.step_script.proofs.reading.read_script.Goals as goal

pub returns-clause-within : goal.returns-clause-within
returns-clause-within c = acts_within c.args.text.now c.args.tiles c.args.cores c.loop-line.acts.items (search rules)
