-- Where an act may act.
use Rattle.std.specs.Prelude.{ℕ, ◌<◌}
use Rattle.step_script.specs.declared.act.Act.{Act}
use Rattle.step_script.specs.declared.act.Act.TheVariants as acts

-- the tile and the core that an act names are among the machine's
abbrev pub ActIsInRange : ℕ → ℕ → Act → Type 0
ActIsInRange tiles cores (acts.Dispatch tile) = tile < tiles
ActIsInRange tiles cores (acts.Step tile core) = (tile < tiles) × (core < cores)
ActIsInRange tiles cores (acts.Take tile core) = (tile < tiles) × (core < cores)
ActIsInRange tiles cores (acts.Give tile core) = (tile < tiles) × (core < cores)
ActIsInRange tiles cores (acts.Abort tile) = tile < tiles
ActIsInRange tiles cores acts.Commit = Unit {0}
ActIsInRange tiles cores (acts.Coalesce tile) = tile < tiles
ActIsInRange tiles cores (acts.Split tile) = tile < tiles
ActIsInRange tiles cores acts.Advance = Unit {0}
