-- What an event did beside its one change.
use Rattle.std.specs.Prelude.{List, [], None}
use Rattle.std.specs.declared.option.Option.{Option}
use Rattle.spec_state.specs.declared.task.TaskId.{TaskId}
use Rattle.spec_state.specs.declared.effect.TakenTask.{TakenTask}
use Rattle.spec_state.specs.declared.effect.SpilledTask.{SpilledTask}

-- the tasks that the event aborted, those that it spilled, and the one that it created
pub record EffectValue : Type 0 where
  pub back : List TakenTask
  pub spilled : List SpilledTask
  pub arrived : Option TaskId

-- it did nothing beside its change
abbrev pub nothing : EffectValue
nothing = record { back = []; spilled = []; arrived = None }
