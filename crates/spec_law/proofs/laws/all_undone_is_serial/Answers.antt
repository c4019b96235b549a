use Rattle.std.proofs.Common.{◌∙◌}
use Rattle.memory_law.proofs.Proved.{all_undone_is_serial}
use Rattle.spec_state.specs.Groups.{logged_tasks}
use Rattle.spec_law.proofs.laws.all_undone_is_serial.Goals as goal

-- the memory of the view chains back to the serial machine's
pub returns : goal.returns
returns c = λ image view sound memory undone.
    undone.memory_is
    ∙ all_undone_is_serial view.settings.line (logged_tasks view) undone.ids sound.serial.memory view.memory undone.by_key sound.memory.chained
