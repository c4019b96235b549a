-- What undoing all uncommitted tasks leaves.
use Rattle.std.proofs.Common.{ap, ◌∙◌}
use Rattle.memory_law.proofs.Proved.{all_undone_is_serial}
use Rattle.spec_state.specs.Groups.{logged_tasks}
use Rattle.spec_law.specs.Laws.{UndoAllIsSerial}

-- the memory is the serial machine's, since the accesses of all dispatched tasks chain from its memory to the view's;
-- so is the output
pub undo_all_is_serial : UndoAllIsSerial
undo_all_is_serial image old new sound undone = (
  undone.memory.memory_is
      ∙ all_undone_is_serial old.settings.line (logged_tasks old) undone.memory.ids sound.serial.memory old.memory undone.memory.by_key sound.memory.chained,
  ap (λ view. view.output) undone.frame ∙ sound.tasks.output,
)
