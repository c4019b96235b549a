-- The serial machine's opening, its runs and their ends.
use Rattle.std.specs.Prelude.{◌≡◌, ◌<◌, ◌≢◌, ℕ, ◌-◌, List, [], ◌∷◌, ◌++◌, length, map, replicate, Some}
use Rattle.std.specs.List.{enumerate_from}
use Rattle.guest_image.specs.declared.image.Kind.{Kind}
use Rattle.guest_image.specs.declared.image.ImageTask.{ImageTask}
use Rattle.guest_image.specs.ImageValue.{ImageValue}
use Rattle.task_desc.specs.Calls.{domain_ts}
use Rattle.pending_list.specs.declared.task.PendingTask.{PendingTask}
use Rattle.run_journal.specs.declared.journal.Entry.{Entry}
use Rattle.run_journal.specs.declared.end.End.{End}
use Rattle.run_journal.specs.declared.end.End.TheVariants as ends
use Rattle.serial_machine.specs.State.{SerialState}
use Rattle.serial_machine.specs.Turn.{turn, inner, TrapsSo}

-- the image's task at a place, pending in the root domain
abbrev pub image_task : Kind → ℕ × ImageTask → PendingTask
image_task kind e = record {
  name = record { creator = 0; index = e.0 };
  entry = e.1.entry;
  ts = domain_ts kind e.1.ts;
  args = e.1.args;
}

-- the initial data, then zeros
abbrev pub opening_memory : ImageValue → List ℕ
opening_memory image = image.initial ++ replicate (image.data_size - length image.initial) 0

-- the state before the first turn: the image's tasks pend in the root domain
abbrev pub opening : ImageValue → SerialState
opening image = record {
  stack = record {
    depth = 1;
    kind = image.kind;
    floor = 0;
    owner = 0;
    tasks = map (image_task image.kind) (enumerate_from 0 image.tasks);
  } ∷ [];
  memory = opening_memory image;
  output = [];
  count = 0;
}

-- the turns of these entries lead from one state to another, each with the entry's depth and timestamp
abbrev pub Runs : ImageValue → ℕ → SerialState → List Entry → SerialState → Type 0
Runs image budget s [] after = s ≡ after
Runs image budget s (e ∷ es) after =
    (mid : SerialState) × (turn image budget s e.name ≡ Some (mid, e)) × Runs image budget mid es after

-- a journal is a run of the image: its turns lead from the opening to this state
abbrev pub IsRun : ImageValue → ℕ → List Entry → SerialState → Type 0
IsRun image budget journal after = Runs image budget (opening image) journal after

-- a run of at most `commits` turns that led to this state ends so
abbrev pub IsEnd : ImageValue → ℕ → ℕ → List Entry → SerialState → End → Type 0
IsEnd image budget commits journal s ends.Normal = inner s.stack ≡ []
IsEnd image budget commits journal s ends.Limit = (inner s.stack ≢ []) × (length journal ≡ commits)
IsEnd image budget commits journal s (ends.Trap name cause pc) =
    (length journal < commits) × TrapsSo image budget s name cause pc
IsEnd image budget commits journal s ends.Unfinished = (inner s.stack ≢ []) × (length journal < commits)
