-- The part of a line after its event: the reply, and what changed.
use Rattle.std.specs.Prelude.{◌-◌, ◌==◌, ℕ, List, [], ◌∷◌, ◌++◌, codes, decimal, drop, filter, length, map}
use Rattle.std.specs.Prelude.{Some, None, option_and_then, option_map, slice_get, if◌then◌else◌}
use Rattle.std.specs.declared.option.Option.{Option}
use Rattle.run_journal.specs.declared.journal.Entry.{Entry}
use Rattle.task_request.specs.declared.request.Request.{Request}
use Rattle.task_request.specs.declared.request.Request.TheVariants as requests
use Rattle.undo_log.specs.declared.access.Access.{Access}
use Rattle.script_text.specs.Replies.{reply_text}
use Rattle.script_text.specs.spec_state.declared.effect.SpilledTask.{SpilledTask}
use Rattle.script_text.specs.spec_state.declared.effect.TakenTask.{TakenTask}
use Rattle.script_text.specs.spec_state.declared.task.Status.{Status}
use Rattle.script_text.specs.spec_state.declared.task.Status.TheVariants.{Idle, Running, Trapped, Finished}
use Rattle.script_text.specs.spec_state.declared.task.Task.{Task}
use Rattle.script_text.specs.spec_state.declared.task.TaskId.{TaskId}
use Rattle.script_text.specs.spec_state.Effects.{EffectValue}
use Rattle.script_text.specs.spec_state.Fronts.{name_given}
use Rattle.script_text.specs.spec_state.View.{View, task_at}
use Rattle.script_text.specs.event_def.declared.event.Event.TheVariants as event
use Rattle.script_text.specs.event_def.declared.event.Reply.{Reply}
use Rattle.script_text.specs.event_def.declared.event.Reply.TheVariants as reply
use Rattle.script_text.specs.step_script.Asking.{Attempt, Hands, Says}
use Rattle.watch_text.specs.Fields.{hex_text, items_field, name_field, number_field, pair_text, some_field, word_field}

-- the last item
abbrev pub last_item : {X : Type 0} → List X → Option X
last_item items = slice_get items (length items - 1)

-- ---- tasks that were aborted and spilled

-- how many tasks were aborted, where any were
abbrev pub aborted_text : ℕ → List ℕ
aborted_text aborted = if aborted == 0 then [] else number_field (codes "aborted") aborted

-- a task that was aborted, and how many instructions it had executed
abbrev pub back_text : TakenTask → List ℕ
back_text task = pair_text task.id.0 task.used

-- the ids of those of them that are gone
abbrev pub gone_ids : List TakenTask → List ℕ
gone_ids back = map (λ (task : TakenTask). task.id.0) (filter (λ (task : TakenTask). task.gone) back)

-- a task that was spilled, and the name that it is spilled under
unfoldable pub spilled_text : SpilledTask → List ℕ
spilled_text task =
    codes "[" ++ decimal task.id.0 ++ codes "," ++ decimal task.name.creator ++ codes "," ++ decimal task.name.index
    ++ codes "]"

-- which were aborted, which of these are gone, and which were spilled
abbrev pub lists_text : EffectValue → List ℕ
lists_text effect =
    items_field (codes "back") back_text effect.back ++ items_field (codes "gone") decimal (gone_ids effect.back)
    ++ items_field (codes "spilled") spilled_text effect.spilled

-- how many were aborted, and these lists
unfoldable pub taken_text : EffectValue → ℕ → List ℕ
taken_text effect aborted = aborted_text aborted ++ lists_text effect

-- ---- what an event changed beside that

-- the core that a status names
abbrev pub core_of_status : Status → Option ℕ
core_of_status Idle = None
core_of_status (Running core) = Some core
core_of_status (Trapped core cause) = Some core
core_of_status Finished = None

-- a task that was dispatched: its core, and its dispatch number
abbrev pub dispatched_text : Option Task → List ℕ
dispatched_text None = []
dispatched_text (Some task) = some_field (codes "core") (core_of_status task.status) ++ some_field
    (codes "number") task.key.tb

-- the number that stood where the task accessed the data last
abbrev pub old_in : Task → Option ℕ
old_in task = option_map (λ (access : Access). access.old) (last_item task.log)

-- a task that loaded or stored: the number that stood there before
abbrev pub old_text : Option Task → List ℕ
old_text None = []
old_text (Some task) = some_field (codes "old") (old_in task)

-- the tile of the task of an id
abbrev pub tile_in : View → ℕ → Option ℕ
tile_in view id = option_map (λ (task : Task). task.tile) (task_at view id)

-- a task that came: its id, and the tile where it stands
abbrev pub arrived_text : View → Option TaskId → List ℕ
arrived_text new None = []
arrived_text new (Some id) =
    number_field (codes "new") id.0 ++ some_field (codes "in") (tile_in new id.0)

-- the name of one that was spilled, where so many tasks have committed
abbrev pub split_name_text : ℕ → Option Task → List ℕ
split_name_text commits None = []
split_name_text commits (Some task) =
    let name = name_given task.creator commits in name_field name.creator name.index

-- the entry of a task that committed
unfoldable pub entry_text : Entry → List ℕ
entry_text entry =
    name_field entry.name.creator entry.name.index ++ number_field (codes "depth") entry.depth
    ++ number_field (codes "ts") entry.ts

abbrev pub emitted_text : List ℕ → List ℕ
emitted_text [] = []
emitted_text (byte ∷ bytes) = word_field (codes "output") (hex_text (byte ∷ bytes))

abbrev pub some_entry_text : Option Entry → List ℕ
some_entry_text None = []
some_entry_text (Some entry) = entry_text entry

-- a commit: the entry, and the bytes behind these many, where there are any
abbrev pub commit_text : View → ℕ → List ℕ
commit_text new output = some_entry_text (last_item new.history) ++ emitted_text (drop output new.output)

-- the task of an id, where there is one
abbrev pub task_if : View → Option ℕ → Option Task
task_if view id = option_and_then (task_at view) id

-- what a step changed, by what its task asked for, and the task that came
abbrev pub step_text : View → Option TaskId → Option ℕ → Option Request → List ℕ
step_text new arrived task None = []
step_text new arrived task (Some (requests.Load width rd offset)) = old_text (task_if new task)
step_text new arrived task (Some (requests.Store offset width value)) = old_text (task_if new task)
step_text new arrived task (Some (requests.Enqueue spawn)) = arrived_text new arrived
step_text new arrived task (Some other) = []

-- a task that a split brought back
abbrev pub split_text : View → Option TaskId → List ℕ
split_text new arrived =
    arrived_text new arrived
    ++ split_name_text (length new.history) (task_if new (option_map (λ (id : TaskId). id.0) arrived))

-- what each event changed
abbrev pub own_text : {N : Type 0} → View → Option TaskId → ℕ → Attempt N → Option ℕ → Option Request → List ℕ
own_text new arrived output (Hands (event.Dispatch tile)) task request = dispatched_text (task_if new task)
own_text new arrived output (Hands (event.Step tile core leg)) task request = step_text new arrived task request
own_text new arrived output (Hands event.Commit) task request = commit_text new output
own_text new arrived output (Hands (event.Split tile)) task request = split_text new arrived
own_text new arrived output asks task request = []

-- what changed, where an event was made and did this beside its one change
abbrev pub change_text : {N : Type 0} → EffectValue → ℕ → View → Attempt N → Option ℕ → Option Request → ℕ → List ℕ
change_text effect output new (Says word) task request aborted = []
change_text effect output new (Hands event) task request aborted =
    taken_text effect aborted ++ own_text new effect.arrived output (Hands event) task request

-- the same by the reply: only an event that was made changes anything
abbrev pub change_by : Reply → List ℕ → List ℕ
change_by reply.Ok text = text
change_by other text = []

-- the reply, and how many events were made so far
unfoldable pub reply_part : Reply → ℕ → List ℕ
reply_part answer events = word_field (codes "reply") (reply_text answer) ++ number_field (codes "n") events
