-- The lines of a whole view, and of the end.
use Rattle.std.specs.Prelude.{ℕ, ◌+◌, ◌*◌, List, [], ◌++◌, codes, decimal, length, slice_index_or, Some, None}
use Rattle.std.specs.declared.option.Option.{Option}
use Rattle.std.specs.List.{range_with_len}
use Rattle.guest_image.specs.ImageValue.{ImageValue}
use Rattle.guest_image.specs.Numbers.{word_at}
use Rattle.run_journal.specs.declared.end.End.{End}
use Rattle.run_journal.specs.declared.end.End.TheVariants as ends
use Rattle.script_text.specs.spec_state.declared.task.Status.{Status}
use Rattle.script_text.specs.spec_state.declared.task.Status.TheVariants.{Idle, Running, Trapped, Finished}
use Rattle.script_text.specs.spec_state.declared.task.Task.{Task}
use Rattle.script_text.specs.spec_state.View.{View, block_at, cores_at, finished_at, queue_at, task_at}
use Rattle.watch_text.specs.Fields.{hex_text, items_text, name_field, number_field, word_field}

-- ---- a view

abbrev pub status_word : Status → List ℕ
status_word Idle = codes "idle"
status_word (Running core) = codes "running"
status_word (Trapped core cause) = codes "trapped"
status_word Finished = codes "finished"

-- a number, or that there is none
abbrev pub or_null : Option ℕ → List ℕ
or_null None = codes "null"
or_null (Some number) = decimal number

abbrev pub some_queued_text : Option Task → List ℕ
some_queued_text None = []
some_queued_text (Some task) =
    codes ",\"" ++ status_word task.status ++ codes "\"," ++ decimal task.key.ts ++ codes "," ++ or_null task.key.tb

-- a task in a task queue: its id, how far it has come, its timestamp and its dispatch number
abbrev pub queued_text : View → ℕ → List ℕ
queued_text view id = codes "[" ++ decimal id ++ some_queued_text (task_at view id) ++ codes "]"

-- what a core of a tile holds
abbrev pub held_text : View → ℕ → ℕ → List ℕ
held_text view tile core = or_null (slice_index_or (cores_at view tile) core None)

-- a tile's task queue
abbrev pub waiting_text : View → ℕ → List ℕ
waiting_text view tile =
    codes "{\"queue\":[" ++ items_text (queued_text view) (queue_at view tile) ++ codes "],\"cores\":["

-- the ids in its commit queue
unfoldable pub finished_text : View → ℕ → List ℕ
finished_text view tile = codes "],\"finished\":[" ++ items_text decimal (finished_at view tile)

-- how many tasks its block has
unfoldable pub block_text : View → ℕ → List ℕ
block_text view tile = codes "],\"block\":" ++ decimal (length (block_at view tile)) ++ codes "}"

-- the ids on its cores, followed by those in its commit queue and in its block
abbrev pub working_text : View → ℕ → List ℕ
working_text view tile =
    items_text (held_text view tile) (range_with_len 0 view.settings.cores)
    ++ finished_text view tile ++ block_text view tile

abbrev pub tile_text : View → ℕ → List ℕ
tile_text view tile = waiting_text view tile ++ working_text view tile

-- the line of a view: how many events were made, the next dispatch number, and the tiles
unfoldable pub view_line : View → ℕ → List ℕ
view_line view events =
    codes "{\"view\":" ++ decimal events ++ number_field (codes "next") view.next ++ codes ",\"tiles\":["
    ++ items_text (tile_text view) (range_with_len 0 view.settings.tiles) ++ codes "]}\n"

-- ---- the end

abbrev pub end_word : End → List ℕ
end_word ends.Normal = codes "normal"
end_word (ends.Trap name cause pc) = codes "trap"
end_word ends.Limit = codes "limit"
end_word ends.Unfinished = codes "open"

-- why a run ended at a trap, where, and of which task
abbrev pub trap_text : End → List ℕ
trap_text (ends.Trap name cause pc) =
    number_field (codes "cause") cause ++ number_field (codes "pc") pc ++ name_field name.creator name.index
trap_text other = []

-- a word of the window in a memory
abbrev pub window_text : ImageValue → List ℕ → ℕ → List ℕ
window_text image memory k = decimal (word_at memory (image.window_offset + 4 * k))

-- all of them
abbrev pub windows_text : ImageValue → List ℕ → List ℕ
windows_text image memory = items_text (window_text image memory) (range_with_len 0 image.window_words)

unfoldable pub end_front : End → List ℕ
end_front end = codes "{\"end\":\"" ++ end_word end ++ codes "\"" ++ trap_text end

-- how many events were made and how many tasks committed
unfoldable pub counts_text : ℕ → ℕ → List ℕ
counts_text events commits = number_field (codes "n") events ++ number_field (codes "journal") commits

-- the bytes that the tasks emitted
unfoldable pub output_text : List ℕ → List ℕ
output_text output = word_field (codes "output") (hex_text output)

-- the words of the window
unfoldable pub memory_text : ImageValue → List ℕ → List ℕ
memory_text image memory = codes ",\"window\":[" ++ windows_text image memory

-- the last line: how the run stands, how many events were made and how many tasks committed, and what they left
unfoldable pub last_line : ImageValue → End → ℕ → ℕ → List ℕ → List ℕ → List ℕ
last_line image end events commits output memory =
    end_front end ++ counts_text events commits ++ output_text output ++ memory_text image memory ++ codes "]}\n"
