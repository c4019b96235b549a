-- The lines before the first act: the head, and the tasks of the image where they were placed.
use Rattle.std.specs.Prelude.{ℕ, List, [], ◌++◌, codes, length, Some, None}
use Rattle.std.specs.declared.option.Option.{Option}
use Rattle.std.specs.List.{flat_map, range_with_len}
use Rattle.guest_image.specs.ImageValue.{ImageValue}
use Rattle.spill_store.specs.SpilledTasks.{Spilled}
use Rattle.task_desc.specs.declared.desc.Desc.{Desc}
use Rattle.line_table.specs.declared.lines.FilterKind.{FilterKind}
use Rattle.script_text.specs.spec_state.declared.settings.Settings.{Settings}
use Rattle.script_text.specs.spec_state.declared.task.Task.{Task}
use Rattle.script_text.specs.spec_state.Fronts.{name_given}
use Rattle.script_text.specs.spec_state.View.{View, block_at, queue_at, task_at}
use Rattle.watch_text.specs.declared.head.CourseWord.{CourseWord}
use Rattle.watch_text.specs.declared.head.CourseWord.TheVariants as courses
use Rattle.watch_text.specs.declared.placed.Placed.{Placed}
use Rattle.watch_text.specs.Fields.{filter_word, kind_word, name_field, number_field, some_field, start_text}
use Rattle.watch_text.specs.Fields.{window_field, word_field}

-- ---- the head

-- how many rounds, what their orders are drawn from, and how many may be starved
abbrev pub rounds_text : (rounds seed starved : ℕ) → List ℕ
rounds_text rounds seed starved =
    number_field (codes "rounds") rounds ++ number_field (codes "seed") seed ++ number_field (codes "starved") starved

abbrev pub course_text : CourseWord → List ℕ
course_text courses.Steps = word_field (codes "course") (codes "steps")
course_text courses.Least = word_field (codes "course") (codes "least")
course_text (courses.Lockstep rounds seed starved) =
    word_field (codes "course") (codes "lockstep") ++ rounds_text rounds seed starved

-- how large a tile is, and how many there are
unfoldable pub sizes_text : Settings → List ℕ
sizes_text settings =
    number_field (codes "tiles") settings.tiles ++ number_field (codes "cores") settings.cores
    ++ number_field (codes "task_queue") settings.task_queue
    ++ number_field (codes "commit_queue") settings.commit_queue

-- how far it runs, and by which numbers
unfoldable pub limits_text : Settings → List ℕ
limits_text settings =
    number_field (codes "line") settings.line ++ number_field (codes "quantum") settings.quantum
    ++ number_field (codes "commits") settings.commits ++ number_field (codes "budget") settings.budget
    ++ number_field (codes "phase") settings.phase

-- the kind of filters
unfoldable pub filter_text : FilterKind → List ℕ
filter_text kind = word_field (codes "filter") (filter_word kind)

unfoldable pub settings_text : Settings → List ℕ
settings_text settings = sizes_text settings ++ limits_text settings ++ filter_text settings.filter

-- the kind of the root domain, and how many words of text and bytes of data there are
unfoldable pub contents_text : ImageValue → List ℕ
contents_text image =
    word_field (codes "root") (kind_word image.kind) ++ number_field (codes "text") (length image.text)
    ++ number_field (codes "data") image.data_size

-- the window, and how many tasks there are
unfoldable pub bounds_text : ImageValue → List ℕ
bounds_text image =
    window_field image.window_offset image.window_words ++ number_field (codes "tasks") (length image.tasks)

unfoldable pub image_text : ImageValue → List ℕ
image_text image = contents_text image ++ bounds_text image

-- the first line: what is printed, of which mode, on which machine, and of which image; no number of workers, because
-- none run
unfoldable pub head_line : CourseWord → Settings → ImageValue → List ℕ
head_line course settings image =
    codes "{\"watch\":1" ++ course_text course ++ settings_text settings ++ image_text image ++ codes "}\n"

-- ---- tasks that were placed

-- that a task was placed in a tile
unfoldable pub place_text : ℕ → List ℕ
place_text tile = codes "{\"at\":0,\"do\":\"place\"" ++ number_field (codes "tile") tile

-- where a task was placed: its tile, and its id unless it was spilled
unfoldable pub placed_front : ℕ → Option ℕ → List ℕ
placed_front tile id = place_text tile ++ some_field (codes "new") id

-- and what it is
unfoldable pub placed_rest : Placed → List ℕ
placed_rest p =
    name_field p.creator p.index ++ start_text p.entry p.ts p.args p.hint ++ codes "}\n"

abbrev pub placed_line : ℕ → Option ℕ → Placed → List ℕ
placed_line tile id placed = placed_front tile id ++ placed_rest placed

-- what is printed of a task in a queue, which the image has made
abbrev pub placed_task : Task → Placed
placed_task task = let name = name_given task.creator 0 in record {
  creator = name.creator;
  index = name.index;
  entry = task.entry;
  ts = task.key.ts;
  args = task.args;
  hint = task.hint;
}

-- and of one in a block
abbrev pub placed_desc : Desc → Placed
placed_desc desc = record {
  creator = desc.name.creator;
  index = desc.name.index;
  entry = desc.entry;
  ts = desc.ts;
  args = desc.args;
  hint = desc.hint;
}

abbrev pub some_queued_line : ℕ → ℕ → Option Task → List ℕ
some_queued_line tile id None = []
some_queued_line tile id (Some task) = placed_line tile (Some id) (placed_task task)

-- a task in the tile's task queue
abbrev pub queued_line : View → ℕ → ℕ → List ℕ
queued_line view tile id = some_queued_line tile id (task_at view id)

-- a task in its block
abbrev pub spilled_line : ℕ → Spilled → List ℕ
spilled_line tile s = placed_line tile None (placed_desc s.desc)

-- the tasks of a tile: those in its task queue, and then those in its block
abbrev pub tile_lines : View → ℕ → List ℕ
tile_lines view tile =
    flat_map (queued_line view tile) (queue_at view tile) ++ flat_map (spilled_line tile) (block_at view tile)

-- those of all tiles
unfoldable pub placed_lines : View → List ℕ
placed_lines view = flat_map (tile_lines view) (range_with_len 0 view.settings.tiles)
