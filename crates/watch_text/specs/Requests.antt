-- The part of a line before its event: the names of acts and events, and what a task asks for.
use Rattle.std.specs.Prelude.{◌+◌, ℕ, List, [], ◌++◌, codes, decimal, Some, None}
use Rattle.std.specs.declared.option.Option.{Option}
use Rattle.guest_image.specs.declared.memory_map.TheConstants.{DATA_START}
use Rattle.rv_core.specs.Memory.{load_width}
use Rattle.task_desc.specs.declared.desc.Place.{Place}
use Rattle.task_desc.specs.declared.desc.Place.TheVariants.{Same, Sub, Super}
use Rattle.task_desc.specs.declared.desc.Spawn.{Spawn}
use Rattle.task_request.specs.declared.request.Request.{Request}
use Rattle.task_request.specs.declared.request.Request.TheVariants as requests
use Rattle.script_text.specs.event_def.declared.event.Event.{Event}
use Rattle.script_text.specs.event_def.declared.event.Event.TheVariants as event
use Rattle.script_text.specs.step_script.declared.act.Act.{Act}
use Rattle.script_text.specs.step_script.declared.act.Act.TheVariants as acts
use Rattle.watch_text.specs.declared.front.Spot.{Spot}
use Rattle.script_text.specs.step_script.Asking.{Attempt, Hands, Says}
use Rattle.watch_text.specs.Fields.{kind_word, number_field, some_field, start_text, word_field}

-- ---- words

abbrev pub act_word : Act → List ℕ
act_word (acts.Dispatch tile) = codes "dispatch"
act_word (acts.Step tile core) = codes "step"
act_word (acts.Take tile core) = codes "take"
act_word (acts.Give tile core) = codes "give"
act_word (acts.Abort tile) = codes "abort"
act_word acts.Commit = codes "commit"
act_word (acts.Coalesce tile) = codes "coalesce"
act_word (acts.Split tile) = codes "split"
act_word acts.Advance = codes "advance"

abbrev pub event_word : {N : Type 0} → Event N → List ℕ
event_word (event.Dispatch tile) = codes "dispatch"
event_word (event.Step tile core leg) = codes "step"
event_word (event.Abort tile) = codes "abort"
event_word event.Commit = codes "commit"
event_word (event.Coalesce tile) = codes "coalesce"
event_word (event.Split tile) = codes "split"

-- the word of the event that is handed in, or of the act where none is
abbrev pub do_word : {N : Type 0} → Act → Attempt N → List ℕ
do_word act (Hands event) = event_word event
do_word act (Says answer) = act_word act

abbrev pub place_word : Place → List ℕ
place_word Same = codes "same"
place_word Sub = codes "sub"
place_word Super = codes "super"

-- ---- where it is done

abbrev pub nowhere : Spot
nowhere = record { tile = None; core = None }

abbrev pub in_tile : ℕ → Spot
in_tile tile = record { tile = Some tile; core = None }

abbrev pub spot_on_core : ℕ → ℕ → Spot
spot_on_core tile core = record { tile = Some tile; core = Some core }

abbrev pub act_spot : Act → Spot
act_spot (acts.Dispatch tile) = in_tile tile
act_spot (acts.Step tile core) = spot_on_core tile core
act_spot (acts.Take tile core) = spot_on_core tile core
act_spot (acts.Give tile core) = spot_on_core tile core
act_spot (acts.Abort tile) = in_tile tile
act_spot acts.Commit = nowhere
act_spot (acts.Coalesce tile) = in_tile tile
act_spot (acts.Split tile) = in_tile tile
act_spot acts.Advance = nowhere

abbrev pub event_spot : {N : Type 0} → Event N → Spot
event_spot (event.Dispatch tile) = in_tile tile
event_spot (event.Step tile core leg) = spot_on_core tile core
event_spot (event.Abort tile) = in_tile tile
event_spot event.Commit = nowhere
event_spot (event.Coalesce tile) = in_tile tile
event_spot (event.Split tile) = in_tile tile

abbrev pub do_spot : {N : Type 0} → Act → Attempt N → Spot
do_spot act (Hands event) = event_spot event
do_spot act (Says answer) = act_spot act

abbrev pub spot_text : Spot → List ℕ
spot_text spot = some_field (codes "tile") spot.tile ++ some_field (codes "core") spot.core

-- ---- what a task asks for

-- an access of the data, which begin at 0x10000000
unfoldable pub access_text : ℕ → ℕ → List ℕ
access_text offset width = number_field (codes "addr") (DATA_START + offset) ++ number_field (codes "bytes") width

-- a child
unfoldable pub spawn_text : Spawn → List ℕ
spawn_text spawn =
    word_field (codes "to") (place_word spawn.place) ++ start_text spawn.entry spawn.ts spawn.args spawn.hint

-- a request by its word alone
unfoldable pub asks_field : List ℕ → List ℕ
asks_field word = word_field (codes "asks") word

-- a request by its word and a number
abbrev pub asks_with_number : (word name : List ℕ) → ℕ → List ℕ
asks_with_number word name number = asks_field word ++ number_field name number

unfoldable pub load_fields : (offset width : ℕ) → List ℕ
load_fields offset width = asks_field (codes "load") ++ access_text offset width

unfoldable pub store_fields : (offset width value : ℕ) → List ℕ
store_fields offset width value =
    asks_field (codes "store") ++ access_text offset width ++ number_field (codes "value") value

unfoldable pub enqueue_fields : Spawn → List ℕ
enqueue_fields spawn = asks_field (codes "enqueue") ++ spawn_text spawn

unfoldable pub request_text : Request → List ℕ
request_text requests.Continue = asks_field (codes "go")
request_text (requests.Load width rd offset) = load_fields offset (load_width width)
request_text (requests.Store offset width value) = store_fields offset width value
request_text (requests.Enqueue spawn) = enqueue_fields spawn
request_text (requests.MakeSub kind) = asks_field (kind_word kind)
request_text (requests.Emit byte) = asks_with_number (codes "emit") (codes "byte") byte
request_text requests.End = asks_field (codes "end")
request_text (requests.Trap cause) = asks_with_number (codes "trap") (codes "cause") cause

-- the leg that is handed in, where its task takes it: its plain instructions, the pc where it stopped, and what the
-- task asks for there
abbrev pub leg_text : {N : Type 0} → Attempt N → Option Request → List ℕ
leg_text (Hands (event.Step tile core leg)) (Some request) =
    number_field (codes "leg") leg.steps ++ number_field (codes "pc") leg.to.pc ++ request_text request
leg_text asks request = []

-- the front of a line: the act's number, what is done and where, the task, and its leg
unfoldable pub front_text : {N : Type 0} → ℕ → Act → Attempt N → Option ℕ → Option Request → List ℕ
front_text at act asks task request =
    codes "{\"at\":" ++ decimal at ++ word_field (codes "do") (do_word act asks) ++ spot_text (do_spot act asks)
    ++ some_field (codes "task") task ++ leg_text asks request
