-- What the taps note of an event.
use Rattle.std.specs.Prelude.{◌≡◌, ◌/◌, ℕ, length, Option, Some, None}
use Rattle.task_request.specs.declared.request.Request.{Request}
use Rattle.task_request.specs.declared.request.Request.TheVariants.{Continue, Load, Store, Enqueue, MakeSub, Emit, End}
use Rattle.task_request.specs.declared.request.Request.TheVariants.{Trap}
use Rattle.trace_tap.specs.declared.record.Deed.{Deed}
use Rattle.trace_tap.specs.declared.record.Deed.TheVariants as deed
use Rattle.trace_tap.specs.declared.record.Record.{Record}
use Rattle.spec_state.specs.declared.task.Task.{Task}
use Rattle.spec_state.specs.View.{View}
use Rattle.spec_state.specs.Least.{IsLeastTask}
use Rattle.spec_state.specs.Changes.{TakesLeg, request_of}
use Rattle.event_def.specs.declared.event.Event.{Event}
use Rattle.event_def.specs.declared.event.Event.TheVariants as event

-- what a step of a task is: an access, a call that is allowed, or neither
abbrev pub deed_of : Request → Deed
deed_of Continue = deed.Keep
deed_of (Load width rd offset) = deed.Access
deed_of (Store offset width value) = deed.Access
deed_of (Enqueue spawn) = deed.Call
deed_of (MakeSub kind) = deed.Call
deed_of (Emit byte) = deed.Call
deed_of End = deed.Call
deed_of (Trap cause) = deed.Keep

-- the line of a load or a store, for lines of this size
abbrev pub line_of_request : ℕ → Request → Option ℕ
line_of_request size (Load width rd offset) = Some (offset / size)
line_of_request size (Store offset width value) = Some (offset / size)
line_of_request size other = None

-- the record of a deed in a tile that aborted `aborted` tasks and left this view
abbrev pub record_of : Deed → ℕ → Option ℕ → ℕ → View → Record
record_of deed tile line aborted new = record {
  deed = deed;
  tile = tile;
  line = line;
  aborted = aborted;
  commits = length new.history;
}

-- the record of an event that was made: the tile is that of its task, and the named one where it has none
abbrev pub IsRecord : {N : Type 0} → View → Event N → ℕ → View → Record → Type 0
IsRecord old (event.Dispatch tile) aborted new seen = seen ≡ record_of deed.Dispatch tile None aborted new
IsRecord old (event.Step tile core leg) aborted new seen =
    (id : ℕ) × (task : Task) × TakesLeg old tile core leg id task
    × (let request : Request = request_of old task leg in
    seen ≡ record_of (deed_of request) tile (line_of_request old.settings.line request) aborted new)
IsRecord old (event.Abort tile) aborted new seen = seen ≡ record_of deed.Abort tile None aborted new
IsRecord old event.Commit aborted new seen =
    (id : ℕ) × (task : Task) × IsLeastTask old id task × (seen ≡ record_of deed.Commit task.tile None aborted new)
IsRecord old (event.Coalesce tile) aborted new seen = seen ≡ record_of deed.Coalesce tile None aborted new
IsRecord old (event.Split tile) aborted new seen = seen ≡ record_of deed.Split tile None aborted new
