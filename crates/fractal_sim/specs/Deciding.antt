-- What is found with an image: runs that are made of it, and texts after it.
use Rattle.std.specs.Prelude.{◌≡◌, ◌≢◌, ◌≤◌, ◌==◌, ℕ, List, length, map, Result, Ok, Err, Some, None, IfSome}
use Rattle.std.specs.Prelude.{MatchOption, if◌then◌else◌}
use Rattle.std.specs.declared.alloc.AllocError.{AllocError}
use Rattle.std.specs.declared.marker.Brand.{Brand}
use Rattle.std.specs.declared.option.Option.{Option}
use Rattle.guest_image.specs.declared.limits.TheConstants.{MAX_TASKS}
use Rattle.guest_image.specs.ImageValue.{ImageValue}
use Rattle.place_policy.specs.Policy.{Policy}
use Rattle.trace_tap.specs.TapValue.{TapValue}
use Rattle.run_journal.specs.declared.end.End.TheVariants as ends
use Rattle.machine_run.specs.serial_machine.State.{SerialState}
use Rattle.machine_run.specs.serial_machine.WholeRun.{IsRunOf}
use Rattle.machine_run.specs.serial_machine.declared.whole_run.SerialRun.{SerialRun}
use Rattle.machine_run.specs.spec_state.declared.settings.Settings.{Settings}
use Rattle.machine_run.specs.conflict_book.declared.freezing.Frozen.{Frozen}
use Rattle.script_text.specs.report_text.declared.report.Report.{Report}
use Rattle.script_text.specs.report_text.Grammar.{report_of}
use Rattle.script_text.specs.report_text.Check.{IsReportOf}
use Rattle.machine_run.specs.step_script.declared.act.Act.{Act}
use Rattle.machine_run.specs.step_script.declared.fault.ScriptFault.{ScriptFault}
use Rattle.machine_run.specs.step_script.declared.fault.ScriptFault.TheVariants as faults
use Rattle.machine_run.specs.Least.{IsLeastRun, run_of_closed}
use Rattle.machine_run.specs.Played.{IsPlayedInPart, IsPlayedRun, IsTracedRun}
use Rattle.machine_run.specs.declared.left.Ran.{Ran}
use Rattle.machine_run.specs.declared.left.Stopped.{Stopped}
use Rattle.machine_run.specs.declared.playing.Played.{Played}
use Rattle.machine_run.specs.declared.playing.Traced.{Traced}
use Rattle.command_line.specs.declared.request.Command.TheVariants as commands
use Rattle.command_line.specs.declared.request.Request.{Request}
use Rattle.load_gen.specs.Generated.{load_image}
use Rattle.fractal_sim.specs.declared.finding.Finding.{Finding}
use Rattle.fractal_sim.specs.declared.finding.Loading.{Loading}
use Rattle.fractal_sim.specs.declared.finding.Saving.{Saving}
use Rattle.fractal_sim.specs.declared.finding.Saving.TheVariants as saving
use Rattle.guest_image.specs.Writing.{image_bytes}
use Rattle.resume_image.specs.declared.fault.SaveFault.TheVariants as save_faults
use Rattle.resume_image.specs.Pendings.{AreOfRoot}
use Rattle.resume_image.specs.Saved.{saved_image, CannotSave}
use Rattle.machine_run.specs.spec_state.declared.pending.Pending.{Pending}
use Rattle.machine_run.specs.spec_state.Pendings.{RunLeaves}
use Rattle.fractal_sim.specs.declared.finding.Finding.TheVariants as finding
use Rattle.fractal_sim.specs.Checks.{IsNoScriptAt, IsWrongLine}
use Rattle.fractal_sim.specs.Runs.{IsReported, IsScript, PlaysScript, RunsRead}

-- the run that was left, with its end
abbrev pub run_with_end : Ran → SerialRun
run_with_end ran = run_of_closed ran.closed ran.end

-- the numbers of the taps
abbrev pub lists_of_traced : Traced → List (List ℕ)
lists_of_traced t = map (λ list. list.items) t.lists.items

-- the count of events of a run made without workers; none with workers
abbrev pub event_count : (workers events : ℕ) → Option ℕ
event_count workers events = if workers == 0 then Some events else None

-- the image was run to its end, or as far as memory went
pub record IsRunSo (image : ImageValue) (settings : Settings) (placers : List Policy) (taps : List TapValue)
    (ran : Ran) (steps : Option ℕ) : Type 0 where
  pub least : settings.workers ≡ 0 → IsLeastRun Brand image settings placers taps ran.closed.steps (run_with_end ran)
  pub run : IsRunOf image settings.commits settings.budget (run_with_end ran)
  pub steps_is : steps ≡ event_count settings.workers ran.closed.steps
  pub over : ran.end ≢ Some ends.Unfinished

-- what is found of the machine's answer for the image that was read and was to be run: the run that it made, or out of
-- memory only if it made none
abbrev pub run_finding : ImageValue → (workers : ℕ) → Result Ran AllocError → Finding
run_finding image workers (Ok ran) = finding.Ran image ran (event_count workers ran.closed.steps)
run_finding image workers (Err error) = finding.Memory

-- what is found of the machine's answer for a generated image that was to be run: the run that it made, or out of
-- memory only if it made none
abbrev pub load_finding : Loading → ImageValue → (workers : ℕ) → Result Ran AllocError → Finding
load_finding load image workers (Ok ran) = finding.Loaded load image ran (event_count workers ran.closed.steps)
load_finding load image workers (Err error) = finding.Memory

-- what is found of the machine's answer for a script that was to be played: the run that it made, or out of memory only
-- if it made none
abbrev pub play_finding : ImageValue → Result Played AllocError → Finding
play_finding image (Ok played) = finding.Played image played
play_finding image (Err error) = finding.Memory

-- what is found of the machine's answer for a script that was to be played for its taps: the run that it made, or out
-- of memory only if it made none
abbrev pub trace_finding : Result Traced AllocError → Finding
trace_finding (Ok traced) = finding.Traced traced
trace_finding (Err error) = finding.Memory

-- what was made of the tasks that are pending after a run: the bytes of the saved image, or why there is none
abbrev pub Saves : ImageValue → List ℕ → List Pending → Saving → Type 0
Saves image memory pendings (saving.Bytes bytes) =
    AreOfRoot pendings × (length pendings ≤ MAX_TASKS)
    × (bytes.items ≡ image_bytes (saved_image image memory pendings))
Saves image memory pendings (saving.Nested depth) = CannotSave pendings (save_faults.Nested depth)
Saves image memory pendings (saving.TooMany count) = CannotSave pendings (save_faults.TooMany count)

-- what is found of a run that met its commit limit and was frozen: that run, and this was made of its pending tasks;
-- or, if memory ran out for that, that run without its end
abbrev pub IsKeptSo : ImageValue → Frozen → Option ℕ → Finding → Type 0
IsKeptSo image frozen steps (finding.Ran image' ran told) =
    (image' ≡ image) × (ran ≡ record { closed = frozen.closed; end = None }) × (told ≡ steps)
IsKeptSo image frozen steps (finding.Stopped ran told made) =
    (ran ≡ record { closed = frozen.closed; end = Some ends.Limit }) × (told ≡ steps)
    × Saves image frozen.closed.memory frozen.pending made
IsKeptSo image frozen steps other = ⊥

-- what is found of a run that was made and was to be saved: that run, and if its pending tasks were kept, what was made
-- of them
abbrev pub IsKeptStopped : ImageValue → (workers : ℕ) → Stopped → Finding → Type 0
IsKeptStopped image workers stopped found =
    let steps = event_count workers stopped.ran.closed.steps in
    MatchOption stopped.pending (found ≡ finding.Ran image stopped.ran steps)
    (λ pendings. IsKeptSo image (record { closed = stopped.ran.closed; pending = pendings }) steps found)

-- the image was run to the commit limit, and this was made of the pending tasks
pub record IsStoppedSo (image : ImageValue) (settings : Settings) (placers : List Policy) (taps : List TapValue)
    (ran : Ran) (steps : Option ℕ) (made : Saving) : Type 0 where
  pub run : IsRunSo image settings placers taps ran steps
  pub limit : ran.end ≡ Some ends.Limit
  pub pendings : List Pending
  pub left : RunLeaves image settings.budget ran.closed.journal ran.closed.memory ran.closed.output pendings
  pub saves : Saves image ran.closed.memory pendings made

-- why something is found if the arguments request a run of this image that can be continued
abbrev pub IsSavedSo : ImageValue → Settings → List Policy → List TapValue → Finding → Type 0
IsSavedSo image settings placers taps finding.Memory = Unit {0}
IsSavedSo image settings placers taps (finding.Ran image' ran steps) =
    (image' ≡ image) × IsRunSo image settings placers taps ran steps × IfSome ran.end (IsReported commands.Save)
IsSavedSo image settings placers taps (finding.Stopped ran steps made) =
    IsStoppedSo image settings placers taps ran steps made
IsSavedSo image settings placers taps other = ⊥

-- why something is found if the arguments request the run of a generated image
abbrev pub IsLoadedSo : Loading → Settings → List Policy → List TapValue → Finding → Type 0
IsLoadedSo load settings placers taps finding.Memory = Unit {0}
IsLoadedSo load settings placers taps (finding.Loaded load' image ran steps) =
    (load' ≡ load) × (image ≡ load_image load.load load.seed load.size) × IsRunSo image settings placers taps ran steps
IsLoadedSo load settings placers taps other = ⊥

-- the text after the image was played as a script, or as much of it as memory allowed
pub record IsPlayedSo (request : Request) (image : ImageValue) (rest : List ℕ)
    (placers : List Policy) (taps : List TapValue) (p : Played) : Type 0 where
  pub script : List Act
  pub script_is : IsScript request rest script
  pub run : IsRunOf image request.settings.commits request.settings.budget (run_with_end p.ran)
  pub played : IfSome p.ran.end (λ end. IsPlayedRun Brand image request.settings script placers taps
      p.said.items p.ran.closed.steps end (run_with_end p.ran))
  pub part : p.ran.end ≡ None → IsPlayedInPart Brand image request.settings script placers taps
      p.ran.closed.steps (run_with_end p.ran)

-- the text after the image was played as a script, or as much of it as memory allowed, and the taps have these lists
pub record IsTracedSo (request : Request) (image : ImageValue) (rest : List ℕ)
    (placers : List Policy) (taps : List TapValue) (t : Traced) : Type 0 where
  pub script : List Act
  pub script_is : IsScript request rest script
  pub run : IsRunOf image request.settings.commits request.settings.budget (run_with_end t.ran)
  pub traced : IfSome t.ran.end (λ end. IsTracedRun Brand image request.settings script placers taps
      (lists_of_traced t) t.ran.closed.steps end (run_with_end t.ran))
  pub part : t.ran.end ≡ None → IsPlayedInPart Brand image request.settings script placers taps
      t.ran.closed.steps (run_with_end t.ran)

-- the run of a report, which led to this state
pub record IsClosedReport (state : SerialState) (report : Report) (closed : SerialRun) : Type 0 where
  pub journal_is : closed.journal ≡ report.journal
  pub memory_is : closed.memory ≡ state.memory
  pub output_is : closed.output ≡ state.output
  pub end_is : closed.end ≡ Some report.end

-- the report is accepted
pub record IsAcceptedSo (request : Request) (image : ImageValue) (rest : List ℕ) (closed : SerialRun) : Type 0 where
  pub report : Report
  pub report_is : report_of rest ≡ Ok report
  pub accepted : IsReportOf image request.settings.commits request.settings.budget report
  pub kept : IsClosedReport accepted.state report closed

-- what is found where a text wasn't read as a script: it is none, or memory ran out
abbrev pub no_script_finding : ScriptFault → Finding
no_script_finding (faults.Line line) = finding.NoScript line
no_script_finding faults.Memory = finding.Memory

-- why something is found with an image and the bytes after it
abbrev pub IsFoundBehind : Request → ImageValue → List ℕ → List Policy → List TapValue → Finding → Type 0
IsFoundBehind request image rest placers taps finding.Memory = Unit {0}
IsFoundBehind request image rest placers taps (finding.Refused line) =
    (request.command ≡ commands.Check) × IsWrongLine image request rest line
IsFoundBehind request image rest placers taps (finding.NoScript line) =
    PlaysScript request.command × IsNoScriptAt request rest line
IsFoundBehind request image rest placers taps (finding.Accepted closed) =
    (request.command ≡ commands.Check) × IsAcceptedSo request image rest closed
IsFoundBehind request image rest placers taps (finding.Ran image' ran steps) =
    RunsRead request.command × (image' ≡ image) × IsRunSo image request.settings placers taps ran steps
    × IfSome ran.end (IsReported request.command)
IsFoundBehind request image rest placers taps (finding.Stopped ran steps made) =
    (request.command ≡ commands.Save) × IsStoppedSo image request.settings placers taps ran steps made
IsFoundBehind request image rest placers taps (finding.Played image' played) =
    (request.command ≡ commands.Steps) × (image' ≡ image) × IsPlayedSo request image rest placers taps played
IsFoundBehind request image rest placers taps (finding.Traced traced) =
    (request.command ≡ commands.Trace) × IsTracedSo request image rest placers taps traced
IsFoundBehind request image rest placers taps other = ⊥
