-- What is found before anything is written, and how it is reported.
use Rattle.std.specs.Prelude.{◌≡◌, ◌≢◌, ℕ, List, length, Some, None, IfSome, IsSomeAnd, MatchResult, Result, option_map}
use Rattle.std.specs.declared.option.Option.{Option}
use Rattle.sim_io.specs.Causes.{Rose}
use Rattle.sim_io.specs.Parts.{SinkTakes, TakesFront}
use Rattle.sim_io.specs.Streams.{SinkState}
use Rattle.guest_image.specs.ImageValue.{ImageValue}
use Rattle.run_journal.specs.declared.end.End.{End}
use Rattle.machine_run.specs.serial_machine.declared.whole_run.SerialRun.{SerialRun}
use Rattle.machine_run.specs.declared.left.Ran.{Ran}
use Rattle.machine_run.specs.declared.playing.Played.{Played}
use Rattle.machine_run.specs.declared.playing.Traced.{Traced}
use Rattle.command_line.specs.declared.request.Command.TheVariants.{Save, Steps, Trace}
use Rattle.command_line.specs.declared.request.Request.{Request}
use Rattle.script_text.specs.Traces.{trace_text}
use Rattle.fractal_sim.specs.declared.finding.Finding.{Finding}
use Rattle.fractal_sim.specs.declared.finding.Loading.{Loading}
use Rattle.fractal_sim.specs.declared.finding.Saving.{Saving}
use Rattle.fractal_sim.specs.declared.finding.Saving.TheVariants as saving
use Rattle.fractal_sim.specs.declared.finding.Finding.TheVariants as finding
use Rattle.program_call.specs.declared.outcome.Outcome.{Outcome}
use Rattle.program_call.specs.Call.{Input}
use Rattle.program_call.specs.declared.input.FrontFault.{FrontFault}
use Rattle.program_call.specs.Given.{IsFrontFault, ReadsImage, ReadsAsAsked}
use Rattle.program_call.specs.Outcomes.{IsEmpty, closed_of}
use Rattle.fractal_sim.specs.Given.{Generates, front}
use Rattle.fractal_sim.specs.Runs.{IsReported, RunsRead}
use Rattle.fractal_sim.specs.Checks.{IsAcceptedReport, IsRefusedReport, IsNoScript}
use Rattle.fractal_sim.specs.Texts.{end_status, played_status, journal_fault_line, script_fault_line}
use Rattle.fractal_sim.specs.Texts.{accepted_line, nested_line, tasks_line, run_text, load_text, played_text}
use Rattle.fractal_sim.specs.Deciding.{run_with_end, lists_of_traced, IsRunSo, IsStoppedSo, IsPlayedSo, IsTracedSo}

-- ---- why something was found

-- the arguments request a run, and this is one of the image that was read
pub record IsRan (input : Input) (image : ImageValue) (ran : Ran) (steps : Option ℕ) : Type 0 where
  pub request : Request
  pub bytes_behind : List ℕ
  pub given : ReadsImage front input request image bytes_behind
  pub command : RunsRead request.command
  pub made : IsRunSo image request.settings input.placers input.taps ran steps
  pub told : IfSome ran.end (IsReported request.command)

-- the arguments request a run that can be continued, and the image that was read was run to the commit limit
pub record IsStopped (input : Input) (ran : Ran) (steps : Option ℕ) (made : Saving) : Type 0 where
  pub request : Request
  pub image : ImageValue
  pub bytes_behind : List ℕ
  pub given : ReadsImage front input request image bytes_behind
  pub command : request.command ≡ Save
  pub stopped : IsStoppedSo image request.settings input.placers input.taps ran steps made

-- the arguments request the run of a generated image, and this is one
pub record IsLoaded (input : Input) (load : Loading) (image : ImageValue) (ran : Ran) (steps : Option ℕ) : Type 0 where
  pub request : Request
  pub given : Generates input request load.load load.seed load.size image
  pub made : IsRunSo image request.settings input.placers input.taps ran steps

-- the arguments request that a script is played, and this is the result of the one after the image that was read
pub record IsPlayed (input : Input) (image : ImageValue) (played : Played) : Type 0 where
  pub request : Request
  pub bytes_behind : List ℕ
  pub given : ReadsImage front input request image bytes_behind
  pub command : request.command ≡ Steps
  pub made : IsPlayedSo request image bytes_behind input.placers input.taps played

-- the arguments request what the taps see, and this is the result of the script after the image that was read
pub record IsTraced (input : Input) (traced : Traced) : Type 0 where
  pub request : Request
  pub image : ImageValue
  pub bytes_behind : List ℕ
  pub given : ReadsImage front input request image bytes_behind
  pub command : request.command ≡ Trace
  pub made : IsTracedSo request image bytes_behind input.placers input.taps traced

-- why something was found
abbrev pub IsFound : Input → Finding → Type 0
IsFound input finding.Memory = ReadsAsAsked front input
IsFound input (finding.Refused line) = IsRefusedReport input line
IsFound input (finding.NoScript line) = IsNoScript input line
IsFound input (finding.Accepted closed) = (image : ImageValue) × IsAcceptedReport input image closed
IsFound input (finding.Ran image ran steps) = IsRan input image ran steps
IsFound input (finding.Stopped ran steps made) = IsStopped input ran steps made
IsFound input (finding.Loaded load image ran steps) = IsLoaded input load image ran steps
IsFound input (finding.Played image played) = IsPlayed input image played
IsFound input (finding.Traced traced) = IsTraced input traced

-- why it was, or why the call finds no image
abbrev pub IsFoundOrFault : Input → Result Finding FrontFault → Type 0
IsFoundOrFault input found = MatchResult found (IsFound input) (IsFrontFault front input)

-- ---- how it is reported

-- the status of a run: 5 where it has no end
abbrev pub status_by : (End → ℕ) → Option End → ℕ
status_by status None = 5
status_by status (Some end) = status end

-- the status of what was made of a run that can be continued
abbrev pub saving_status : Saving → ℕ
saving_status (saving.Bytes bytes) = 4
saving_status (saving.Nested depth) = 12
saving_status (saving.TooMany count) = 13

-- the text of what was made of a run that can be continued: the bytes of the image, or the line that says why there is
-- none
abbrev pub saving_text : Saving → List ℕ
saving_text (saving.Bytes bytes) = bytes.items
saving_text (saving.Nested depth) = nested_line depth
saving_text (saving.TooMany count) = tasks_line count

-- the status of what was found
abbrev pub status_of : Finding → ℕ
status_of finding.Memory = 5
status_of (finding.Refused line) = 8
status_of (finding.NoScript line) = 9
status_of (finding.Accepted closed) = 0
status_of (finding.Ran image ran steps) = status_by end_status ran.end
status_of (finding.Stopped ran steps made) = saving_status made
status_of (finding.Loaded load image ran steps) = status_by end_status ran.end
status_of (finding.Played image played) = status_by played_status played.ran.end
status_of (finding.Traced traced) = status_by (λ end. 0) traced.ran.end

-- the text of what was found; none if memory ran out
abbrev pub text_of : Finding → Option (List ℕ)
text_of finding.Memory = None
text_of (finding.Refused line) = Some (journal_fault_line line)
text_of (finding.NoScript line) = Some (script_fault_line line)
text_of (finding.Accepted closed) = Some (accepted_line (length closed.journal))
text_of (finding.Ran image ran steps) = option_map (run_text image (run_with_end ran)) ran.end
text_of (finding.Stopped ran steps made) = Some (saving_text made)
text_of (finding.Loaded load image ran steps) =
    option_map (load_text load.load load.seed load.size image (run_with_end ran)) ran.end
text_of (finding.Played image played) =
    option_map (played_text played.said.items image (run_with_end played.ran)) played.ran.end
text_of (finding.Traced traced) = option_map (λ end. trace_text (lists_of_traced traced)) traced.ran.end

-- the outcome holds this run, and this count of the events that made it
pub record HoldsRun (run : SerialRun) (steps : Option ℕ) (o : Outcome) : Type 0 where
  pub run_is : closed_of o ≡ run
  pub steps_is : o.steps ≡ steps

-- what an outcome keeps of what was found
abbrev pub OutcomeKeeps : Finding → Outcome → Type 0
OutcomeKeeps (finding.Accepted closed) o = HoldsRun closed None o
OutcomeKeeps (finding.Ran image ran steps) o = HoldsRun (run_with_end ran) steps o
OutcomeKeeps (finding.Stopped ran steps made) o = HoldsRun (run_with_end ran) steps o
OutcomeKeeps (finding.Loaded load image ran steps) o = HoldsRun (run_with_end ran) steps o
OutcomeKeeps (finding.Played image played) o = HoldsRun (run_with_end played.ran) (Some played.ran.closed.steps) o
OutcomeKeeps (finding.Traced traced) o = HoldsRun (run_with_end traced.ran) (Some traced.ran.closed.steps) o
OutcomeKeeps other o = IsEmpty o

-- the memory that the run left is as large as the image's data, so that the window lies in it
abbrev pub HasWindow : ImageValue → Ran → Type 0
HasWindow image ran = length ran.closed.memory ≡ image.data_size

-- what was found can be written: the window lies in the memory
abbrev pub IsWritable : Finding → Type 0
IsWritable (finding.Ran image ran steps) = HasWindow image ran
IsWritable (finding.Loaded load image ran steps) = HasWindow image ran
IsWritable (finding.Played image played) = HasWindow image played.ran
IsWritable other = Unit {0}

-- the sink took this text, or was left alone where there is none
abbrev pub TakesText : SinkState → SinkState → Option (List ℕ) → Type 0
TakesText old new None = new ≡ old
TakesText old new (Some text) = SinkTakes old new text

-- the text was written and the status answered, or the sink failed on it (7)
pub record TellsFinding (found : Finding) (old new : SinkState) (o : Outcome) : Type 0 where
  pub kept : OutcomeKeeps found o
  pub told : o.status ≢ 7 → (o.status ≡ status_of found) × TakesText old new (text_of found)
  pub failed : o.status ≡ 7 → Rose old.faults new.faults × IsSomeAnd (text_of found) (TakesFront old new)

-- the text was written and the status answered, or the sink failed on it (7); the outcome holds this run
pub record TellsStopped (status : ℕ) (text : List ℕ) (ran : Ran) (steps : Option ℕ) (old new : SinkState) (o : Outcome)
    : Type 0 where
  pub kept : HoldsRun (run_with_end ran) steps o
  pub told : o.status ≢ 7 → (o.status ≡ status) × SinkTakes old new text
  pub failed : o.status ≡ 7 → Rose old.faults new.faults × TakesFront old new text
