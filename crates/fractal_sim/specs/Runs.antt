-- Which run an outcome holds, and which events made it. `Brand` is the naming under which the program's runs are made.
use Rattle.std.specs.Prelude.{◌≡◌, ◌≢◌, ℕ, List, Some, None, Ok, IfSome}
use Rattle.std.specs.declared.marker.Brand.{Brand}
use Rattle.guest_image.specs.ImageValue.{ImageValue}
use Rattle.run_journal.specs.declared.end.End.{End}
use Rattle.run_journal.specs.declared.end.End.TheVariants as ends
use Rattle.machine_run.specs.serial_machine.WholeRun.{IsRunOf}
use Rattle.machine_run.specs.serial_machine.declared.whole_run.SerialRun.{SerialRun}
use Rattle.load_gen.specs.declared.making.Load.{Load}
use Rattle.machine_run.specs.step_script.declared.act.Act.{Act}
use Rattle.machine_run.specs.step_script.declared.saying.Said.{Said}
use Rattle.machine_run.specs.step_script.Grammar.{acts_of}
use Rattle.machine_run.specs.Least.{IsLeastRun}
use Rattle.machine_run.specs.Played.{IsPlayedInPart, IsPlayedRun, IsTracedRun}
use Rattle.command_line.specs.declared.request.Command.{Command}
use Rattle.command_line.specs.declared.request.Command.TheVariants as commands
use Rattle.command_line.specs.declared.request.Request.{Request}
use Rattle.command_line.specs.Requests.{request_of_words}
use Rattle.machine_run.specs.spec_state.declared.pending.Pending.{Pending}
use Rattle.machine_run.specs.spec_state.Pendings.{RunLeaves}
use Rattle.program_call.specs.declared.outcome.Outcome.{Outcome}
use Rattle.program_call.specs.Call.{Input}
use Rattle.program_call.specs.Given.{ReadsImage}
use Rattle.program_call.specs.Outcomes.{IsEmpty, closed_of}
use Rattle.fractal_sim.specs.Given.{Generates, HasImage, front}

-- ---- commands

-- the command runs an image to its end
abbrev pub RunsImage : Command → Type 0
RunsImage commands.Run = Unit {0}
RunsImage commands.Save = Unit {0}
RunsImage (commands.Load load seed size) = Unit {0}
RunsImage other = ⊥

-- the command plays a script
abbrev pub PlaysScript : Command → Type 0
PlaysScript commands.Steps = Unit {0}
PlaysScript commands.Trace = Unit {0}
PlaysScript other = ⊥

-- the outcome has the count of the run's events: for a script always, and for an image without workers
abbrev pub Counts : (workers : ℕ) → Command → Type 0
Counts workers commands.Run = workers ≡ 0
Counts workers commands.Save = workers ≡ 0
Counts workers (commands.Load load seed size) = workers ≡ 0
Counts workers commands.Steps = Unit {0}
Counts workers commands.Trace = Unit {0}
Counts workers commands.Check = ⊥

-- the command runs the image that is read
abbrev pub RunsRead : Command → Type 0
RunsRead commands.Run = Unit {0}
RunsRead commands.Save = Unit {0}
RunsRead other = ⊥

-- a run of the image that is read, to this end, has a report as its text: of `save` each but one to the commit limit
abbrev pub IsReported : Command → End → Type 0
IsReported commands.Run end = end ≢ ends.Unfinished
IsReported commands.Save end = (end ≢ ends.Unfinished) × (end ≢ ends.Limit)
IsReported other end = ⊥

-- ---- runs to an end

-- the arguments request a run, and the image that was read was run to this end, of which a report is written
pub record RunsToEnd (input : Input) (image : ImageValue) (end : End) (run : SerialRun) : Type 0 where
  pub request : Request
  pub bytes_behind : List ℕ
  pub given : ReadsImage front input request image bytes_behind
  pub told : IsReported request.command end
  pub is_run : IsRunOf image request.settings.commits request.settings.budget run
  pub end_is : run.end ≡ Some end

-- the arguments request a run that can be continued, and the image that was read was run to the commit limit, with
-- these tasks pending
pub record StopsAtLimit (input : Input) (image : ImageValue) (pendings : List Pending) (run : SerialRun) : Type 0 where
  pub request : Request
  pub bytes_behind : List ℕ
  pub given : ReadsImage front input request image bytes_behind
  pub command : request.command ≡ commands.Save
  pub is_run : IsRunOf image request.settings.commits request.settings.budget run
  pub end_is : run.end ≡ Some ends.Limit
  pub left : RunLeaves image request.settings.budget run.journal run.memory run.output pendings

-- the arguments request the run of a generated image, which was run to this end
pub record LoadsToEnd (input : Input) (load : Load) (seed size : ℕ) (image : ImageValue) (end : End) (run : SerialRun)
    : Type 0 where
  pub request : Request
  pub given : Generates input request load seed size image
  pub is_run : IsRunOf image request.settings.commits request.settings.budget run
  pub end_is : run.end ≡ Some end
  pub over : end ≢ ends.Unfinished

-- the text after the image is this script, for the machine of these settings
abbrev pub IsScript : Request → List ℕ → List Act → Type 0
IsScript request rest script = acts_of rest request.settings.tiles request.settings.cores ≡ Ok script

-- the arguments request that a script is played, and the one after the image that was read was played with these
-- replies, up to this end
pub record PlaysToEnd (input : Input) (image : ImageValue) (said : List Said) (end : End) (o : Outcome) : Type 0 where
  pub request : Request
  pub bytes_behind : List ℕ
  pub given : ReadsImage front input request image bytes_behind
  pub command : request.command ≡ commands.Steps
  pub script : List Act
  pub script_is : IsScript request bytes_behind script
  pub events : ℕ
  pub steps_is : o.steps ≡ Some events
  pub played : IsPlayedRun Brand image request.settings script input.placers input.taps said events end (closed_of o)
  pub is_run : IsRunOf image request.settings.commits request.settings.budget (closed_of o)

-- the arguments request what the taps see, and the script after the image that was read was played, after which the
-- taps have these lists
pub record TracesToEnd (input : Input) (image : ImageValue) (lists : List (List ℕ)) (end : End) (o : Outcome)
    : Type 0 where
  pub request : Request
  pub bytes_behind : List ℕ
  pub given : ReadsImage front input request image bytes_behind
  pub command : request.command ≡ commands.Trace
  pub script : List Act
  pub script_is : IsScript request bytes_behind script
  pub events : ℕ
  pub steps_is : o.steps ≡ Some events
  pub traced : IsTracedRun Brand image request.settings script input.placers input.taps lists events end (closed_of o)
  pub is_run : IsRunOf image request.settings.commits request.settings.budget (closed_of o)

-- ---- events

-- so many events made the run: those of the least tasks of an image that is run without workers, those of the script
-- after an image, or those of as much of this script as memory allowed
pub data IsRunMadeBy (input : Input) (request : Request) (image : ImageValue) (events : ℕ)
    (run : SerialRun) : Type 0 where
  ByLeast : RunsImage request.command → request.settings.workers ≡ 0 → HasImage input request image
      → IsLeastRun Brand image request.settings input.placers input.taps events run
      → IsRunMadeBy input request image events run
  ByScript : (bytes_behind : List ℕ) (script : List Act) (said : List Said) (end : End) → PlaysScript request.command
      → ReadsImage front input request image bytes_behind → IsScript request bytes_behind script
      → IsPlayedRun Brand image request.settings script input.placers input.taps said events end run
      → IsRunMadeBy input request image events run
  ByPart : (bytes_behind : List ℕ) (script : List Act) → PlaysScript request.command
      → ReadsImage front input request image bytes_behind → IsScript request bytes_behind script
      → IsPlayedInPart Brand image request.settings script input.placers input.taps events run
      → IsRunMadeBy input request image events run

-- so many events made the run of this image, which the arguments ask for, with the placers and taps that were given
pub record MakesRun (image : ImageValue) (input : Input) (events : ℕ) (run : SerialRun) : Type 0 where
  pub request : Request
  pub asked : request_of_words input.words ≡ Some request
  pub made : IsRunMadeBy input request image events run

-- if a count is reported, so many events made the run of this image that the outcome has; if the arguments ask for a
-- run that is reported with its count, an outcome without one is empty
pub record CountsEvents (image : ImageValue) (input : Input) (o : Outcome) : Type 0 where
  pub made : IfSome o.steps (λ events. MakesRun image input events (closed_of o))
  pub told : (request : Request) → request_of_words input.words ≡ Some request
      → Counts request.settings.workers request.command
      → o.steps ≡ None → IsEmpty o
