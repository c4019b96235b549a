-- Texts after an image: reports that are checked, and texts that aren't scripts.
use Rattle.std.specs.Prelude.{◌≡◌, ℕ, List, Some, Ok, Err}
use Rattle.std.specs.declared.option.Option.{Option}
use Rattle.guest_image.specs.ImageValue.{ImageValue}
use Rattle.machine_run.specs.serial_machine.declared.fault.TurnFault.{TurnFault}
use Rattle.machine_run.specs.serial_machine.declared.whole_run.SerialRun.{SerialRun}
use Rattle.machine_run.specs.serial_machine.WholeRun.{IsRunOf}
use Rattle.script_text.specs.report_text.declared.report.Report.{Report}
use Rattle.script_text.specs.report_text.declared.verdict.Verdict.TheVariants as verdicts
use Rattle.script_text.specs.report_text.Grammar.{report_of}
use Rattle.script_text.specs.report_text.Check.{IsReportOf, IsVerdict}
use Rattle.machine_run.specs.step_script.Grammar.{acts_of}
use Rattle.command_line.specs.declared.request.Command.TheVariants.{Check}
use Rattle.command_line.specs.declared.request.Request.{Request}
use Rattle.program_call.specs.Call.{Input}
use Rattle.program_call.specs.Given.{ReadsImage}
use Rattle.fractal_sim.specs.Given.{front}
use Rattle.fractal_sim.specs.Runs.{PlaysScript}

-- the first wrong line of a report after the image: the first outside the grammar, or else the first that isn't the
-- run's
pub data IsWrongLine (image : ImageValue) (request : Request) (rest : List ℕ) : ℕ → Type 0 where
  Outside : {line : ℕ} → report_of rest ≡ Err line → IsWrongLine image request rest line
  Illegal : {line : ℕ} → (report : Report) (why : Option TurnFault) → report_of rest ≡ Ok report
      → IsVerdict image request.settings.commits request.settings.budget report (verdicts.Illegal line why)
      → IsWrongLine image request rest line

-- the arguments ask for a check, and the report after this image is accepted; this is its run
pub record IsAcceptedReport (input : Input) (image : ImageValue) (closed : SerialRun) : Type 0 where
  pub request : Request
  pub bytes_behind : List ℕ
  pub report : Report
  pub given : ReadsImage front input request image bytes_behind
  pub command : request.command ≡ Check
  pub report_is : report_of bytes_behind ≡ Ok report
  pub accepted : IsReportOf image request.settings.commits request.settings.budget report
  pub run : IsRunOf image request.settings.commits request.settings.budget closed
  pub journal_is : closed.journal ≡ report.journal
  pub end_is : closed.end ≡ Some report.end

-- the arguments request a check, and the report after the image is refused at a line
pub record IsRefusedReport (input : Input) (line : ℕ) : Type 0 where
  pub request : Request
  pub image : ImageValue
  pub bytes_behind : List ℕ
  pub given : ReadsImage front input request image bytes_behind
  pub command : request.command ≡ Check
  pub wrong : IsWrongLine image request bytes_behind line

-- this is the first line of the text after the image that is outside the grammar of scripts, for the machine of these
-- settings
abbrev pub IsNoScriptAt : Request → List ℕ → ℕ → Type 0
IsNoScriptAt request rest line = acts_of rest request.settings.tiles request.settings.cores ≡ Err line

-- the arguments request that a script is played, and the text after the image is none, from this line on
pub record IsNoScript (input : Input) (line : ℕ) : Type 0 where
  pub request : Request
  pub image : ImageValue
  pub bytes_behind : List ℕ
  pub given : ReadsImage front input request image bytes_behind
  pub command : PlaysScript request.command
  pub wrong : IsNoScriptAt request bytes_behind line
