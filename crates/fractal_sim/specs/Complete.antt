-- The status that is due of what is found with an image, where nothing fails and memory is there.
use Rattle.std.specs.Prelude.{◌≡◌, ◌≢◌, ℕ, List, Some, Ok}
use Rattle.guest_image.specs.ImageValue.{ImageValue}
use Rattle.run_journal.specs.declared.end.End.{End}
use Rattle.run_journal.specs.declared.end.End.TheVariants as ends
use Rattle.load_gen.specs.declared.making.Load.{Load}
use Rattle.script_text.specs.report_text.declared.report.Report.{Report}
use Rattle.script_text.specs.report_text.Grammar.{report_of}
use Rattle.script_text.specs.report_text.Check.{IsReportOf}
use Rattle.machine_run.specs.step_script.declared.act.Act.{Act}
use Rattle.command_line.specs.declared.request.Command.TheVariants as commands
use Rattle.command_line.specs.declared.request.Request.{Request}
use Rattle.command_line.specs.Requests.{request_of_words}
use Rattle.program_call.specs.Complete.{BeginsWithImage}
use Rattle.fractal_sim.specs.Given.{front}
use Rattle.fractal_sim.specs.Checks.{IsNoScriptAt, IsWrongLine}
use Rattle.fractal_sim.specs.Runs.{IsReported, IsScript, PlaysScript}
use Rattle.fractal_sim.specs.Texts.{end_status, played_status}

-- the status that is due to arguments and to these bytes as the whole input; the end of a run follows from its journal
pub data IsDueBehind (words : List (List ℕ)) (bytes : List ℕ) : ℕ → Type 0 where
  Ended : (request : Request) (image : ImageValue) (rest : List ℕ) (end : End)
      → BeginsWithImage front words bytes request image rest → IsReported request.command end
      → IsDueBehind words bytes (end_status end)
  Saved : (request : Request) (image : ImageValue) (rest : List ℕ)
      → BeginsWithImage front words bytes request image rest → request.command ≡ commands.Save
      → IsDueBehind words bytes 4
  Nested : (request : Request) (image : ImageValue) (rest : List ℕ)
      → BeginsWithImage front words bytes request image rest → request.command ≡ commands.Save
      → IsDueBehind words bytes 12
  TooMany : (request : Request) (image : ImageValue) (rest : List ℕ)
      → BeginsWithImage front words bytes request image rest → request.command ≡ commands.Save
      → IsDueBehind words bytes 13
  Loaded : (request : Request) (load : Load) (seed size : ℕ) (end : End) → request_of_words words ≡ Some request
      → request.command ≡ commands.Load load seed size → end ≢ ends.Unfinished
      → IsDueBehind words bytes (end_status end)
  Played : (request : Request) (image : ImageValue) (rest : List ℕ) (script : List Act) (end : End)
      → BeginsWithImage front words bytes request image rest → request.command ≡ commands.Steps
      → IsScript request rest script → IsDueBehind words bytes (played_status end)
  Traced : (request : Request) (image : ImageValue) (rest : List ℕ) (script : List Act)
      → BeginsWithImage front words bytes request image rest → request.command ≡ commands.Trace
      → IsScript request rest script → IsDueBehind words bytes 0
  NoScript : (request : Request) (image : ImageValue) (rest : List ℕ) (line : ℕ)
      → BeginsWithImage front words bytes request image rest → PlaysScript request.command
      → IsNoScriptAt request rest line → IsDueBehind words bytes 9
  Checked : (request : Request) (image : ImageValue) (rest : List ℕ) (report : Report)
      → BeginsWithImage front words bytes request image rest → request.command ≡ commands.Check
      → report_of rest ≡ Ok report → IsReportOf image request.settings.commits request.settings.budget report
      → IsDueBehind words bytes 0
  Refused : (request : Request) (image : ImageValue) (rest : List ℕ) (line : ℕ)
      → BeginsWithImage front words bytes request image rest → request.command ≡ commands.Check
      → IsWrongLine image request rest line → IsDueBehind words bytes 8
