-- Two calls that were given the same.
use Rattle.std.specs.Prelude.{◌≡◌, ◌≢◌, ◌<◌, ℕ, List, length, Some}
use Rattle.guest_image.specs.ImageValue.{ImageValue}
use Rattle.run_journal.specs.declared.end.End.{End}
use Rattle.machine_run.specs.step_script.declared.saying.Said.{Said}
use Rattle.sim_io.specs.Parts.{SinkTakes}
use Rattle.command_line.specs.declared.request.Request.{Request}
use Rattle.command_line.specs.Requests.{request_of_words}
use Rattle.program_call.specs.declared.outcome.Outcome.{Outcome}
use Rattle.program_call.specs.Call.{Call, Input}
use Rattle.program_call.specs.Program.{TellsOutcome}
use Rattle.fractal_sim.specs.Program.{program}
use Rattle.fractal_sim.specs.Runs.{PlaysScript, PlaysToEnd}

-- both calls have equal arguments, placers and taps, and both sources have the same bytes, which are known
pub record AreGivenSame (call other : Call) : Type 0 where
  pub words : other.input.words ≡ call.input.words
  pub placers : other.input.placers ≡ call.input.placers
  pub taps : other.input.taps ≡ call.input.taps
  pub bytes : List ℕ
  pub has : call.input.source_before.left ≡ Some bytes
  pub other_has : other.input.source_before.left ≡ Some bytes

-- memory was there (not 5), and neither the source (6) nor the sink (7) failed
pub record EndsWell (o : Outcome) : Type 0 where
  pub memory : o.status ≢ 5
  pub source : o.status ≢ 6
  pub sink : o.status ≢ 7

-- both outcomes are one, and each sink took one text and no other byte
pub record AnswerSame (call other : Call) (o other_o : Outcome) : Type 0 where
  pub outcome : other_o ≡ o
  pub text : List ℕ
  pub took : SinkTakes call.sink_before call.sink_after text
  pub other_took : SinkTakes other.sink_before other.sink_after text

-- the arguments request that a script is played, for its replies or for what the taps see
pub record AskForScript (words : List (List ℕ)) : Type 0 where
  pub request : Request
  pub asked : request_of_words words ≡ Some request
  pub plays : PlaysScript request.command

-- two calls that play a script and are given the same answer the same, if both end well
abbrev pub ScriptCallsAreOne : Type 0
ScriptCallsAreOne = (call other : Call) (o other_o : Outcome) (image other_image : ImageValue)
    → AskForScript call.input.words → AreGivenSame call other
    → TellsOutcome program image call o → TellsOutcome program other_image other other_o
    → EndsWell o → EndsWell other_o → AnswerSame call other o other_o

-- a script with an act was played, behind the image that was read
pub record PlaysAnAct (image : ImageValue) (input : Input) (o : Outcome) : Type 0 where
  pub said : List Said
  pub end : End
  pub played : PlaysToEnd input image said end o
  pub some : 0 < length played.script

-- a call that plays a script and ends well, whose outcome this is, and which was given the same as itself
pub record EndsWellOnce (image : ImageValue) (call : Call) (o : Outcome) : Type 0 where
  pub asks : AskForScript call.input.words
  pub same : AreGivenSame call call
  pub plays : PlaysAnAct image call.input o
  pub tells : TellsOutcome program image call o
  pub well : EndsWell o

-- there are calls that play a script with an act, and meet all premises of the law
abbrev pub ScriptCallsEndWell : Type 0
ScriptCallsEndWell = (image : ImageValue) × (call : Call) × (o : Outcome) × EndsWellOnce image call o
