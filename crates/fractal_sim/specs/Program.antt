-- What an answer of the program means for its call: what holds of either program, and what made the run.
use Rattle.program_call.specs.declared.outcome.Outcome.{Outcome}
use Rattle.program_call.specs.Call.{Call}
use Rattle.program_call.specs.Program.{Answers, Program}
use Rattle.fractal_sim.specs.Answers.{HoldsRunSoFar, IsAnswer, IsCutAnswer}
use Rattle.fractal_sim.specs.Complete.{IsDueBehind}
use Rattle.fractal_sim.specs.Given.{HasImage, front}
use Rattle.fractal_sim.specs.Runs.{CountsEvents}

-- the program: what it does with an image
abbrev pub program : Program
program = record {
  front = front;
  HasImage = HasImage;
  IsAnswer = IsAnswer;
  IsWantOnTheWay = HoldsRunSoFar;
  IsCutText = IsCutAnswer;
  IsDueBehind = IsDueBehind;
}

-- a call is answered as this program does, and the count (`steps`) is of the events that made the run of that image
pub record AnswersAndCounts (call : Call) (o : Outcome) : Type 0 where
  pub answers : Answers program call o
  pub steps : CountsEvents answers.image call.input o
