-- The program: what it does with an image. What an answer says of its call is said of both programs.
use Rattle.program_call.specs.Program.{Program}
use Rattle.fractal_watch.specs.Answers.{IsAnswer, IsCutText, IsWantOnTheWay}
use Rattle.fractal_watch.specs.Complete.{IsDueBehind}
use Rattle.fractal_watch.specs.Given.{HasImage, front}

-- the program, whose runs are made under a naming
abbrev pub program : Type 0 → Program
program N = record {
  front = front;
  HasImage = HasImage;
  IsAnswer = IsAnswer N;
  IsWantOnTheWay = IsWantOnTheWay N;
  IsCutText = IsCutText N;
  IsDueBehind = IsDueBehind;
}
