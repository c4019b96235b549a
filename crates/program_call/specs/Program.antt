-- What an answer of a program means, whatever the program does with an image.
use Rattle.std.specs.Prelude.{◌≡◌, ◌⊎◌, ℕ, List}
use Rattle.sim_io.specs.Parts.{SinkTakes}
use Rattle.guest_image.specs.ImageValue.{ImageValue}
use Rattle.program_call.specs.declared.outcome.Outcome.{Outcome}
use Rattle.program_call.specs.Answers.{IsRefused, IsWantOfRun, TellsSinkFault, TellsSourceFault}
use Rattle.program_call.specs.Call.{Call, Input, IsFaultless}
use Rattle.program_call.specs.Complete.{IsDueAtFront, IsKnown}
use Rattle.program_call.specs.Front.{Front}
use Rattle.program_call.specs.Outcomes.{IsEmpty}
use Rattle.program_call.specs.Runs.{HoldsLawfulRun, HoldsRunOrNothing}

-- a program: its front; which image its arguments ask for; which status and which text report what it found with an
-- image; what it leaves if memory runs out after the beginning of a run of it; of which texts a sink that failed may
-- have taken a part; and which statuses are due to arguments and to all bytes of the input
pub record Program : Type 1 where
  pub front : Front
  pub HasImage : Input → front.Asked → ImageValue → Type 0
  pub IsAnswer : ImageValue → Input → Outcome → ℕ → List ℕ → Type 0
  pub IsWantOnTheWay : ImageValue → Call → Outcome → Type 0
  pub IsCutText : ImageValue → Input → Outcome → List ℕ → Type 0
  pub IsDueBehind : List (List ℕ) → List ℕ → ℕ → Type 0

-- ---- what an answer reports, of one image

module _ (program : Program) (image : ImageValue) where
  -- this status and this text report what was found: that the call is refused, or what the program found with the image
  abbrev pub IsToldBy : Input → Outcome → ℕ → List ℕ → Type 0
  IsToldBy input o status text =
      (IsEmpty o × IsRefused program.front input status text) ⊎ program.IsAnswer image input o status text

  -- a sink that failed may have taken a part of this text
  abbrev pub IsCut : Input → Outcome → List ℕ → Type 0
  IsCut input o text =
      ((status : ℕ) × IsEmpty o × IsRefused program.front input status text) ⊎ program.IsCutText image input o text

  -- memory ran out (5), before a run was begun or after that
  pub record TellsWant (call : Call) (o : Outcome) : Type 0 where
    pub status_is : o.status ≡ 5
    pub want : IsWantOfRun program.front call o ⊎ program.IsWantOnTheWay image call o

  -- the status reports what was found, and the sink took the text that reports it and no other byte
  pub record TellsAnswer (call : Call) (o : Outcome) : Type 0 where
    pub text : List ℕ
    pub answer : IsToldBy call.input o o.status text
    pub took : SinkTakes call.sink_before call.sink_after text

  -- what the status of an outcome means for the call
  abbrev pub TellsOutcome : Call → Outcome → Type 0
  TellsOutcome call o =
      TellsWant call o ⊎ TellsSourceFault program.front call o ⊎ TellsSinkFault (IsCut call.input o) call o
      ⊎ TellsAnswer call o

-- ---- which answer is due

module _ (program : Program) where
  -- the status that is due to arguments and to all bytes of the input
  abbrev pub IsDue : List (List ℕ) → List ℕ → ℕ → Type 0
  IsDue words bytes status = IsDueAtFront program.front words bytes status ⊎ program.IsDueBehind words bytes status

  -- if nothing failed, and the source reports its bytes or the arguments need none, the status is one that is due, or 5
  -- if memory ran out
  abbrev pub IsComplete : Call → Outcome → Type 0
  IsComplete call o = (bytes : List ℕ) → IsKnown program.front call.input bytes → IsFaultless call
      → (o.status ≡ 5) ⊎ IsDue call.input.words bytes o.status

-- ---- answers

module _ (program : Program) where
  -- An outcome answers a call. Of one image (any, if the outcome is empty): the outcome is empty or has a run of it,
  -- which meets the laws of runs; the status reports what was found with it, and the sink took the text that reports
  -- it, or the status says what failed. And if no device failed, the status is one that is due, or 5 if memory ran out.
  pub record Answers (call : Call) (o : Outcome) : Type 0 where
    pub image : ImageValue
    pub run : HoldsRunOrNothing program.front program.HasImage image call.input o
    pub laws : HoldsLawfulRun program.front program.HasImage image call.input o
    pub told : TellsOutcome program image call o
    pub complete : IsComplete program call o
