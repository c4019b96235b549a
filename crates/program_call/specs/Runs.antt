-- Which run an outcome may hold.
use Rattle.std.specs.Prelude.{◌⊎◌}
use Rattle.guest_image.specs.ImageValue.{ImageValue}
use Rattle.run_law.specs.Laws.{AreLawful}
use Rattle.run_law.specs.serial_machine.WholeRun.{IsRunOf}
use Rattle.program_call.specs.declared.outcome.Outcome.{Outcome}
use Rattle.program_call.specs.Call.{Input}
use Rattle.program_call.specs.Front.{Front}
use Rattle.program_call.specs.Outcomes.{IsEmpty, closed_of}

module _ (front : Front) (HasImage : Input → front.Asked → ImageValue → Type 0) (image : ImageValue) where
  -- the outcome has a run of this image, which the arguments ask for, within their limits
  pub record HoldsRunOfInput (input : Input) (o : Outcome) : Type 0 where
    pub asked : front.Asked
    pub given : HasImage input asked image
    pub run : IsRunOf image (front.commits asked) (front.budget asked) (closed_of o)

  -- the outcome is empty, or has a run of this image
  abbrev pub HoldsRunOrNothing : Input → Outcome → Type 0
  HoldsRunOrNothing input o = IsEmpty o ⊎ HoldsRunOfInput input o

  -- whatever run of this image the outcome has, it meets the laws of runs
  abbrev pub HoldsLawfulRun : Input → Outcome → Type 0
  HoldsLawfulRun input o =
      (h : HoldsRunOfInput input o) → AreLawful image (front.budget h.asked) o.journal h.run.state
