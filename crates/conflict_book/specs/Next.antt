-- What comes next of a run.
use Rattle.std.specs.Prelude.{◌≡◌, List}
use Rattle.guest_image.specs.ImageValue.{ImageValue}
use Rattle.place_policy.specs.Policy.{Policy}
use Rattle.event_step.specs.spec_state.Effects.{EffectValue, nothing}
use Rattle.event_step.specs.spec_state.View.{View}
use Rattle.event_step.specs.event_def.Book.{BookView}
use Rattle.event_step.specs.event_def.Comes.{IsAsBefore}
use Rattle.event_step.specs.event_def.End.{HasEnd}
use Rattle.conflict_book.specs.declared.advancing.NextEvent.{NextEvent}
use Rattle.conflict_book.specs.declared.advancing.NextEvent.TheVariants.{Over, Came}
use Rattle.conflict_book.specs.Halting.{NextComes}

-- the run is over and ended so, nothing changes, and nothing is reported; or this is the outcome of the event for the
-- least task
abbrev pub ComesNext : Type 0 → ImageValue → BookView → NextEvent → View → List Policy → EffectValue → Type 0
ComesNext N image book (Over end) new placers effect =
    HasEnd book.view end × IsAsBefore book new placers × (effect ≡ nothing)
ComesNext N image book (Came came) new placers effect = NextComes N image book came new placers effect
