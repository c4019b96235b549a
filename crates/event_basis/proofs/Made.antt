-- A granted event that is made leaves a sound view.
use Rattle.std.proofs.Common.{ℕ, ◌≡◌, List}
use Rattle.guest_image.specs.ImageValue.{ImageValue}
use Rattle.place_policy.specs.Policy.{Policy}
use Rattle.event_law.specs.spec_state.View.{View}
use Rattle.event_law.specs.spec_law.Sound.{Sound}
use Rattle.event_law.specs.event_def.declared.event.Event.{Event}
use Rattle.event_law.specs.event_def.Book.{BookView}
use Rattle.event_law.specs.event_def.Causes.{IsGranted}
use Rattle.event_law.specs.event_def.Events.{IsGiven, Makes}
use Rattle.event_law.proofs.Proved.{makes_leads}
use Rattle.event_basis.specs.Laws.{MadeIsSound}

-- a granted event that is made leaves a sound view
pub makes_stays_sound : (N : Type 0) → MadeIsSound N
makes_stays_sound N image old event aborted new placers given sound granted makes =
    (makes_leads image old sound aborted new placers N event given granted makes).now

-- with the settings as they were
pub makes_keeps_settings : (N : Type 0) (image : ImageValue) (old : BookView) (event : Event N) (aborted : ℕ) (new : View) (placers : List Policy)
    → IsGiven image old.view.settings event → Sound image old.view → IsGranted old event
    → Makes old event aborted new placers
    → new.settings ≡ old.view.settings
makes_keeps_settings N image old event aborted new placers given sound granted makes =
    (makes_leads image old sound aborted new placers N event given granted makes).settings
