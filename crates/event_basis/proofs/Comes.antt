-- What comes of an event leaves a sound view.
use Rattle.std.proofs.Common.{List, sym, subst}
use Rattle.guest_image.specs.ImageValue.{ImageValue}
use Rattle.place_policy.specs.Policy.{Policy}
use Rattle.event_law.specs.spec_state.View.{View}
use Rattle.event_law.specs.spec_law.Sound.{Sound}
use Rattle.event_law.specs.event_def.declared.event.Came.{Came}
use Rattle.event_law.specs.event_def.declared.event.Came.TheVariants.{Made, Refused}
use Rattle.event_law.specs.event_def.declared.event.Event.{Event}
use Rattle.event_law.specs.event_def.declared.event.Reply.TheVariants as reply
use Rattle.event_law.specs.event_def.Book.{BookView}
use Rattle.event_law.specs.event_def.Comes.{Comes, IsAsBefore}
use Rattle.event_law.specs.event_def.Events.{IsGiven}
use Rattle.event_basis.proofs.Made.{makes_stays_sound}

module _ (N : Type 0) (image : ImageValue) (book : BookView) (e : Event N) (new : View) (placers : List Policy)
    (given : IsGiven image book.view.settings e) (sound : Sound image book.view) where
  -- a view that is as before is sound
  as_before : IsAsBefore book new placers → Sound image new
  as_before same = subst (Sound image) (sym same.0) sound

  -- whether the event was made or refused
  by_came : (came : Came) → Comes book e came new placers → Sound image new
  by_came (Made seen) comes = makes_stays_sound N image book e seen.aborted new placers given sound comes.0 comes.1
  by_came (Refused reply.Ok) comes = absurd comes
  by_came (Refused reply.Memory) comes = as_before comes.2
  by_came (Refused reply.Empty) comes = as_before comes.1
  by_came (Refused reply.Busy) comes = as_before comes.1
  by_came (Refused reply.Stall) comes = as_before comes.1
  by_came (Refused reply.Stale) comes = as_before comes.1
  by_came (Refused reply.Firm) comes = as_before comes.1
  by_came (Refused reply.Ended) comes = as_before comes.1

-- whatever comes of an event, from a sound view, the view is sound
pub comes_stays_sound : (N : Type 0) (image : ImageValue) (book : BookView) (e : Event N) (came : Came) (new : View)
    (placers : List Policy)
    → IsGiven image book.view.settings e → Sound image book.view → Comes book e came new placers → Sound image new
comes_stays_sound N image book e came new placers given sound comes =
    by_came N image book e new placers given sound came comes
