-- An advance leaves the settings as they are.
use Rattle.std.proofs.Common.{◌≡◌, ◌⊎◌, inl, inr, refl, ap, ℕ, true}
use Rattle.guest_image.specs.ImageValue.{ImageValue}
use Rattle.event_step.specs.spec_law.Sound.{Sound}
use Rattle.event_step.specs.event_def.declared.event.Advance.{Advance}
use Rattle.event_step.specs.event_def.declared.event.Advance.TheVariants as answers
use Rattle.event_step.specs.event_def.declared.event.Event.{Event}
use Rattle.event_step.specs.event_def.declared.event.Event.TheVariants as event
use Rattle.event_step.specs.event_def.declared.event.Reply.TheVariants as replies
use Rattle.event_step.specs.event_def.Advancing.{AdvanceAnswers, Advances, IsNextEvent}
use Rattle.event_step.specs.event_def.Book.{BookView}
use Rattle.event_step.specs.event_def.Happens.{Happens}
use Rattle.event_step.proofs.Below.event_law.Proved.{least_events_are_few}

one_settled : (N : Type 0) (image : ImageValue) (old new : BookView) (aborted : ℕ) → Sound image old.view
    → Advances N image old aborted new
    → new.view.settings ≡ old.view.settings
one_settled N image old new aborted sound made =
    let few = least_events_are_few N image 1 old new sound (old, aborted, refl, made) in few.settings

pub advance_settles : (N : Type 0) (image : ImageValue) (old new : BookView) (reply : Advance) → Sound image old.view
    → AdvanceAnswers N image old reply new → new.view.settings ≡ old.view.settings
advance_settles N image old new (answers.Ended end) sound h = ap (λ (b : BookView). b.view.settings) h.2
advance_settles N image old new answers.Committed sound h =
    one_settled N image old new 0 sound (record { event = event.Commit; next = h.0; happens = h.1 })
advance_settles N image old new (answers.Moved aborted) sound h =
    one_settled N image old new aborted sound (record { event = h.0; next = h.1; happens = h.3 })
advance_settles N image old new answers.Memory sound h = go h where
  go : ((old.stopped ≡ true) × (new ≡ old)) ⊎ ((event : Event N) × IsNextEvent image old.view event × Happens old event replies.Memory 0 new)
      → new.view.settings ≡ old.view.settings
  go (inl stopped) = ap (λ (b : BookView). b.view.settings) stopped.1
  go (inr refused) = ap (λ (b : BookView). b.view.settings) refused.2.1.same
