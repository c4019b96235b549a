-- The event for the least task is made, memory aside.
use Rattle.std.proofs.Common.{◌≢◌, ℕ, refl}
use Rattle.guest_image.specs.ImageValue.{ImageValue}
use Rattle.watch_counts.specs.spec_law.Sound.{Sound}
use Rattle.watch_counts.specs.event_def.declared.event.Event.{Event}
use Rattle.watch_counts.specs.event_def.declared.event.Reply.{Reply}
use Rattle.watch_counts.specs.event_def.declared.event.Reply.TheVariants as replies
use Rattle.watch_counts.specs.event_def.Advancing.{IsNextEvent}
use Rattle.watch_counts.specs.event_def.Book.{BookView}
use Rattle.watch_counts.specs.event_def.Happens.{Happens, IsMade}
use Rattle.watch_counts.proofs.Below.event_law.Proved.{least_event_is_granted}

module _ (N : Type 0) (image : ImageValue) (old new : BookView) (aborted : ℕ) (sound : Sound image old.view) where
  -- the event for the least task was made
  pub made_of : (e : Event N) → IsNextEvent image old.view e → (reply : Reply) → reply ≢ replies.Memory
      → Happens old e reply aborted new → IsMade old e aborted new
  made_of e next replies.Ok there happens = happens
  made_of e next replies.Memory there happens = absurd (there refl)
  made_of e next replies.Empty there happens =
      absurd (least_event_is_granted N image old e sound next replies.Empty happens.refused.cause)
  made_of e next replies.Busy there happens =
      absurd (least_event_is_granted N image old e sound next replies.Busy happens.refused.cause)
  made_of e next replies.Stall there happens =
      absurd (least_event_is_granted N image old e sound next replies.Stall happens.refused.cause)
  made_of e next replies.Stale there happens =
      absurd (least_event_is_granted N image old e sound next replies.Stale happens.refused.cause)
  made_of e next replies.Firm there happens =
      absurd (least_event_is_granted N image old e sound next replies.Firm happens.refused.cause)
  made_of e next replies.Ended there happens =
      absurd (least_event_is_granted N image old e sound next replies.Ended happens.refused.cause)
