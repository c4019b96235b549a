-- A moment does its act, as a script that is played does.
use Rattle.std.proofs.Common.{◌≡◌, ◌≢◌, ℕ, false, Some, refl, sym, subst}
use Rattle.guest_image.specs.ImageValue.{ImageValue}
use Rattle.watch_counts.specs.spec_law.Sound.{Sound}
use Rattle.watch_counts.specs.event_def.declared.event.Advance.TheVariants as answers
use Rattle.watch_counts.specs.event_def.declared.event.Event.{Event}
use Rattle.watch_counts.specs.event_def.declared.event.Event.TheVariants as event
use Rattle.watch_counts.specs.event_def.declared.event.Reply.{Reply}
use Rattle.watch_counts.specs.event_def.declared.event.Reply.TheVariants as replies
use Rattle.watch_counts.specs.event_def.Advancing.{IsNextEvent}
use Rattle.watch_counts.specs.event_def.Happens.{Happens}
use Rattle.watch_counts.proofs.Below.event_law.Proved.{least_event_is_granted}
use Rattle.watch_counts.specs.step_script.declared.act.Act.{Act}
use Rattle.watch_counts.specs.step_script.declared.act.Act.TheVariants as acts
use Rattle.watch_counts.specs.step_script.declared.saying.Word.TheVariants as words
use Rattle.watch_counts.specs.step_script.Playing.{Does, DoesAdvance, PlayState}
use Rattle.watch_counts.specs.step_script.Asking.{Attempt, AsksAdvance, AsksFor, ComesOf, Hands, Says}
use Rattle.watch_counts.specs.step_script.Asking as asking
use Rattle.watch_counts.proofs.Below.step_script.Proved.{HasCome, does_other, said}
use Rattle.watch_counts.specs.watch_text.Moments.{IsMoment, Moment}
use Rattle.watch_play.specs.Replies.{MomentDoes, advance_word, word_by}

-- an advance, and what is said of it
abbrev Advanced : (N : Type 0) → ImageValue → PlayState → PlayState → ℕ → Attempt N → Reply → Type 0
Advanced N image before after aborted asks reply =
    DoesAdvance N image before (record { word = advance_word asks reply; aborted = aborted }) after

-- the event for the least task
module _ (N : Type 0) (image : ImageValue) (before after : PlayState) (aborted : ℕ)
    (sound : Sound image before.book.view)
    (held : after.held ≡ before.held) where
  -- was made
  next_made : (e : Event N) → IsNextEvent image before.book.view e → Happens before.book e replies.Ok aborted after.book
      → Advanced N image before after aborted (Hands e) replies.Ok
  next_made event.Commit next happens =
      let none : aborted ≡ 0 = happens.makes.1 in record {
        answer = answers.Committed;
        says = λ i. Some (record { word = words.Committed; aborted = sym none i });
        answers = (next, subst (λ n. Happens {N = N} before.book event.Commit replies.Ok n after.book) none happens);
        held = held;
      }
  next_made (event.Dispatch tile) next happens =
      record {
        answer = answers.Moved aborted;
        says = refl;
        answers = (event.Dispatch tile, next, tt, happens);
        held = held;
      }
  next_made (event.Step tile core leg) next happens =
      record {
        answer = answers.Moved aborted;
        says = refl;
        answers = (event.Step tile core leg, next, tt, happens);
        held = held;
      }
  next_made (event.Split tile) next happens =
      record {
        answer = answers.Moved aborted;
        says = refl;
        answers = (event.Split tile, next, tt, happens);
        held = held;
      }
  next_made (event.Abort tile) next happens = absurd next.least
  next_made (event.Coalesce tile) next happens = absurd next.least

  -- since it is never refused but for want of memory
  next_came : (e : Event N) → IsNextEvent image before.book.view e → (reply : Reply) → reply ≢ replies.Memory
      → Happens before.book e reply aborted after.book → Advanced N image before after aborted (Hands e) reply
  next_came e next replies.Ok there happens = next_made e next happens
  next_came e next replies.Memory there happens = absurd (there refl)
  next_came e next replies.Empty there happens =
      absurd (least_event_is_granted N image before.book e sound next replies.Empty happens.refused.cause)
  next_came e next replies.Busy there happens =
      absurd (least_event_is_granted N image before.book e sound next replies.Busy happens.refused.cause)
  next_came e next replies.Stall there happens =
      absurd (least_event_is_granted N image before.book e sound next replies.Stall happens.refused.cause)
  next_came e next replies.Stale there happens =
      absurd (least_event_is_granted N image before.book e sound next replies.Stale happens.refused.cause)
  next_came e next replies.Firm there happens =
      absurd (least_event_is_granted N image before.book e sound next replies.Firm happens.refused.cause)
  next_came e next replies.Ended there happens =
      absurd (least_event_is_granted N image before.book e sound next replies.Ended happens.refused.cause)

module _ (N : Type 0) (image : ImageValue) (before after : PlayState) (reply : Reply) (aborted : ℕ)
    (sound : Sound image before.book.view) (going : before.book.stopped ≡ false) where
  advances : (asks : Attempt N) → AsksAdvance image before asks after.held
      → HasCome N image before after reply aborted asks
      → Advanced N image before after aborted asks reply
  advances asks (asking.advance_next e next hands) came =
      let is : HasCome N image before after reply aborted (Hands e) = subst
      (HasCome N image before after reply aborted)
      hands.asks_is came in
      subst (λ a. Advanced N image before after aborted a reply) (sym hands.asks_is)
      (next_came N image before after aborted sound hands.held_is e next reply is.0 is.1)
  advances asks (asking.advance_ended over says) came =
      let is : HasCome N image before after reply aborted (Says replies.Ended) = subst
      (HasCome N image before after reply aborted) says.asks_is came in
      subst (λ a. Advanced N image before after aborted a reply) (sym says.asks_is) (record {
        answer = answers.Ended over.0;
        says = λ i. Some (record { word = words.Plain (sym is.0 i); aborted = sym is.1 i });
        answers = (going, over.1, is.2);
        held = says.held_is;
      })

  other : (act : Act) → act ≢ acts.Advance → (asks : Attempt N) → AsksFor image act before asks after.held
      → HasCome N image before after reply aborted asks
      → Does N image act before (said N image before after reply aborted) after
  other act not asks = does_other N image before after reply aborted act asks not

  -- what an act comes to, and what comes of that
  does : (act : Act) (asks : Attempt N) → AsksFor image act before asks after.held → HasCome N image before after reply
      aborted asks
      → Does N image act before (record { word = word_by act asks reply; aborted = aborted }) after
  does (acts.Dispatch tile) asks asked came = other (acts.Dispatch tile) (λ is. absurd (cc (is))) asks asked came
  does (acts.Step tile core) asks asked came = other (acts.Step tile core) (λ is. absurd (cc (is))) asks asked came
  does (acts.Take tile core) asks asked came = other (acts.Take tile core) (λ is. absurd (cc (is))) asks asked came
  does (acts.Give tile core) asks asked came = other (acts.Give tile core) (λ is. absurd (cc (is))) asks asked came
  does (acts.Abort tile) asks asked came = other (acts.Abort tile) (λ is. absurd (cc (is))) asks asked came
  does acts.Commit asks asked came = other acts.Commit (λ is. absurd (cc (is))) asks asked came
  does (acts.Coalesce tile) asks asked came = other (acts.Coalesce tile) (λ is. absurd (cc (is))) asks asked came
  does (acts.Split tile) asks asked came = other (acts.Split tile) (λ is. absurd (cc (is))) asks asked came
  does acts.Advance asks asked came = advances asks asked came

-- what came of the moment, of the plays between which it stands
pub came_between : (N : Type 0) (image : ImageValue) (m : Moment N) (before after : PlayState) → IsMoment image m
    before after
    → ComesOf m.asks m.reply m.aborted before.book after.book
came_between N image m before after is =
    subst (λ new. ComesOf m.asks m.reply m.aborted before.book new) is.new_is
    (subst (λ old. ComesOf m.asks m.reply m.aborted old m.new) is.old_is is.came)

pub moment_does : (N : Type 0) → MomentDoes N
moment_does N image m before after sound going is =
    does N image before after m.reply m.aborted sound going m.act m.asks is.asked
    (came_between N image m before after is)
