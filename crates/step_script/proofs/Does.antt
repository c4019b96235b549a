-- What an act comes to, and what comes of that, do the act.
use Rattle.std.proofs.Common.{◌≢◌, ℕ, refl, subst}
use Rattle.guest_image.specs.ImageValue.{ImageValue}
use Rattle.conflict_book.specs.event_def.declared.event.Event.{Event}
use Rattle.conflict_book.specs.event_def.declared.event.Event.TheVariants as event
use Rattle.conflict_book.specs.event_def.declared.event.Reply.{Reply}
use Rattle.conflict_book.specs.event_def.declared.event.Reply.TheVariants as replies
use Rattle.conflict_book.specs.event_def.Book.{BookView}
use Rattle.step_script.specs.declared.act.Act.{Act}
use Rattle.step_script.specs.declared.act.Act.TheVariants as acts
use Rattle.step_script.specs.declared.saying.Said.{Said}
use Rattle.step_script.specs.declared.saying.Word.TheVariants as words
use Rattle.step_script.specs.Playing.{Does, Gives, MakesInPlay, PlayState, Stays, Steps, Takes}
use Rattle.step_script.specs.Playing as plays
use Rattle.step_script.specs.Asking.{Attempt, AttemptComes, AsksFor, AsksGive, AsksStep, AsksTake, ComesOf, Hands}
use Rattle.step_script.specs.Asking.{HandsEvent, Says, SaysWord}
use Rattle.step_script.specs.Asking as asking

-- where memory doesn't run out
pub comes_of : {N : Type 0} (asks : Attempt N) (reply : Reply) (aborted : ℕ) (old new : BookView)
    → reply ≢ replies.Memory → AttemptComes asks reply aborted old new → ComesOf asks reply aborted old new
comes_of (Hands e) reply aborted old new there came = (there, came)
comes_of (Says word) reply aborted old new there came = came

module _ (N : Type 0) (image : ImageValue) (before after : PlayState) (reply : Reply) (aborted : ℕ) where
  -- what came of an act
  abbrev pub HasCome : Attempt N → Type 0
  HasCome asks = ComesOf asks reply aborted before.book after.book

  -- and what is said of it, where it is no advance
  abbrev pub said : Said
  said = record { word = words.Plain reply; aborted = aborted }

  -- an event was handed in
  handed : (e : Event N) (asks : Attempt N) → HandsEvent e before asks after.held → HasCome asks
      → MakesInPlay e before said after
  handed e asks hands came =
      let is : HasCome (Hands e) = subst HasCome hands.asks_is came in record {
        hands_in = record { reply = reply; word = refl; there = is.0; happens = is.1 };
        held = hands.held_is;
      }

  -- a word was said
  spoken : (word : Reply) (asks : Attempt N) → SaysWord word before asks after.held → HasCome asks
      → Stays word before said after
  spoken word asks says came =
      let is : HasCome (Says word) = subst HasCome says.asks_is came in record {
        word = λ i. record { word = words.Plain (is.0 i); aborted = is.1 i };
        same = λ i. record { book = is.2 i; held = says.held_is i };
      }

  steps : (tile core : ℕ) (asks : Attempt N) → AsksStep image tile core before asks after.held → HasCome asks
      → Steps N image tile core before said after
  steps tile core asks (asking.step_runs leg on has hands) came =
      plays.step_runs leg on has (handed (event.Step tile core leg) asks hands came)
  steps tile core asks (asking.step_ended over says) came =
      plays.step_ended over (spoken replies.Ended asks says came)
  steps tile core asks (asking.step_stale on none says) came =
      plays.step_stale on none (spoken replies.Stale asks says came)

  takes : (tile core : ℕ) (asks : Attempt N) → AsksTake image tile core before asks after.held → HasCome asks
      → Takes image tile core before said after
  takes tile core asks (asking.take_holds leg has asks_is held_is) came =
      let is : HasCome (Says replies.Ok) = subst HasCome asks_is came in
      plays.take_holds leg has (λ i. record { word = words.Plain (is.0 i); aborted = is.1 i })
      (λ i. record { book = is.2 i; held = held_is i })
  takes tile core asks (asking.take_stale none asks_is held_is) came =
      let is : HasCome (Says replies.Stale) = subst HasCome asks_is came in
      plays.take_stale none (λ i. record { word = words.Plain (is.0 i); aborted = is.1 i })
      (λ i. record { book = is.2 i; held = held_is i })

  gives : (tile core : ℕ) (asks : Attempt N) → AsksGive tile core before asks after.held → HasCome asks
      → Gives N tile core before said after
  gives tile core asks (asking.give_hands leg on found asks_is held_is) came =
      let is : HasCome (Hands (event.Step tile core leg)) = subst HasCome asks_is came in
      plays.give_hands leg on found (record { reply = reply; word = refl; there = is.0; happens = is.1 }) held_is
  gives tile core asks (asking.give_ended over says) came =
      plays.give_ended over (spoken replies.Ended asks says came)
  gives tile core asks (asking.give_stale on none says) came =
      plays.give_stale on none (spoken replies.Stale asks says came)

  -- an act other than an advance
  pub does_other : (act : Act) (asks : Attempt N) → act ≢ acts.Advance → AsksFor image act before asks after.held
      → HasCome asks → Does N image act before said after
  does_other (acts.Dispatch tile) asks other asked came = handed (event.Dispatch tile) asks asked came
  does_other (acts.Step tile core) asks other asked came = steps tile core asks asked came
  does_other (acts.Take tile core) asks other asked came = takes tile core asks asked came
  does_other (acts.Give tile core) asks other asked came = gives tile core asks asked came
  does_other (acts.Abort tile) asks other asked came = handed (event.Abort tile) asks asked came
  does_other acts.Commit asks other asked came = handed event.Commit asks asked came
  does_other (acts.Coalesce tile) asks other asked came = handed (event.Coalesce tile) asks asked came
  does_other (acts.Split tile) asks other asked came = handed (event.Split tile) asks asked came
  does_other acts.Advance asks other asked came = absurd (other refl)

  pub does_asked : (act : Act) (asks : Attempt N) → act ≢ acts.Advance → AsksFor image act before asks after.held
      → reply ≢ replies.Memory → AttemptComes asks reply aborted before.book after.book
      → Does N image act before said after
  does_asked act asks other asked there came =
      does_other act asks other asked (comes_of asks reply aborted before.book after.book there came)
