-- What a try of an event, and a hold of the lock, leave of a book.
use Rattle.std.proofs.Common.{arith, ◌≡◌, ◌⊎◌, ◌≤◌, ◌<◌, ◌+◌, ◌^◌, ℕ, true, inl, inr, sym, ap, subst, ◌∙◌}
use Rattle.guest_image.specs.ImageValue.{ImageValue}
use Rattle.run_journal.specs.declared.end.End.{End}
use Rattle.conflict_book.specs.event_def.declared.event.Advance.{Advance}
use Rattle.conflict_book.specs.event_def.declared.event.Advance.TheVariants as answers
use Rattle.conflict_book.specs.event_def.declared.event.Event.{Event}
use Rattle.conflict_book.specs.event_def.declared.event.Event.TheVariants as event
use Rattle.conflict_book.specs.event_def.declared.event.Reply.{Reply}
use Rattle.conflict_book.specs.event_def.declared.event.Reply.TheVariants as replies
use Rattle.conflict_book.specs.event_def.Advancing.{AdvanceAnswers, IsNextEvent}
use Rattle.conflict_book.specs.event_def.Book.{BookView, next_count}
use Rattle.conflict_book.specs.event_def.End.{IsOver}
use Rattle.conflict_book.specs.event_def.Happens.{Happens}
use Rattle.conflict_book.specs.Halting.{AdvanceGoesOn}
use Rattle.tile_worker.specs.Counts.{CountsSo}
use Rattle.tile_worker.specs.Grows.{Grows}
use Rattle.tile_worker.specs.Holds.{HoldsOnce, MakesOne, RunsOut}
use Rattle.tile_worker.specs.Holds as holds
use Rattle.tile_worker.specs.declared.hold.Tried.{Tried}
use Rattle.tile_worker.specs.declared.hold.Tried.TheVariants as tried
use Rattle.tile_worker.proofs.Growing.{event_grows, grows_refl}

-- the same book, stopped
abbrev stopped : BookView → BookView
stopped book = record book { stopped = true }

module _ (N : Type 0) (old mid new : BookView) (e : Event N) (aborted : ℕ) (reply : Reply) (happens : Happens old e reply aborted mid) where
  -- an event that was made is one
  pub event_made : reply ≡ replies.Ok → new ≡ mid → MakesOne N old new
  event_made ok same =
      subst (λ (b : BookView). MakesOne N old b) (sym same)
      (record { event = e; aborted = aborted; made = subst (λ (r : Reply). Happens old e r aborted mid) ok happens })

  -- one that found the run over left the book
  pub event_ended : reply ≡ replies.Ended → new ≡ mid → IsOver old.view × (new ≡ old)
  event_ended over same =
      let refuses = subst (λ (r : Reply). Happens old e r aborted mid) over happens in
      (refuses.refused.cause, same ∙ refuses.unchanged.same)

  -- and where memory ran out the book was stopped for it
  pub event_ran_out : reply ≡ replies.Memory → new ≡ stopped mid → RunsOut N old new
  event_ran_out out is =
      let refused = subst (λ (r : Reply). Happens old e r aborted mid) out happens in
      record { event = e; may = refused.0; stopped = is ∙ ap stopped refused.1.same }

pub ruleset event_tries = (event_made, event_ended, event_ran_out)

module _ (N : Type 0) (image : ImageValue) (old mid new : BookView) where
  by_least : (reply : Advance) → AdvanceAnswers N image old reply mid → AdvanceGoesOn reply → MakesOne N old mid
  by_least (answers.Moved aborted) so on = record { event = so.0; aborted = aborted; made = so.3 }
  by_least answers.Committed so on = record { event = event.Commit; aborted = 0; made = so.1 }
  by_least (answers.Ended end) so on = absurd on
  by_least answers.Memory so on = absurd on

  goes_on : (reply : Advance) → ((n : ℕ) × (reply ≡ answers.Moved n)) ⊎ (reply ≡ answers.Committed)
      → AdvanceGoesOn reply
  goes_on reply (inl moved) = subst AdvanceGoesOn (sym moved.1) tt
  goes_on reply (inr committed) = subst AdvanceGoesOn (sym committed) tt

  -- and so it is with the event for the least task
  pub advance_made : (reply : Advance) → AdvanceAnswers N image old reply mid → AdvanceGoesOn reply → new ≡ mid
      → MakesOne N old new
  advance_made reply so on same = subst (λ (b : BookView). MakesOne N old b) (sym same) (by_least reply so on)

  pub advance_moved : (reply : Advance) → AdvanceAnswers N image old reply mid
      → ((n : ℕ) × (reply ≡ answers.Moved n)) ⊎ (reply ≡ answers.Committed) → new ≡ mid → MakesOne N old new
  advance_moved reply so is same = advance_made reply so (goes_on reply is) same

  pub advance_ended : (reply : Advance) (end : End) → AdvanceAnswers N image old reply mid
      → reply ≡ answers.Ended end → new ≡ mid
      → IsOver old.view × (new ≡ old)
  advance_ended reply end so over same =
      let ended = subst (λ (a : Advance). AdvanceAnswers N image old a mid) over so in ((end, ended.1), same ∙ ended.2)

  pub advance_ran_out : (reply : Advance) → AdvanceAnswers N image old reply mid → reply ≡ answers.Memory
      → new ≡ stopped mid → RunsOut N old new
  advance_ran_out reply so out is = go (subst (λ (a : Advance). AdvanceAnswers N image old a mid) out so) where
    go : ((old.stopped ≡ true) × (mid ≡ old)) ⊎ ((e : Event N) × IsNextEvent image old.view e × Happens old e replies.Memory 0 mid)
        → RunsOut N old new
    go (inl before) = record { event = event.Commit; may = inl before.0; stopped = is ∙ ap stopped before.1 }
    go (inr refused) = record { event = refused.0; may = refused.2.0; stopped = is ∙ ap stopped refused.2.1.same }

pub ruleset advance_tries = (advance_made, advance_ended, advance_ran_out)

-- a try is a hold
pub counts_hold : (N : Type 0) (old : BookView) (t : Tried) (new : BookView) → CountsSo N old t new
    → HoldsOnce N old new
counts_hold N old tried.Made new so = holds.makes so
counts_hold N old tried.Waits new so = holds.rests so
counts_hold N old tried.Missed new so = holds.rests so
counts_hold N old tried.Over new (inl over) = holds.rests over.1
counts_hold N old tried.Over new (inr out) = holds.stops out

-- so is a hold after a try that was refused
pub refused_holds : (N : Type 0) (old mid new : BookView) → HoldsOnce N mid new → mid ≡ old → HoldsOnce N old new
refused_holds N old mid new once same = subst (λ (b : BookView). HoldsOnce N b new) same once

-- and a try that came to an end after one that was refused
pub still_over : (N : Type 0) (old mid new : BookView) (t : Tried) → CountsSo N mid t new → t ≡ tried.Over → mid ≡ old
    → CountsSo N old tried.Over new
still_over N old mid new t so over same =
    subst (λ (b : BookView). CountsSo N b tried.Over new) same (subst (λ (x : Tried). CountsSo N mid x new) over so)

pub rests : (N : Type 0) (old new : BookView) → new ≡ old → HoldsOnce N old new
rests N old new same = holds.rests same

-- after a hold the run has gone on
pub holds_grow : (N : Type 0) (old new : BookView) → HoldsOnce N old new → Grows old.view new.view
holds_grow N old new (holds.rests same) =
    subst (λ (b : BookView). Grows old.view b.view) (sym same) (grows_refl old.view)
holds_grow N old new (holds.makes one) = event_grows N old one.aborted new.view new.placers one.event one.made.makes
holds_grow N old new (holds.stops out) =
    subst (λ (b : BookView). Grows old.view b.view) (sym out.stopped) (grows_refl old.view)

-- the count has risen by one at most
record IsNextCount (old new : ℕ) : Type 0 where
  pub no_less : old ≤ new
  pub no_more : new ≤ old + 1

counted_next : (old new : ℕ) → old < 2 ^ 63 → new ≡ next_count old → IsNextCount old new
counted_next old new few is = let n = is in record { no_less = omega (arith, n, few); no_more = omega (arith, n, few) }

same_next : (old new : ℕ) → new ≡ old → IsNextCount old new
same_next old new is = let n = is in record { no_less = omega (arith, n); no_more = omega (arith, n) }

holds_next : (N : Type 0) (old new : BookView) → HoldsOnce N old new → old.steps < 2 ^ 63
    → IsNextCount old.steps new.steps
holds_next N old new (holds.rests same) few = same_next old.steps new.steps (ap (λ (b : BookView). b.steps) same)
holds_next N old new (holds.makes one) few = counted_next old.steps new.steps few one.made.steps
holds_next N old new (holds.stops out) few = same_next old.steps new.steps (ap (λ (b : BookView). b.steps) out.stopped)

pub holds_later : (N : Type 0) (old new : BookView) (before after : ℕ) → HoldsOnce N old new → before ≡ old.steps
    → after ≡ new.steps
    → before < 2 ^ 63 → (before ≤ after) × (after ≤ before + 1)
holds_later N old new before after once was is few =
    let next = holds_next N old new once (subst (λ n. n < 2 ^ 63) was few) in
    let less = next.no_less in
    let more = next.no_more in (omega (arith, was, is, less), omega (arith, was, is, more))
