-- The least task advances by each event for it.
use Rattle.std.proofs.Common.{◌≡◌, ◌≤◌, ◌+◌, ℕ, false, length, refl, sym, subst, ◌∙◌, arith}
use Rattle.guest_image.specs.ImageValue.{ImageValue}
use Rattle.watch_counts.specs.spec_law.Sound.{Sound}
use Rattle.watch_counts.specs.event_def.declared.event.Event.{Event}
use Rattle.watch_counts.specs.event_def.declared.event.Event.TheVariants as event
use Rattle.watch_counts.specs.event_def.declared.event.Reply.TheVariants as replies
use Rattle.watch_counts.specs.event_def.Advancing.{HasRest, IsNextEvent, IsNoCommit}
use Rattle.watch_counts.specs.event_def.Book.{BookView}
use Rattle.watch_counts.specs.event_def.End.{IsOver}
use Rattle.watch_counts.specs.event_def.Happens.{IsMade}
use Rattle.watch_counts.proofs.Below.event_law.Proved.{advances_fall, event_stays_sound}
use Rattle.watch_counts.proofs.Below.event_law.Proved.{next_event_is_given, rest_is_bounded, rest_is_there}
use Rattle.watch_counts.specs.step_script.Asking.{AsksAdvance, AsksFor, ComesOf}
use Rattle.watch_counts.specs.step_script.Asking as asking
use Rattle.watch_counts.specs.step_script.Playing.{PlayState}
use Rattle.watch_counts.specs.watch_text.Moments.{IsMoment, Moment}
use Rattle.watch_play.specs.Stories.{commits_of}
use Rattle.watch_play.proofs.Does.{came_between}
use Rattle.watch_play.proofs.Forced.{made_of}
use Rattle.rounds_law.proofs.Commits.{one_commit}
use Rattle.rounds_law.specs.GettingOn.{ForcedGetsOn, IsBroughtOn, not_yet, once_more}

module _ (N : Type 0) (old new : BookView) (aborted : ℕ) where
  -- an event that was made is no commit, where no task committed
  no_commit : (e : Event N) → IsMade old e aborted new → length new.view.history ≡ length old.view.history
      → IsNoCommit e
  no_commit event.Commit made none =
      let more = one_commit N old new aborted made in absurd (omega (arith, none, more))
  no_commit (event.Dispatch tile) made none = tt
  no_commit (event.Step tile core leg) made none = tt
  no_commit (event.Abort tile) made none = tt
  no_commit (event.Coalesce tile) made none = tt
  no_commit (event.Split tile) made none = tt

module _ (N : Type 0) (image : ImageValue) (first : PlayState) (first_sound : Sound image first.book.view)
    (first_going : first.book.stopped ≡ false) where
  -- so many advances led here
  record GetsOn (count : ℕ) (last : PlayState) : Type 0 where
    sound : Sound image last.book.view
    going : last.book.stopped ≡ false
    commits : commits_of last ≡ commits_of first
    few : (left : ℕ) → HasRest last.book.view left → count + left ≤ first.book.view.settings.budget + 4

  module _ (n : ℕ) (mid new : PlayState) (before : GetsOn n mid) (m : Moment N) (on : IsOver mid.book.view → ⊥)
      (is : IsMoment image m mid new) (same : commits_of new ≡ commits_of first) where
    by_event : (e : Event N) → IsNextEvent image mid.book.view e → IsMade mid.book e m.aborted new.book
        → GetsOn (n + 1) new
    by_event e next made =
        let none : commits_of new ≡ commits_of mid = same ∙ sym before.commits in
        let other = no_commit N mid.book new.book m.aborted e made none in
        let given = next_event_is_given N image mid.book.view e before.sound next in record {
          sound = event_stays_sound N image mid.book new.book e replies.Ok m.aborted given before.sound made;
          going = made.stopped;
          commits = same;
          few = λ left has.
              (let had = rest_is_there image mid.book.view before.sound in
              let less = before.few had.0 had.1 in
              let falls = advances_fall N image mid.book new.book e m.aborted had.0 left before.sound next other made
              had.1 has in
              omega (arith, less, falls));
        }

    by_asks : AsksAdvance image mid m.asks new.held → GetsOn (n + 1) new
    by_asks (asking.advance_next e next hands) =
        let came = subst (λ a. ComesOf a m.reply m.aborted mid.book new.book) hands.asks_is
        (came_between N image m mid new is) in
        by_event e next (made_of N image mid.book new.book m.aborted before.sound e next m.reply came.0 came.1)
    by_asks (asking.advance_ended over says) = absurd (on over)

  gets_on : (count : ℕ) (last : PlayState) → IsBroughtOn N image first count last → GetsOn count last
  gets_on count last not_yet = record {
    sound = first_sound;
    going = first_going;
    commits = refl;
    few = λ left has. let most = rest_is_bounded first.book.view left has in omega (arith, most);
  }
  gets_on count last (once_more n mid new m before on is advances same) =
      by_asks n mid new (gets_on n mid before) m on is same
      (subst (λ a. AsksFor image a mid m.asks new.held) advances is.asked)

pub forced_gets_on : (N : Type 0) → ForcedGetsOn N
forced_gets_on N image first last count left sound going brought has =
    (gets_on N image first sound going count last brought).few left has
