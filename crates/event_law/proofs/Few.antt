-- So many events for the least tasks are few for the commits among them.
use Rattle.std.proofs.Common.{ℕ, zero, suc, ◌+◌, ◌*◌, ◌≡◌, ◌≤◌, ◌<◌, length, refl, sym, ap, subst, ◌∙◌, arith}
use Rattle.std.proofs.Math.Nat.{one-mul, suc-mul}
use Rattle.std.proofs.lemmas.List.{length-append}
use Rattle.guest_image.specs.ImageValue.{ImageValue}
use Rattle.event_def.specs.task_law.Advance as standing
use Rattle.event_def.specs.spec_state.View.{View}
use Rattle.spec_law.specs.Sound.{Sound}
use Rattle.event_def.specs.declared.event.Event.{Event}
use Rattle.event_def.specs.declared.event.Event.TheVariants as event
use Rattle.event_def.specs.declared.event.Reply.TheVariants as reply
use Rattle.event_def.specs.Book.{BookView}
use Rattle.event_def.specs.Advancing.{HasRest, IsNextEvent, IsNoCommit}
use Rattle.event_def.specs.Happens.{IsMade}
use Rattle.event_law.specs.Laws.{AreFew, LeastEventsAreFew}
use Rattle.event_law.proofs.Rests.Rest.{rest_is_bounded}
use Rattle.event_law.proofs.Falls.Falls.{advances_fall}
use Rattle.event_law.proofs.Given.{next_event_is_given}
use Rattle.event_law.proofs.Keeps.Events.{happens_keeps}
use Rattle.event_law.proofs.Keeps.Forced.{Follows}
use Rattle.event_law.proofs.Rests.RestThere.{rest_is_there}
use Rattle.event_law.proofs.Stays.{event_stays}

one_less : (n had left bound : ℕ) → n + had ≤ bound → left < had → suc n + left ≤ bound
one_less n had left bound before less = omega (arith, before, less)

next_share : (n left commits each : ℕ) → n + 1 ≤ (commits + 1) * each → left ≤ each
    → suc n + left ≤ (commits + 1 + 1) * each
next_share n left commits each before few =
    let one : commits + 1 + 1 ≡ suc (commits + 1) = omega arith in
    let more : (commits + 1 + 1) * each ≡ (commits + 1) * each + each = ap (λ k. k * each) one ∙ suc-mul (commits + 1) each in
    omega (arith, before, few, more)

none_yet : (left each : ℕ) → left ≤ each → 0 + left ≤ (0 + 1) * each
none_yet left each few = let once : (0 + 1) * each ≡ each = one-mul each in omega (arith, few, once)

module _ (N : Type 0) (image : ImageValue) (n : ℕ) (old mid : View) (few : AreFew image old n mid) where
  -- an event but a commit
  another : (before after : BookView) (e : Event N) (aborted : ℕ) → before.view ≡ mid → IsNextEvent image before.view e
      → IsNoCommit e
      → IsMade before e aborted after → Follows image before.view after.view → AreFew image old (suc n) after.view
  another before after e aborted same next other made follows =
      let sound : Sound image before.view = subst (Sound image) (sym same) few.sound in
      let stays = ap (λ p. p.0) (event_stays before aborted after.view after.placers N e other made.makes) in
      record {
        sound = follows.now;
        settings = follows.settings ∙ ap (λ (v : View). v.settings) same ∙ few.settings;
        commits = few.commits;
        longer = ap length stays ∙ ap (λ (v : View). length v.history) same ∙ few.longer;
        few = λ left has.
            (let had = rest_is_there image before.view sound in
            let falls = advances_fall N image before after e aborted had.0 left sound next other made had.1 has in
            one_less n had.0 left ((few.commits + 1) * (old.settings.budget + 4)) (few.few had.0 (subst (λ v. HasRest v had.0) same had.1)) falls);
      }

  -- a commit
  committed : (before after : BookView) (aborted : ℕ) → before.view ≡ mid
      → IsNextEvent {N = N} image before.view event.Commit
      → IsMade {N = N} before event.Commit aborted after → Follows image before.view after.view
      → AreFew image old (suc n) after.view
  committed before after aborted same next made follows =
      let one : HasRest before.view 1 = record { stands = standing.Finished; stands_so = (next.goes_on, next.least.0, next.least.1, next.least.2, next.least.3); left_is = refl } in
      let settings : after.view.settings ≡ old.settings = follows.settings ∙ ap (λ (v : View). v.settings) same ∙ few.settings in
      let grown : length after.view.history ≡ length before.view.history + 1 = ap length made.makes.0.history ∙ simp length-append refl in
      let was : length before.view.history ≡ length old.history + few.commits = ap (λ (v : View). length v.history) same ∙ few.longer in
      record {
        sound = follows.now;
        settings = settings;
        commits = few.commits + 1;
        longer = omega (arith, grown, was);
        few = λ left has.
            next_share n left few.commits (old.settings.budget + 4) (few.few 1 (subst (λ v. HasRest v 1) same one))
            (subst (λ s. left ≤ s.budget + 4) settings (rest_is_bounded after.view left has));
      }

  one_more : (before after : BookView) (e : Event N) (aborted : ℕ) → before.view ≡ mid → IsNextEvent image before.view e
      → IsMade before e aborted after → Follows image before.view after.view → AreFew image old (suc n) after.view
  one_more before after (event.Dispatch tile) aborted same next made follows =
      another before after (event.Dispatch tile) aborted same next tt made follows
  one_more before after (event.Step tile core leg) aborted same next made follows =
      another before after (event.Step tile core leg) aborted same next tt made follows
  one_more before after (event.Abort tile) aborted same next made follows =
      another before after (event.Abort tile) aborted same next tt made follows
  one_more before after event.Commit aborted same next made follows =
      committed before after aborted same next made follows
  one_more before after (event.Coalesce tile) aborted same next made follows =
      another before after (event.Coalesce tile) aborted same next tt made follows
  one_more before after (event.Split tile) aborted same next made follows =
      another before after (event.Split tile) aborted same next tt made follows

-- so many events for the least tasks are few
pub least_events_are_few : (N : Type 0) → LeastEventsAreFew N
least_events_are_few N image zero old new sound same = subst (λ (b : BookView). AreFew image old.view 0 b.view) same (
    record {
      sound = sound;
      settings = refl;
      commits = 0;
      longer = omega arith;
      few = λ left has. none_yet left (old.view.settings.budget + 4) (rest_is_bounded old.view left has);
    }
    )
least_events_are_few N image (suc n) old new sound advances =
    let few = least_events_are_few N image n old advances.0 sound advances.2 in
    let one = advances.3 in
    let given = next_event_is_given N image advances.0.view one.event few.sound one.next in
    let follows = happens_keeps N image advances.0 new one.event advances.1 given few.sound reply.Ok one.happens in
    one_more N image n old.view advances.0.view few advances.0 new one.event advances.1 refl one.next one.happens follows
