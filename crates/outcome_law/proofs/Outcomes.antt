-- What comes of an event is one thing.
use Rattle.std.proofs.Common.{◌≡◌, ◌≢◌, ◌≤◌, ◌<◌, ◌+◌, ◌++◌, ◌/◌, zero, suc, ℕ, Bool, true, false, List, [], ◌∷◌, map}
use Rattle.std.proofs.Common.{length, Option, Some, None, option_map, is_some, refl, sym, ap, subst, ◌∙◌, inl, inr, ◌⊎◌}
use Rattle.std.proofs.Common.{arith}
use Rattle.guest_image.specs.ImageValue.{ImageValue}
use Rattle.trace_tap.specs.declared.record.Record.{Record}
use Rattle.trace_tap.specs.declared.record.Deed.TheVariants as deed
use Rattle.trace_tap.specs.TapValue.{after_note}
use Rattle.step_script.specs.spec_state.declared.task.Task.{Task}
use Rattle.step_script.specs.spec_state.View.{View, task_at}
use Rattle.step_script.specs.spec_state.Changes.{TakesLeg, request_of}
use Rattle.step_script.proofs.Below.spec_state.Proved.{one_least}
use Rattle.step_script.specs.spec_law.Sound.{Sound}
use Rattle.step_script.specs.event_def.declared.event.Event.{Event}
use Rattle.step_script.specs.event_def.declared.event.Event.TheVariants as event
use Rattle.step_script.specs.event_def.declared.event.Reply.{Reply}
use Rattle.step_script.specs.event_def.declared.event.Reply.TheVariants as replies
use Rattle.step_script.specs.event_def.Book.{BookView, next_count}
use Rattle.step_script.specs.event_def.Causes.{IsRefused, IsGranted}
use Rattle.step_script.specs.event_def.Happens.{Happens, IsMade, Refuses, IsUnchanged}
use Rattle.step_script.specs.event_def.Trace.{IsRecord, record_of, deed_of, line_of_request}
use Rattle.step_script.proofs.Below.event_law.Proved.{reply_is_one, refusals_change_nothing}
use Rattle.outcome_law.specs.Alike.{IdPermutation, inverse_of, IsAlikeTask, AreAlike, AreAlikeBooks}
use Rattle.outcome_law.specs.Laws.{AreSameBooks, IsSameOutcome, OutcomeIsOne}
use Rattle.outcome_law.proofs.Alike.{alike_turned}
use Rattle.outcome_law.proofs.Causes.{books_turned, refused_too}
use Rattle.outcome_law.proofs.Changes.{settings_same}
use Rattle.outcome_law.proofs.Events.{OneMade, makes_one, takers, request_same}
use Rattle.outcome_law.proofs.Leasts.{least_too}
use Rattle.outcome_law.proofs.Picks.{task_one}

module _ {N : Type 0} (image : ImageValue) (r : IdPermutation) (a b : View) (sound : Sound image a) (sound' : Sound image b) (alike : AreAlike r a b) where
  -- the taps are told the same
  record_one : (event : Event N) (n m : ℕ) (new new' : View) (seen seen' : Record) → m ≡ n
      → length new'.history ≡ length new.history
      → IsRecord a event n new seen → IsRecord b event m new' seen' → seen' ≡ seen
  record_one (event.Dispatch tile) n m new new' seen seen' count commits one two = two ∙ ((λ i. record { deed = deed.Dispatch; tile = tile; line = None; aborted = count i; commits = commits i }) ∙ sym one)
  record_one (event.Step tile core leg) n m new new' seen seen' count commits one two =
      let same = takers image r a b sound sound' alike tile core leg one.0 two.0 one.1 two.1 one.2 two.2 in
      let request = request_same r a b alike one.1 two.1 same.like leg in
      two.3
      ∙ ((λ i. record { deed = deed_of (request i); tile = tile; line = line_of_request (settings_same r a b alike i).line (request i); aborted = count i; commits = commits i }) ∙ sym one.3)
  record_one (event.Abort tile) n m new new' seen seen' count commits one two = two ∙ ((λ i. record { deed = deed.Abort; tile = tile; line = None; aborted = count i; commits = commits i }) ∙ sym one)
  record_one event.Commit n m new new' seen seen' count commits one two =
      let l = least_too r a b alike one.0 one.1 one.2 in
      let task : two.1 ≡ l.y = task_one b two.0 (r.to one.0) two.1 l.y (one_least b two.0 (r.to one.0) two.1 l.y two.2 l.least) two.2.queued_at.there l.least.queued_at.there in
      let tile : two.1.tile
      ≡ one.1.tile = ap (λ (t : Task). t.tile) task ∙ ap (λ (t : Task). t.tile) l.alike.other_is in
      two.3
      ∙ ((λ i. record { deed = deed.Commit; tile = tile i; line = None; aborted = count i; commits = commits i }) ∙ sym one.3)
  record_one (event.Coalesce tile) n m new new' seen seen' count commits one two = two ∙ ((λ i. record { deed = deed.Coalesce; tile = tile; line = None; aborted = count i; commits = commits i }) ∙ sym one)
  record_one (event.Split tile) n m new new' seen seen' count commits one two = two ∙ ((λ i. record { deed = deed.Split; tile = tile; line = None; aborted = count i; commits = commits i }) ∙ sym one)

module _ {N : Type 0} (image : ImageValue) (r : IdPermutation) (old other new other_new : BookView) (event : Event N) (n m : ℕ)
    (sound : Sound image old.view) (sound' : Sound image other.view) (alike : AreAlikeBooks r old other) where
  -- an event that is made of both
  made_one : IsMade old event n new → IsMade other event m other_new
      → IsSameOutcome replies.Ok replies.Ok n m new other_new
  made_one one two =
      let made = makes_one image r old other sound sound' alike N event n m new.view other_new.view new.placers other_new.placers one.makes two.makes in
      let commits : length other_new.view.history ≡ length new.view.history = ap (λ v. length v.history) made.alike.1.frame in
      let seen = record_one image r old.view other.view sound sound' alike.view event n m new.view other_new.view one.seen two.seen made.aborted commits one.is_record two.is_record in
      record {
        reply_is = refl;
        aborted_is = made.aborted;
        books = (
          made.alike.0,
          record {
            view = made.alike.1;
            placers = made.placers;
            taps = two.noted_it ∙ ((λ i. map (after_note (seen i)) (alike.taps i)) ∙ sym one.noted_it);
            steps = two.steps ∙ (ap next_count alike.steps ∙ sym one.steps);
            stopped = two.stopped ∙ sym one.stopped;
          },
        );
      }

  -- one that is refused leaves both
  refused_one : (reply reply' : Reply) → reply' ≡ reply → (n ≡ 0) × (new ≡ old) → (m ≡ 0) × (other_new ≡ other)
      → IsSameOutcome reply reply' n m new other_new
  refused_one reply reply' same one two = record {
    reply_is = same;
    aborted_is = two.0 ∙ sym one.0;
    books =
        (r, subst (λ (x : BookView). AreAlikeBooks r x other_new) (sym one.1) (subst (λ (y : BookView). AreAlikeBooks r old y) (sym two.1) alike));
  }

module _ {N : Type 0} (r : IdPermutation) (old other new : BookView) (event : Event N) (n : ℕ) (alike : AreAlikeBooks r old other) where
  refuses_too : (reply : Reply) → Refuses old event reply n new → Refuses other event reply 0 other
  refuses_too reply is = record {
    goes_on = alike.stopped ∙ is.goes_on;
    refused = refused_too r old other alike event reply is.refused;
    unchanged = record { none = refl; same = refl };
  }

  -- a refusal is one in the other book too
  pub refusal_too : (reply : Reply) → reply ≢ replies.Ok → reply ≢ replies.Memory → Happens old event reply n new
      → Happens other event reply 0 other
  refusal_too replies.Ok not_made has happens = absurd (not_made refl)
  refusal_too replies.Empty not_made has happens = refuses_too replies.Empty happens
  refusal_too replies.Busy not_made has happens = refuses_too replies.Busy happens
  refusal_too replies.Stall not_made has happens = refuses_too replies.Stall happens
  refusal_too replies.Stale not_made has happens = refuses_too replies.Stale happens
  refusal_too replies.Firm not_made has happens = refuses_too replies.Firm happens
  refusal_too replies.Ended not_made has happens = refuses_too replies.Ended happens
  refusal_too replies.Memory not_made has happens = absurd (has refl)

is_ok_or_not : (reply : Reply) → (reply ≡ replies.Ok) ⊎ (reply ≢ replies.Ok)
is_ok_or_not replies.Ok = inl refl
is_ok_or_not replies.Empty = inr (λ e. absurd (cc (e)))
is_ok_or_not replies.Busy = inr (λ e. absurd (cc (e)))
is_ok_or_not replies.Stall = inr (λ e. absurd (cc (e)))
is_ok_or_not replies.Stale = inr (λ e. absurd (cc (e)))
is_ok_or_not replies.Firm = inr (λ e. absurd (cc (e)))
is_ok_or_not replies.Ended = inr (λ e. absurd (cc (e)))
is_ok_or_not replies.Memory = inr (λ e. absurd (cc (e)))

module _ (N : Type 0) (image : ImageValue) (r : IdPermutation) (old other new other_new : BookView) (event : Event N) (reply reply' : Reply) (n m : ℕ)
    (sound : Sound image old.view) (sound' : Sound image other.view) (alike : AreAlikeBooks r old other)
    (one : Happens old event reply n new) (two : Happens other event reply' m other_new) (has : reply ≢ replies.Memory) (has' : reply' ≢ replies.Memory) where
  same_reply : (reply ≡ replies.Ok) ⊎ (reply ≢ replies.Ok) → (reply' ≡ replies.Ok) ⊎ (reply' ≢ replies.Ok)
      → reply' ≡ reply
  same_reply (inl made) (inl made') = made' ∙ sym made
  same_reply (inr refused) second =
      reply_is_one N other other_new other event reply' reply m 0 two (refusal_too r old other new event n alike reply refused has one) has' has
  same_reply (inl made) (inr refused) =
      reply_is_one N old old new event reply' reply 0 n (refusal_too (inverse_of r) other old other_new event m (books_turned r old other alike) reply' refused has' two) one has' has

  by_reply : (reply ≡ replies.Ok) ⊎ (reply ≢ replies.Ok) → reply' ≡ reply
      → IsSameOutcome reply reply' n m new other_new
  by_reply (inl made) same =
      let ok : IsSameOutcome replies.Ok replies.Ok n m new other_new = made_one image r old other new other_new event n m sound sound' alike
      (subst (λ x. Happens old event x n new) made one) (subst (λ x. Happens other event x m other_new) (same ∙ made) two) in
      record { reply_is = same; aborted_is = ok.aborted_is; books = ok.books }
  by_reply (inr refused) same =
      refused_one image r old other new other_new event n m sound sound' alike reply reply' same
      (refusals_change_nothing N old new event reply n one refused) (refusals_change_nothing N other other_new event reply' m two (λ e. refused (sym same ∙ e)))

  pub one_outcome : IsSameOutcome reply reply' n m new other_new
  one_outcome = by_reply (is_ok_or_not reply) (same_reply (is_ok_or_not reply) (is_ok_or_not reply'))

-- what comes of an event is one thing
pub outcome_is_one : (N : Type 0) → OutcomeIsOne N
outcome_is_one N image old other new other_new event reply reply' n m sound sound' same one two has has' =
    one_outcome N image same.0 old other new other_new event reply reply' n m sound sound' same.1 one two has has'
