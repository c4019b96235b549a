-- What comes of the acts of a round.
use Rattle.std.proofs.Common.{◌≡◌, ◌≢◌, ◌⊎◌, ◌≤◌, ℕ, List, [], ◌∷◌, length, inl, inr, refl, sym, subst, ◌∙◌, arith}
use Rattle.std.proofs.lemmas.Bool.{cases_lt}
use Rattle.guest_image.specs.ImageValue.{ImageValue}
use Rattle.rv_core.specs.LegValue.{LegValue}
use Rattle.watch_counts.specs.spec_state.declared.task.Task.{Task}
use Rattle.watch_counts.specs.spec_state.View.{block_at, queue_at}
use Rattle.watch_counts.specs.spec_state.Least.{IsTheLeast}
use Rattle.watch_counts.specs.spec_state.Changes.{TakesLeg}
use Rattle.watch_counts.specs.spec_law.Sound.{Sound}
use Rattle.watch_counts.proofs.Below.spec_law.Proved.{one_least_idle}
use Rattle.watch_counts.specs.event_def.declared.event.Event.{Event}
use Rattle.watch_counts.specs.event_def.declared.event.Event.TheVariants as event
use Rattle.watch_counts.specs.event_def.declared.event.Reply.{Reply}
use Rattle.watch_counts.specs.event_def.declared.event.Reply.TheVariants as replies
use Rattle.watch_counts.specs.event_def.Book.{BookView}
use Rattle.watch_counts.specs.event_def.Causes.{Cause, IsGranted}
use Rattle.watch_counts.specs.event_def.End.{IsOver}
use Rattle.watch_counts.specs.event_def.Happens.{Happens}
use Rattle.watch_counts.proofs.Below.event_law.Proved.{least_idle}
use Rattle.watch_counts.specs.step_script.declared.act.Act.{Act}
use Rattle.watch_counts.specs.step_script.declared.act.Act.TheVariants as acts
use Rattle.watch_counts.specs.step_script.Asking.{AsksStep, Attempt, AttemptComes, Hands, Says, step_ended, step_runs}
use Rattle.watch_counts.specs.step_script.Asking.{step_stale}
use Rattle.watch_play.specs.Courses.{IsAskedInRound}
use Rattle.watch_play.specs.Rounds.{AskedIsMade, IsMadeOrStalls, PassedIsRefused}

-- ---- what is asked for

module _ (N : Type 0) (book new : BookView) (aborted : ℕ) (act : Act) (goes_on : IsOver book.view → ⊥) where
  -- an event for which no other cause stands than that a step stalls
  by_answer : (e : Event N) → ((reply : Reply) → Cause book e reply → IsMadeOrStalls act reply)
      → (reply : Reply) → Happens book e reply aborted new → IsMadeOrStalls act reply
  by_answer e allowed replies.Ok happens = tt
  by_answer e allowed replies.Memory happens = tt
  by_answer e allowed replies.Empty happens = allowed replies.Empty happens.refused.cause
  by_answer e allowed replies.Busy happens = allowed replies.Busy happens.refused.cause
  by_answer e allowed replies.Stall happens = allowed replies.Stall happens.refused.cause
  by_answer e allowed replies.Stale happens = allowed replies.Stale happens.refused.cause
  by_answer e allowed replies.Firm happens = allowed replies.Firm happens.refused.cause
  by_answer e allowed replies.Ended happens = allowed replies.Ended happens.refused.cause

asked_dispatch : (N : Type 0) (book : BookView) (tile : ℕ) → (IsOver book.view → ⊥)
    → IsAskedInRound book.view (acts.Dispatch tile) → (reply : Reply)
    → Cause {N = N} book (event.Dispatch tile) reply → ⊥
asked_dispatch N book tile goes_on asked replies.Ended over = goes_on over
asked_dispatch N book tile goes_on asked replies.Empty none = none asked.0 asked.1 asked.2.idle
asked_dispatch N book tile goes_on asked replies.Busy busy = elim asked.3 [
  | inl free ↦ busy.held free.0 free.1
  | inr least ↦ busy.not_least (subst (IsTheLeast book.view)
      (one_least_idle book.view tile asked.0 busy.id asked.1 busy.task asked.2 busy.idle) least)
]
asked_dispatch N book tile goes_on asked replies.Ok cause = cause
asked_dispatch N book tile goes_on asked replies.Memory cause = cause
asked_dispatch N book tile goes_on asked replies.Stall cause = cause
asked_dispatch N book tile goes_on asked replies.Stale cause = cause
asked_dispatch N book tile goes_on asked replies.Firm cause = cause

asked_commit : (N : Type 0) (book : BookView) → (IsOver book.view → ⊥) → IsAskedInRound book.view acts.Commit
    → (reply : Reply) → Cause {N = N} book event.Commit reply → ⊥
asked_commit N book goes_on asked replies.Ended over = goes_on over
asked_commit N book goes_on asked replies.Empty none = none asked.0 asked.1 asked.2 asked.3
asked_commit N book goes_on asked replies.Busy cause = cause
asked_commit N book goes_on asked replies.Ok cause = cause
asked_commit N book goes_on asked replies.Memory cause = cause
asked_commit N book goes_on asked replies.Stall cause = cause
asked_commit N book goes_on asked replies.Stale cause = cause
asked_commit N book goes_on asked replies.Firm cause = cause

asked_split : (N : Type 0) (book : BookView) (tile : ℕ) → (IsOver book.view → ⊥)
    → IsAskedInRound book.view (acts.Split tile) → (reply : Reply)
    → Cause {N = N} book (event.Split tile) reply → ⊥
asked_split N book tile goes_on asked replies.Ended over = goes_on over
asked_split N book tile goes_on asked replies.Empty none = asked.0 none
asked_split N book tile goes_on asked replies.Stall stalls = elim asked.1 [
  | inl free ↦
      (let full : book.view.settings.task_queue ≤ length (queue_at book.view tile) = stalls.full in
      absurd (omega (arith, free, full)))
  | inr least ↦ stalls.not_least least
]
asked_split N book tile goes_on asked replies.Busy cause = cause
asked_split N book tile goes_on asked replies.Ok cause = cause
asked_split N book tile goes_on asked replies.Memory cause = cause
asked_split N book tile goes_on asked replies.Stale cause = cause
asked_split N book tile goes_on asked replies.Firm cause = cause

-- a step of a running task may stall, and is refused for nothing else
asked_step : (N : Type 0) (book : BookView) (tile core : ℕ) (leg : LegValue) (id : ℕ) (task : Task)
    → (IsOver book.view → ⊥) → TakesLeg book.view tile core leg id task → (reply : Reply)
    → Cause {N = N} book (event.Step tile core leg) reply → IsMadeOrStalls (acts.Step tile core) reply
asked_step N book tile core leg id task goes_on takes replies.Ended over = absurd (goes_on over)
asked_step N book tile core leg id task goes_on takes replies.Stale stale = absurd (stale id task takes)
asked_step N book tile core leg id task goes_on takes replies.Stall stalls = tt
asked_step N book tile core leg id task goes_on takes replies.Empty cause = absurd cause
asked_step N book tile core leg id task goes_on takes replies.Busy cause = absurd cause
asked_step N book tile core leg id task goes_on takes replies.Ok cause = absurd cause
asked_step N book tile core leg id task goes_on takes replies.Memory cause = absurd cause
asked_step N book tile core leg id task goes_on takes replies.Firm cause = absurd cause

-- an attempt that is handed in
handed : {N : Type 0} (asks : Attempt N) (e : Event N) (reply : Reply) (aborted : ℕ) (old new : BookView)
    → asks ≡ Hands e → AttemptComes asks reply aborted old new → Happens old e reply aborted new
handed asks e reply aborted old new is = subst (λ a. AttemptComes a reply aborted old new) is

pub asked_is_made : (N : Type 0) → AskedIsMade N
asked_is_made N image old new (acts.Dispatch tile) asks held reply aborted goes_on of asked asks_for comes =
    by_answer N old.book new aborted (acts.Dispatch tile) goes_on (event.Dispatch tile)
    (λ other cause. absurd (asked_dispatch N old.book tile goes_on asked other cause)) reply
    (handed asks (event.Dispatch tile) reply aborted old.book new asks_for.asks_is comes)
asked_is_made N image old new (acts.Step tile core) asks held reply aborted goes_on of asked asks_for comes =
    by_ask asks_for
  where
    by_ask : AsksStep image tile core old asks held → IsMadeOrStalls (acts.Step tile core) reply
    by_ask (step_runs leg on has hands) =
        by_answer N old.book new aborted (acts.Step tile core) goes_on (event.Step tile core leg)
        (asked_step N old.book tile core leg has.id has.task goes_on
        (record { runs = has.runs; from = sym has.leg_from.from }))
        reply (handed asks (event.Step tile core leg) reply aborted old.book new hands.asks_is comes)
    by_ask (step_ended over says) = absurd (goes_on over)
    by_ask (step_stale on none says) = absurd (none asked.0 asked.1 asked.2)
asked_is_made N image old new acts.Commit asks held reply aborted goes_on of asked asks_for comes =
    by_answer N old.book new aborted acts.Commit goes_on event.Commit
    (λ other cause. absurd (asked_commit N old.book goes_on asked other cause)) reply
    (handed asks event.Commit reply aborted old.book new asks_for.asks_is comes)
asked_is_made N image old new (acts.Split tile) asks held reply aborted goes_on of asked asks_for comes =
    by_answer N old.book new aborted (acts.Split tile) goes_on (event.Split tile)
    (λ other cause. absurd (asked_split N old.book tile goes_on asked other cause)) reply
    (handed asks (event.Split tile) reply aborted old.book new asks_for.asks_is comes)
asked_is_made N image old new (acts.Take tile core) asks held reply aborted goes_on of asked asks_for comes = absurd of
asked_is_made N image old new (acts.Give tile core) asks held reply aborted goes_on of asked asks_for comes = absurd of
asked_is_made N image old new (acts.Abort tile) asks held reply aborted goes_on of asked asks_for comes = absurd of
asked_is_made N image old new (acts.Coalesce tile) asks held reply aborted goes_on of asked asks_for comes = absurd of
asked_is_made N image old new acts.Advance asks held reply aborted goes_on of asked asks_for comes = absurd of

-- ---- what is passed over

-- an event that isn't granted is refused, or memory was wanting for it
not_granted : (N : Type 0) (book new : BookView) (e : Event N) (reply : Reply) (aborted : ℕ)
    → (IsGranted book e → ⊥) → Happens book e reply aborted new → (reply ≢ replies.Ok) × (new ≡ book)
not_granted N book new e replies.Ok aborted not happens = absurd (not happens.granted)
not_granted N book new e replies.Memory aborted not happens = (λ is. absurd (cc (is)), happens.1.same)
not_granted N book new e replies.Empty aborted not happens = (λ is. absurd (cc (is)), happens.unchanged.same)
not_granted N book new e replies.Busy aborted not happens = (λ is. absurd (cc (is)), happens.unchanged.same)
not_granted N book new e replies.Stall aborted not happens = (λ is. absurd (cc (is)), happens.unchanged.same)
not_granted N book new e replies.Stale aborted not happens = (λ is. absurd (cc (is)), happens.unchanged.same)
not_granted N book new e replies.Firm aborted not happens = (λ is. absurd (cc (is)), happens.unchanged.same)
not_granted N book new e replies.Ended aborted not happens = (λ is. absurd (cc (is)), happens.unchanged.same)

-- a list has no element, or it has some
empty_or_not : {X : Type 0} (xs : List X) → (xs ≡ []) ⊎ (xs ≢ [])
empty_or_not [] = inl refl
empty_or_not (x ∷ xs) = inr (λ none. absurd (cc (none)))

module _ (N : Type 0) (image : ImageValue) (book : BookView) where
  passed_dispatch : Sound image book.view → (tile : ℕ) → (IsAskedInRound book.view (acts.Dispatch tile) → ⊥)
      → IsGranted {N = N} book (event.Dispatch tile) → ⊥
  passed_dispatch sound tile not granted =
      granted replies.Empty (λ id task idle.
      (let least = least_idle book.view tile sound.sizes id task idle in
      granted replies.Busy (record {
        held = λ core free. not (least.0, least.1, least.2, inl (core, free));
        id = least.0;
        task = least.1;
        idle = least.2;
        not_least = λ is. not (least.0, least.1, least.2, inr is);
      })))

  passed_step : (tile core : ℕ) (leg : LegValue) → (IsAskedInRound book.view (acts.Step tile core) → ⊥)
      → IsGranted {N = N} book (event.Step tile core leg) → ⊥
  passed_step tile core leg not granted =
      granted replies.Stale (λ id task takes. not (id, task, takes.runs))

  passed_commit : (IsAskedInRound book.view acts.Commit → ⊥) → IsGranted {N = N} book event.Commit → ⊥
  passed_commit not granted = granted replies.Empty (λ id task least done. not (id, task, least, done))

  passed_split : (tile : ℕ) → (IsAskedInRound book.view (acts.Split tile) → ⊥)
      → IsGranted {N = N} book (event.Split tile) → ⊥
  passed_split tile not granted = elim (empty_or_not (block_at book.view tile)) [
    | inl none ↦ granted replies.Empty none
    | inr some ↦ elim (cases_lt (length (queue_at book.view tile)) book.view.settings.task_queue) [
      | inl free ↦ not (some, inl free)
      | inr full ↦
          granted replies.Stall (record { some = some; full = full; not_least = λ least. not (some, inr least) })
    ]
  ]

-- a word that is said changes nothing
said_so : {N : Type 0} (asks : Attempt N) (word reply : Reply) (aborted : ℕ) (old new : BookView)
    → asks ≡ Says word → word ≢ replies.Ok → AttemptComes asks reply aborted old new
    → (reply ≢ replies.Ok) × (new ≡ old)
said_so asks word reply aborted old new is no_ok comes =
    let so = subst (λ a. AttemptComes a reply aborted old new) is comes in
    (λ ok. no_ok (sym so.0 ∙ ok), so.2)

pub passed_is_refused : (N : Type 0) → PassedIsRefused N
passed_is_refused N image old new (acts.Dispatch tile) asks held reply aborted sound of not asks_for comes =
    not_granted N old.book new (event.Dispatch tile) reply aborted
    (passed_dispatch N image old.book sound tile not)
    (handed asks (event.Dispatch tile) reply aborted old.book new asks_for.asks_is comes)
passed_is_refused N image old new (acts.Step tile core) asks held reply aborted sound of not asks_for comes =
    by_ask asks_for
  where
    by_ask : AsksStep image tile core old asks held → (reply ≢ replies.Ok) × (new ≡ old.book)
    by_ask (step_runs leg on has hands) =
        not_granted N old.book new (event.Step tile core leg) reply aborted
        (passed_step N image old.book tile core leg not)
        (handed asks (event.Step tile core leg) reply aborted old.book new hands.asks_is comes)
    by_ask (step_ended over says) =
        said_so asks replies.Ended reply aborted old.book new says.asks_is (λ is. absurd (cc (is))) comes
    by_ask (step_stale on none says) =
        said_so asks replies.Stale reply aborted old.book new says.asks_is (λ is. absurd (cc (is))) comes
passed_is_refused N image old new acts.Commit asks held reply aborted sound of not asks_for comes =
    not_granted N old.book new event.Commit reply aborted (passed_commit N image old.book not)
    (handed asks event.Commit reply aborted old.book new asks_for.asks_is comes)
passed_is_refused N image old new (acts.Split tile) asks held reply aborted sound of not asks_for comes =
    not_granted N old.book new (event.Split tile) reply aborted (passed_split N image old.book tile not)
    (handed asks (event.Split tile) reply aborted old.book new asks_for.asks_is comes)
passed_is_refused N image old new (acts.Take tile core) asks held reply aborted sound of not asks_for comes = absurd of
passed_is_refused N image old new (acts.Give tile core) asks held reply aborted sound of not asks_for comes = absurd of
passed_is_refused N image old new (acts.Abort tile) asks held reply aborted sound of not asks_for comes = absurd of
passed_is_refused N image old new (acts.Coalesce tile) asks held reply aborted sound of not asks_for comes = absurd of
passed_is_refused N image old new acts.Advance asks held reply aborted sound of not asks_for comes = absurd of
