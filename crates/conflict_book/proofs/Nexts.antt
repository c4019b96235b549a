-- The events for the least tasks.
use Rattle.std.proofs.Common.{
  ℕ,
  ◌≡◌,
  ◌+◌,
  ◌*◌,
  ◌≤◌,
  Bool,
  false,
  List,
  inl,
  inr,
  refl,
  sym,
  ap,
  subst,
  ◌∙◌,
  arith,
  add-one,
  suc,
  length,
}
use Rattle.std.proofs.lemmas.Nat.{mul-le}
use Rattle.guest_image.specs.ImageValue.{ImageValue}
use Rattle.place_policy.specs.Policy.{Policy}
use Rattle.task_request.specs.declared.request.Request.{Request}
use Rattle.task_request.specs.declared.request.Request.TheVariants.{
  Continue,
  Load,
  Store,
  Enqueue,
  MakeSub,
  Emit,
  End,
  Trap,
}
use Rattle.trace_tap.specs.declared.record.Deed.{Deed}
use Rattle.trace_tap.specs.declared.record.Record.{Record}
use Rattle.trace_tap.specs.TapValue.{TapValue}
use Rattle.event_step.specs.spec_state.Effects.{EffectValue, nothing}
use Rattle.event_step.specs.spec_state.View.{View}
use Rattle.event_step.specs.spec_law.Sound.{Sound}
use Rattle.event_step.specs.event_def.declared.event.Advance.{Advance}
use Rattle.event_step.specs.event_def.declared.event.Advance.TheVariants as answers
use Rattle.event_step.specs.event_def.declared.event.Came.{Came}
use Rattle.event_step.specs.event_def.declared.event.Came.TheVariants.{Made, Refused}
use Rattle.event_step.specs.event_def.declared.event.Event.{Event}
use Rattle.event_step.specs.event_def.declared.event.Event.TheVariants as event
use Rattle.event_step.specs.event_def.declared.event.Halt.{Halt}
use Rattle.event_step.specs.event_def.declared.event.Halt.TheVariants as halts
use Rattle.event_step.specs.event_def.declared.event.Reply.{Reply}
use Rattle.event_step.specs.event_def.declared.event.Reply.TheVariants as replies
use Rattle.event_step.specs.event_def.Advancing.{AdvanceAnswers, AdvancesBy, IsNextEvent}
use Rattle.event_step.specs.event_def.Book.{BookView, CountedView}
use Rattle.event_step.specs.event_def.Comes.{IsAsBefore}
use Rattle.event_step.specs.event_def.Happens.{Happens}
use Rattle.event_step.specs.event_def.Telling.{AdvanceTelling, ComesTelling}
use Rattle.event_step.specs.event_def.Trace.{deed_of}
use Rattle.event_step.proofs.Below.event_law.Proved.{
  advances_fall,
  least_event_is_granted,
  least_events_are_few,
  next_event_is_given,
  rest_is_there,
}
use Rattle.event_step.proofs.Below.event_basis.Proved.{comes_stays_sound}
use Rattle.conflict_book.specs.Halting.{FallsIfMoved, AdvanceGoesOn, NextComes, RunsLeast, advance_by, advance_of}
use Rattle.conflict_book.specs.Halting.{last_answer}
use Rattle.conflict_book.specs.BookViews.{going_book, after_event}
use Rattle.conflict_book.proofs.Telling.{happens_made, moved}

-- the event for the least task leaves a sound view
pub next_comes_sound : (N : Type 0) (image : ImageValue) (book : BookView) (came : Came) (new : View)
    (placers : List Policy) (effect : EffectValue)
    → Sound image book.view → NextComes N image book came new placers effect → Sound image new
next_comes_sound N image book came new placers effect sound next =
    comes_stays_sound N image book next.0 came new placers (next_event_is_given N image book.view next.0 sound next.1)
    sound
    next.2.0

module _ (N : Type 0) (image : ImageValue) (old new : BookView) (aborted : ℕ) (effect : EffectValue) where
  -- an event other than a commit was made
  moved_on : (request : Request) → AdvanceTelling N image old (answers.Moved aborted) new effect
      → AdvanceTelling N image old (advance_by (deed_of request) aborted) new effect
  moved_on Continue reply = reply
  moved_on (Load width rd offset) reply = reply
  moved_on (Store offset bytes value) reply = reply
  moved_on (Enqueue spawn) reply = reply
  moved_on (MakeSub kind) reply = reply
  moved_on (Emit byte) reply = reply
  moved_on End reply = reply
  moved_on (Trap cause) reply = reply

-- what is answered of an event for the least task that was made, and told
module _ (N : Type 0) (image : ImageValue) (book : BookView) (goes_on : book.stopped ≡ false) (view : View)
    (placers : List Policy) (seen : Record) (effect : EffectValue) where
  abbrev after : BookView
  after = after_event seen (moved book view placers)

  abbrev Answers : Deed → Type 0
  Answers deed = AdvanceTelling N image book (advance_by deed seen.aborted) after effect

  made_by : (e : Event N) → IsNextEvent image book.view e → ComesTelling book e (Made seen) view placers effect
      → AdvanceTelling N image book (advance_of seen) after effect
  unfolding happens_made
  made_by (event.Dispatch tile) next comes =
      subst Answers (ap (λ (r : Record). r.deed) (sym comes.0.2)) (
        (event.Dispatch tile, next, tt, happens_made book goes_on (event.Dispatch tile) view placers seen comes.0),
        comes.1,
      )
  made_by (event.Step tile core leg) next comes =
      let step : Event N = event.Step tile core leg in
      subst Answers (ap (λ (r : Record). r.deed) (sym comes.0.2.3))
      (moved_on N image book after seen.aborted effect _
      ((step, next, tt, happens_made book goes_on step view placers seen comes.0), comes.1))
  made_by (event.Split tile) next comes =
      subst Answers (ap (λ (r : Record). r.deed) (sym comes.0.2))
      ((event.Split tile, next, tt, happens_made book goes_on (event.Split tile) view placers seen comes.0), comes.1)
  made_by event.Commit next comes =
      let commit : Event N = event.Commit in
      let happens = happens_made book goes_on commit view placers seen comes.0 in
      subst Answers (ap (λ (r : Record). r.deed) (sym comes.0.2.3))
      ((next, subst (λ n. Happens book commit replies.Ok n after) comes.0.1.1 happens), comes.1)
  made_by (event.Abort tile) next comes = absurd next.least
  made_by (event.Coalesce tile) next comes = absurd next.least

  pub answers_made : NextComes N image book (Made seen) view placers effect
      → AdvanceTelling N image book (advance_of seen) after effect
  answers_made next = made_by next.0 next.1 next.2

-- and of one that was refused
module _ (N : Type 0) (image : ImageValue) (book : BookView) (sound : Sound image book.view) (view : View)
    (placers : List Policy) (effect : EffectValue) where
  refused_by : (e : Event N) → IsNextEvent image book.view e → (reply : Reply)
      → ComesTelling book e (Refused reply) view placers effect
      → AdvanceTelling N image book answers.Memory (moved book view placers) effect
  refused_by e next replies.Ok comes = absurd comes.0
  refused_by e next replies.Memory comes =
      let same = comes.0.2 in (
        inr (
          e,
          next,
          (
            inr (comes.0.0, comes.0.1),
            record {
              none = refl;
              same = λ i. record book { view = same.0 i; placers = same.1 i };
            },
          ),
        ),
        comes.1,
      )
  refused_by e next replies.Empty comes =
      absurd (least_event_is_granted N image book e sound next replies.Empty comes.0.0.cause)
  refused_by e next replies.Busy comes =
      absurd (least_event_is_granted N image book e sound next replies.Busy comes.0.0.cause)
  refused_by e next replies.Stall comes =
      absurd (least_event_is_granted N image book e sound next replies.Stall comes.0.0.cause)
  refused_by e next replies.Stale comes =
      absurd (least_event_is_granted N image book e sound next replies.Stale comes.0.0.cause)
  refused_by e next replies.Firm comes =
      absurd (least_event_is_granted N image book e sound next replies.Firm comes.0.0.cause)
  refused_by e next replies.Ended comes =
      absurd (least_event_is_granted N image book e sound next replies.Ended comes.0.0.cause)

  pub answers_refused : (reply : Reply) → NextComes N image book (Refused reply) view placers effect
      → AdvanceTelling N image book answers.Memory (moved book view placers) effect
  answers_refused reply next = refused_by next.0 next.1 reply next.2

-- in the words of a book's parts: what was told before is forgotten, it was not stopped, and what it has now is told
-- part by part
module _ (N : Type 0) (image : ImageValue) (had sound : CountedView) (forgot : sound ≡ record had { effect = nothing })
    (placers : List Policy) (taps : List TapValue) (stopped : Bool) (goes_on : stopped ≡ false)
    (view : View) (after : List Policy) (steps : ℕ) (same : steps ≡ sound.steps) where
  -- the book before
  abbrev was : Bool → BookView
  was s = record { view = had.view; placers = placers; taps = taps; steps = had.steps; stopped = s }

  -- and after what came
  abbrev becomes : ℕ → Bool → BookView
  becomes n s = record { view = view; placers = after; taps = taps; steps = n; stopped = s }

  came_had : (came : Came) (effect : EffectValue)
      → NextComes N image (going_book sound placers taps) came view after effect
      → NextComes N image (going_book had placers taps) came view after effect
  came_had came effect = subst (λ s. NextComes N image (going_book s placers taps) came view after effect) forgot

  count_had : steps ≡ had.steps
  count_had = same ∙ ap (λ (s : CountedView). s.steps) forgot

  pub parts_made : (seen : Record) (new : BookView) (told effect : EffectValue)
      → new ≡ after_event seen (becomes steps stopped) → effect ≡ told
      → NextComes N image (going_book sound placers taps) (Made seen) view after told
      → AdvanceTelling N image (was stopped) (advance_of seen) new effect
  parts_made seen new told effect is kept next =
      let made = answers_made N image (going_book had placers taps) refl view after seen told
      (came_had (Made seen) told next) in
      subst (AdvanceTelling N image (was stopped) (advance_of seen) new) (sym kept)
      (subst (λ b. AdvanceTelling N image (was stopped) (advance_of seen) b told)
      (sym (is ∙ ap (λ n. after_event seen (becomes n stopped)) count_had))
      (subst (λ s. AdvanceTelling N image (was s) (advance_of seen) (after_event seen (becomes had.steps s)) told)
      (sym goes_on) made))

  pub parts_refused : Sound image had.view → (reply : Reply) (effect : EffectValue)
      → NextComes N image (going_book sound placers taps) (Refused reply) view after effect
      → AdvanceTelling N image (was stopped) answers.Memory (becomes steps stopped) effect
  parts_refused is_sound reply effect next =
      let refused = answers_refused N image (going_book had placers taps) is_sound view after effect reply
      (came_had (Refused reply) effect next) in
      subst (λ n. AdvanceTelling N image (was stopped) answers.Memory (becomes n stopped) effect) (sym count_had)
      (subst (λ s. AdvanceTelling N image (was s) answers.Memory (becomes had.steps s) effect) (sym goes_on) refused)

  pub parts_stay : IsAsBefore (going_book sound placers taps) view after → becomes steps stopped ≡ was stopped
  parts_stay as_before =
      let view_had = as_before.0 ∙ ap (λ (s : CountedView). s.view) forgot in
      λ i. record { view = view_had i; placers = as_before.1 i; taps = taps; steps = count_had i; stopped = stopped }

-- less is left after each event but a commit
pub falls_if_moved : (N : Type 0) (image : ImageValue) (old new : BookView) (reply : Advance) → Sound image old.view
    → AdvanceAnswers N image old reply new → FallsIfMoved reply old.view new.view
falls_if_moved N image old new (answers.Moved aborted) sound answered =
    λ before after had has. advances_fall N image old new answered.0 aborted before after sound answered.1 answered.2
    answered.3 had has
falls_if_moved N image old new answers.Committed sound answered = tt
falls_if_moved N image old new (answers.Ended end) sound answered = tt
falls_if_moved N image old new answers.Memory sound answered = tt

-- a run of one event more
next_one : (N : Type 0) (image : ImageValue) (n : ℕ) (old mid new : BookView) (reply : Advance) → AdvancesBy N image
    n old mid
    → AdvanceAnswers N image mid reply new → AdvanceGoesOn reply → AdvancesBy N image (suc n) old new
next_one N image n old mid new (answers.Moved aborted) advances answered goes =
    (mid, aborted, advances, record { event = answered.0; next = answered.1; happens = answered.3 })
next_one N image n old mid new answers.Committed advances answered goes =
    (mid, 0, advances, record { event = event.Commit; next = answered.0; happens = answered.1 })
next_one N image n old mid new (answers.Ended end) advances answered goes = absurd goes
next_one N image n old mid new answers.Memory advances answered goes = absurd goes

pub one_more : (N : Type 0) (image : ImageValue) (n : ℕ) (old mid new : BookView) (reply : Advance) → AdvancesBy N
    image n old mid
    → AdvanceAnswers N image mid reply new → AdvanceGoesOn reply → AdvancesBy N image (n + 1) old new
one_more N image n old mid new reply advances answered goes =
    subst (λ m. AdvancesBy N image m old new) (sym (add-one n)) (next_one N image n old mid new reply advances
    answered goes)

-- a run that halts has changed nothing at its last reply
pub halts_where : (N : Type 0) (image : ImageValue) (mid new : BookView) (halt : Halt) → AdvanceAnswers N image mid
    (last_answer halt) new → new ≡ mid
halts_where N image mid new (halts.Ended end) answered = answered.2
halts_where N image mid new halts.Memory (inl stopped) = stopped.1
halts_where N image mid new halts.Memory (inr wants) = wants.2.1.same

-- so it is a run that halts there
pub halted : (N : Type 0) (image : ImageValue) (n : ℕ) (old mid new : BookView) (halt : Halt) → Sound image old.view →
    AdvancesBy N image n old mid
    → AdvanceAnswers N image mid (last_answer halt) new → RunsLeast N image old halt new
halted N image n old mid new halt sound advances answered =
    let same = halts_where N image mid new halt answered in
    let few = least_events_are_few N image n old mid sound advances in
    let left = rest_is_there image mid.view few.sound in
    let most = few.few left.0 left.1 in
    record {
      made = n;
      advances = subst (AdvancesBy N image n old) (sym same) advances;
      halts = subst (λ b. AdvanceAnswers N image b (last_answer halt) new) (sym same) answered;
      commits = few.commits;
      longer = ap (λ (b : BookView). length b.view.history) same ∙ few.longer;
      few = omega (arith, most);
    }

-- and there are not enough events to go on for ever
pub not_enough : (N : Type 0) (image : ImageValue) (n : ℕ) (old mid : BookView) → Sound image old.view → AdvancesBy N
    image n old mid
    → n ≡ (old.view.settings.commits + 1) * (old.view.settings.budget + 4) + 1 → ⊥
not_enough N image n old mid sound advances all =
    let few = least_events_are_few N image n old mid sound advances in
    let left = rest_is_there image mid.view few.sound in
    let most = few.few left.0 left.1 in
    let within : length mid.view.history ≤ old.view.settings.commits = subst
    (λ s. length mid.view.history ≤ s.commits) few.settings few.sound.tasks.few in
    let longer = few.longer in
    let product = mul-le (few.commits + 1) (old.view.settings.budget + 4) (old.view.settings.commits + 1)
    (old.view.settings.budget + 4) (omega (arith, within, longer)) (omega arith) in
    omega (arith, all, most, product)
