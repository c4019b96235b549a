-- What is answered of what came of an event, and what is told.
use Rattle.std.proofs.Common.{◌≡◌, Bool, true, false, List, ℕ, inl, inr, refl, sym, ap, subst, ◌∙◌}
use Rattle.guest_image.specs.ImageValue.{ImageValue}
use Rattle.place_policy.specs.Policy.{Policy}
use Rattle.trace_tap.specs.declared.record.Record.{Record}
use Rattle.trace_tap.specs.TapValue.{TapValue}
use Rattle.event_step.specs.spec_state.Effects.{EffectValue, nothing}
use Rattle.event_step.specs.spec_state.View.{View}
use Rattle.event_step.specs.spec_law.Sound.{Sound}
use Rattle.event_step.specs.event_def.declared.event.Came.{Came}
use Rattle.event_step.specs.event_def.declared.event.Came.TheVariants.{Made, Refused}
use Rattle.event_step.specs.event_def.declared.event.Event.{Event}
use Rattle.event_step.specs.event_def.declared.event.Reply.{Reply}
use Rattle.event_step.specs.event_def.declared.event.Reply.TheVariants as replies
use Rattle.event_step.specs.event_def.Book.{BookView, CountedView}
use Rattle.event_step.specs.event_def.Comes.{Comes, IsAsBefore}
use Rattle.event_step.specs.event_def.Events.{IsGiven}
use Rattle.event_step.specs.event_def.Happens.{Happens, IsUnchanged}
use Rattle.event_step.specs.event_def.Telling.{ComesTelling, HappensTelling, TellsHappening}
use Rattle.event_step.proofs.Below.event_basis.Proved.{makes_keeps_settings}
use Rattle.conflict_book.specs.BookViews.{going_book, after_event}

-- the book with another view and other placers
abbrev pub moved : BookView → View → List Policy → BookView
moved book view placers = record book { view = view; placers = placers }

module _ {N : Type 0} (book : BookView) (goes_on : book.stopped ≡ false) (e : Event N) (view : View)
    (placers : List Policy) where
  -- an event that was made
  unfoldable pub happens_made : (seen : Record) → Comes book e (Made seen) view placers
      → Happens book e replies.Ok seen.aborted (after_event seen (moved book view placers))
  happens_made seen comes = record {
    goes_on = goes_on;
    granted = comes.0;
    makes = comes.1;
    seen = seen;
    is_record = comes.2;
    noted_it = refl;
    steps = refl;
    stopped = goes_on;
  }

  -- nothing has changed
  unchanged : IsAsBefore book view placers → IsUnchanged book 0 (moved book view placers)
  unchanged same = record { none = refl; same = λ i. record book { view = same.0 i; placers = same.1 i } }

  -- an event that was refused
  pub happens_refused : (reply : Reply) → Comes book e (Refused reply) view placers
      → Happens book e reply 0 (moved book view placers)
  happens_refused replies.Ok comes = absurd comes
  happens_refused replies.Memory comes = (inr (comes.0, comes.1), unchanged comes.2)
  happens_refused replies.Empty comes = record { goes_on = goes_on; refused = comes.0; unchanged = unchanged comes.1 }
  happens_refused replies.Busy comes = record { goes_on = goes_on; refused = comes.0; unchanged = unchanged comes.1 }
  happens_refused replies.Stall comes = record { goes_on = goes_on; refused = comes.0; unchanged = unchanged comes.1 }
  happens_refused replies.Stale comes = record { goes_on = goes_on; refused = comes.0; unchanged = unchanged comes.1 }
  happens_refused replies.Firm comes = record { goes_on = goes_on; refused = comes.0; unchanged = unchanged comes.1 }
  happens_refused replies.Ended comes = record { goes_on = goes_on; refused = comes.0; unchanged = unchanged comes.1 }

  -- what an event tells that was made
  pub made_telling : (seen : Record) (effect : EffectValue) → ComesTelling book e (Made seen) view placers effect
      → HappensTelling book e replies.Ok seen.aborted (after_event seen (moved book view placers)) effect
  unfolding happens_made
  made_telling seen effect comes = (happens_made seen comes.0, comes.1)

  -- one that was refused tells nothing
  told_refused : (reply : Reply) (effect : EffectValue) (comes : Comes book e (Refused reply) view placers)
      → effect ≡ nothing
      → TellsHappening book e reply 0 (moved book view placers) (happens_refused reply comes) effect
  told_refused replies.Ok effect comes none = absurd comes
  told_refused replies.Memory effect comes none = none
  told_refused replies.Empty effect comes none = none
  told_refused replies.Busy effect comes none = none
  told_refused replies.Stall effect comes none = none
  told_refused replies.Stale effect comes none = none
  told_refused replies.Firm effect comes none = none
  told_refused replies.Ended effect comes none = none

  pub refused_telling : (reply : Reply) (effect : EffectValue)
      → ComesTelling book e (Refused reply) view placers effect
      → HappensTelling book e reply 0 (moved book view placers) effect
  refused_telling reply effect comes =
      (happens_refused reply comes.0, told_refused reply effect comes.0 comes.1)

-- in the words of a book's parts: what was told before is forgotten, it was not stopped, and what it has now is told
-- part by part
module _ {N : Type 0} (had sound : CountedView) (forgot : sound ≡ record had { effect = nothing })
    (placers : List Policy) (taps : List TapValue) (stopped : Bool) (goes_on : stopped ≡ false)
    (e : Event N) (view : View) (after : List Policy) (steps : ℕ) (same : steps ≡ sound.steps) where
  -- the book before
  abbrev before : Bool → BookView
  before s = record { view = had.view; placers = placers; taps = taps; steps = had.steps; stopped = s }

  -- and after what came
  abbrev behind : ℕ → Bool → BookView
  behind n s = record { view = view; placers = after; taps = taps; steps = n; stopped = s }

  as_had : (came : Came) (effect : EffectValue) → ComesTelling (going_book sound placers taps) e came view after effect
      → ComesTelling (going_book had placers taps) e came view after effect
  as_had came effect = subst (λ s. ComesTelling (going_book s placers taps) e came view after effect) forgot

  steps_had : steps ≡ had.steps
  steps_had = same ∙ ap (λ (s : CountedView). s.steps) forgot

  pub part_made : (seen : Record) (new : BookView) (told effect : EffectValue)
      → new ≡ after_event seen (behind steps stopped) → effect ≡ told
      → ComesTelling (going_book sound placers taps) e (Made seen) view after told
      → HappensTelling (before stopped) e replies.Ok seen.aborted new effect
  part_made seen new told effect is kept comes =
      let made = made_telling (going_book had placers taps) refl e view after seen told
      (as_had (Made seen) told comes) in
      subst (HappensTelling (before stopped) e replies.Ok seen.aborted new) (sym kept)
      (subst (λ b. HappensTelling (before stopped) e replies.Ok seen.aborted b told)
      (sym (is ∙ ap (λ n. after_event seen (behind n stopped)) steps_had))
      (subst (λ s. HappensTelling (before s) e replies.Ok seen.aborted (after_event seen (behind had.steps s)) told)
      (sym goes_on) made))

  pub part_refused : (reply : Reply) (effect : EffectValue)
      → ComesTelling (going_book sound placers taps) e (Refused reply) view after effect
      → HappensTelling (before stopped) e reply 0 (behind steps stopped) effect
  part_refused reply effect comes =
      let refused = refused_telling (going_book had placers taps) refl e view after reply effect
      (as_had (Refused reply) effect comes) in
      subst (λ n. HappensTelling (before stopped) e reply 0 (behind n stopped) effect) (sym steps_had)
      (subst (λ s. HappensTelling (before s) e reply 0 (behind had.steps s) effect) (sym goes_on) refused)

-- what was forgotten tells nothing
pub forgot_effect : (had sound : CountedView) → sound ≡ record had { effect = nothing } → sound.effect ≡ nothing
forgot_effect had sound forgot = ap (λ (s : CountedView). s.effect) forgot

-- the book of a state, by its parts
abbrev pub parts_of : List Policy → List TapValue → Bool → CountedView → BookView
parts_of placers taps stopped s =
    record { view = s.view; placers = placers; taps = taps; steps = s.steps; stopped = stopped }

-- it stays where what was told is forgotten
pub parts_forgot : (placers : List Policy) (taps : List TapValue) (stopped : Bool) (had sound : CountedView)
    → sound ≡ record had { effect = nothing }
    → parts_of placers taps stopped sound ≡ parts_of placers taps stopped had
parts_forgot placers taps stopped had sound forgot = ap (parts_of placers taps stopped) forgot

-- a stopped book is out of memory, and tells nothing
pub stopped_telling : {N : Type 0} (had sound : CountedView) → sound ≡ record had { effect = nothing }
    → (placers : List Policy) (taps : List TapValue) (stopped : Bool) → stopped ≡ true → (e : Event N)
    → HappensTelling (parts_of placers taps stopped had) e replies.Memory 0 (parts_of placers taps stopped sound)
    sound.effect
stopped_telling had sound forgot placers taps stopped is_stopped e = (
  (inl is_stopped, record { none = refl; same = parts_forgot placers taps stopped had sound forgot }),
  forgot_effect had sound forgot,
)

-- the settings stay, whatever comes of an event
module _ (N : Type 0) (image : ImageValue) (book : BookView) (e : Event N) (new : View) (placers : List Policy)
    (given : IsGiven image book.view.settings e) (sound : Sound image book.view) where
  pub comes_keeps_settings : (came : Came) → Comes book e came new placers → new.settings ≡ book.view.settings
  comes_keeps_settings (Made seen) comes = makes_keeps_settings N image book e seen.aborted new placers given sound
      comes.0 comes.1
  comes_keeps_settings (Refused replies.Ok) comes = absurd comes
  comes_keeps_settings (Refused replies.Memory) comes = ap (λ v. v.settings) comes.2.0
  comes_keeps_settings (Refused replies.Empty) comes = ap (λ v. v.settings) comes.1.0
  comes_keeps_settings (Refused replies.Busy) comes = ap (λ v. v.settings) comes.1.0
  comes_keeps_settings (Refused replies.Stall) comes = ap (λ v. v.settings) comes.1.0
  comes_keeps_settings (Refused replies.Stale) comes = ap (λ v. v.settings) comes.1.0
  comes_keeps_settings (Refused replies.Firm) comes = ap (λ v. v.settings) comes.1.0
  comes_keeps_settings (Refused replies.Ended) comes = ap (λ v. v.settings) comes.1.0
