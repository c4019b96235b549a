-- What is told and counted behind an act.
use Rattle.std.proofs.Common.{◌≡◌, ◌≢◌, ◌+◌, ◌<◌, ◌≤◌, ◌==◌, ◌&&◌, ℕ, suc, Bool, true, false, List, [], ◌∷◌}
use Rattle.std.proofs.Common.{◌++◌, length}
use Rattle.std.proofs.Common.{Result, Ok, Err, inr, refl, sym, ap, subst, ◌∙◌, add-one, append_assoc, append-nil, arith}
use Rattle.std.proofs.Common.{eq-eqb}
use Rattle.std.proofs.KnownBytes.{Appends-nil}
use Rattle.std.specs.Prelude.{if◌then◌else◌, not}
use Rattle.std.specs.List.{flat_map}
use Rattle.std.proofs.lemmas.Bool.{cond-false, cond-true}
use Rattle.std.proofs.lemmas.List.{length_push}
use Rattle.std.proofs.lemmas.List.Concat.{flat_map-append}
use Rattle.sim_io.specs.Parts.{SinkTakes, TakesFront, Writes}
use Rattle.sim_io.specs.Streams.{SinkState}
use Rattle.sim_io.proofs.Fronts.{TakesFront-more, TakesFront-then}
use Rattle.sim_io.proofs.Proved.{Wrote, wrote_more}
use Rattle.guest_image.specs.ImageValue.{ImageValue}
use Rattle.watch_counts.specs.event_def.Book.{BookView}
use Rattle.watch_counts.specs.step_script.Playing.{PlayState}
use Rattle.watch_counts.specs.watch_text.Moments.{Moment}
use Rattle.watch_counts.specs.declared.counts.Counts.{Counts}
use Rattle.watch_counts.specs.Capped.{capped_counts}
use Rattle.watch_counts.specs.Texts.{counts_line}
use Rattle.watch_play.specs.declared.stop.StoryStop.{StoryStop}
use Rattle.watch_play.specs.declared.stop.StoryStop.TheVariants as stops
use Rattle.watch_play.specs.declared.telling.Telling.{Telling}
use Rattle.watch_play.specs.declared.telling.Telling.TheVariants as tellings
use Rattle.watch_play.specs.Counted.{after_act, after_stage, counts_lines, counts_of, is_due_behind, last_counts}
use Rattle.watch_play.specs.Counted.{line_behind}
use Rattle.watch_play.specs.Courses.{Course, Stage}
use Rattle.watch_play.specs.Stories.{ActComes, Makes, NextStage, Passes, StoryLeads}
use Rattle.watch_play.specs.Telling.{AllTaken, GoesOn, HasCome, HasStory, MostTaken, Plan, TellsText, TookMost}
use Rattle.watch_play.specs.Telling.{lines_by, text_so_far, text_with}
use Rattle.watch_play.specs.declared.watch.SoTold.{SoTold}
use Rattle.watch_play.specs.Texts.{has_counts, moment_lines, opening_lines, story_lines}

-- ---- the text of a story

-- with more lines of counts
with_more : (told : Bool) (lines counts more : List ℕ)
    → (if told then lines ++ (counts ++ more) else lines)
    ≡ (if told then lines ++ counts else lines) ++ (if told then more else [])
with_more true lines counts more = sym (append_assoc lines counts more)
with_more false lines counts more = sym (append-nil lines)

module _ {N : Type 0} (plan : Plan) (opening : BookView) where
  pub more_counts : (counts more : List ℕ) (moments : List (Moment N))
      → text_with plan opening (counts ++ more) moments
      ≡ text_with plan opening counts moments ++ (if has_counts plan.telling then more else [])
  more_counts counts more moments =
      with_more (has_counts plan.telling) (lines_by plan opening moments) counts more

  -- with the lines of one moment more
  pub more_lines : (counts : List ℕ) (moments : List (Moment N)) (m : Moment N)
      → text_with plan opening counts (moments ++ m ∷ [])
      ≡ text_with plan opening counts moments ++ moment_lines plan.telling m
  more_lines counts moments m = by_telling plan.telling where
    joined : (front : List ℕ) (f : Moment N → List ℕ)
        → front ++ flat_map f (moments ++ m ∷ []) ≡ (front ++ flat_map f moments) ++ f m
    joined front f =
        ap (λ l. front ++ l) (flat_map-append f moments (m ∷ []) ∙ ap (λ l. flat_map f moments ++ l) (append-nil (f m)))
        ∙ sym (append_assoc front (flat_map f moments) (f m))

    by_telling : (telling : Telling)
        → (if has_counts telling
        then story_lines plan.course plan.settings plan.image opening.view telling (moments ++ m ∷ []) ++ counts
        else story_lines plan.course plan.settings plan.image opening.view telling (moments ++ m ∷ []))
        ≡ (if has_counts telling
        then story_lines plan.course plan.settings plan.image opening.view telling moments ++ counts
        else story_lines plan.course plan.settings plan.image opening.view telling moments) ++ moment_lines telling m
    by_telling tellings.Lines =
        joined (opening_lines plan.course plan.settings plan.image opening.view tellings.Lines)
        (moment_lines tellings.Lines)
    by_telling (tellings.Views each) =
        joined (opening_lines plan.course plan.settings plan.image opening.view (tellings.Views each))
        (moment_lines (tellings.Views each))
    by_telling tellings.Memory = refl
    by_telling (tellings.Counts each) =
        sym (append-nil (opening_lines plan.course plan.settings plan.image opening.view (tellings.Counts each)
        ++ counts))

  -- where counts are told, moments have no lines
  pub same_lines : (counts : List ℕ) (moments front : List (Moment N)) → has_counts plan.telling ≡ true
      → text_with plan opening counts moments ≡ text_with plan opening counts front
  same_lines counts moments front = by_telling plan.telling where
    by_telling : (telling : Telling) → has_counts telling ≡ true
        → (if has_counts telling
        then story_lines plan.course plan.settings plan.image opening.view telling moments ++ counts
        else story_lines plan.course plan.settings plan.image opening.view telling moments)
        ≡ (if has_counts telling
        then story_lines plan.course plan.settings plan.image opening.view telling front ++ counts
        else story_lines plan.course plan.settings plan.image opening.view telling front)
    by_telling tellings.Lines are = absurd (cc are)
    by_telling (tellings.Views each) are = absurd (cc are)
    by_telling tellings.Memory are = absurd (cc are)
    by_telling (tellings.Counts each) are = refl

-- an act adds at most one moment
few_more : {N : Type 0} {image : ImageValue} {course : Course} {number : ℕ} {at : Stage} {front : List (Moment N)}
    {old : PlayState} {moments : List (Moment N)} {new : PlayState}
    → ActComes image course number at front old moments new → length moments ≤ length front + 1
few_more (Passes act is passes same_moments same) = let count = ap length same_moments in omega (arith, count)
few_more {front = front} (Makes m is asked at_is number_is moment moments_are) =
    let count = ap length moments_are in
    let pushed = length_push front m in
    omega (arith, count, pushed)

-- ---- behind an act that came

module _ (N : Type 0) (plan : Plan) (opening : BookView) (start : SinkState) (count : ℕ) (at next : Stage)
    (told : SoTold) (new : PlayState) (now : SinkState) (come : HasCome N plan opening count at told new start now)
    (after : NextStage plan.course at new.book.view next) where
  abbrev leads : StoryLeads plan.image plan.course opening (suc count) next come.moments new
  leads = (come.front, come.old, at, come.goes, come.comes, after)

  -- the lines of counts before it, its counts, and those of the story behind it
  abbrev lines_before : List ℕ
  lines_before = counts_lines plan.telling plan.image plan.course opening count at come.front come.old come.goes

  abbrev pub counts_before : Counts
  counts_before = after_act come.comes (counts_of plan.image plan.course opening count at come.front come.old come.goes)

  abbrev due_line : List ℕ
  due_line = if is_due_behind plan.telling plan.course (suc count) at next
      then counts_line (after_stage at next counts_before) new.book.view else []

  abbrev pub told_behind : List ℕ
  told_behind = line_behind plan.telling plan.course (suc count) at next counts_before new.book.view

  text_is : text_so_far plan opening (suc count) next come.moments new leads
      ≡ text_with plan opening lines_before come.moments ++ told_behind
  text_is = more_counts plan opening lines_before due_line come.moments

  abbrev story : HasStory plan opening come.moments new.book
  story = record { count = suc count; stage = next; last = new; goes = leads; book_is = refl }

  abbrev shorter : HasStory plan opening come.front come.old.book
  shorter = record { count = count; stage = at; last = come.old; goes = come.goes; book_is = refl }

  -- where memory runs out for its line of counts
  most : (counted : Bool) → has_counts plan.telling ≡ counted
      → TookMost plan opening come.moments new.book story start now
  most true are =
      MostTaken come.front come.old.book shorter (omega arith) (few_more come.comes)
      (subst (SinkTakes start now) (same_lines plan opening lines_before come.moments come.front are) come.took)
  most false none =
      AllTaken (subst (SinkTakes start now)
      (sym (text_is
      ∙ (λ i. text_with plan opening lines_before come.moments ++ (if none i then due_line else []))
      ∙ append-nil (text_with plan opening lines_before come.moments))) come.took)

  -- what is told behind it, or not
  pub tells_on : (new_told : SoTold) (after_it : SinkState) (r : Result (Unit {0}) StoryStop)
      → new_told.moments ≡ told.moments
      → (has_counts plan.telling ≡ true → new_told.counts ≡ capped_counts (after_stage at next counts_before))
      → TellsText told_behind now after_it r → GoesOn N plan opening (suc count) next new_told new start after_it r
  tells_on new_told after_it (Ok done) same counted tells =
      let more : Wrote start after_it (text_with plan opening lines_before come.moments ++ told_behind) =
      wrote_more {E = StoryStop} start now after_it (text_with plan opening lines_before come.moments) told_behind
      (record { taken = come.took; later = come.later })
      (record { ok = tells.0; err = tt; cause = record { later = tells.1; failed = tt } }) in (
        come.moments,
        record {
          goes = leads;
          told_are = come.told_are ∙ sym same;
          counted = counted;
          took = subst (SinkTakes start after_it) (sym text_is) more.taken;
          later = more.later;
        },
      )
  tells_on new_told after_it (Err stops.Memory) same counted tells = record {
    moments = come.moments;
    story = story;
    took = inr (subst (TookMost plan opening come.moments new.book story start) (sym tells)
        (most (has_counts plan.telling) refl));
  }
  tells_on new_told after_it (Err stops.Sink) same counted tells =
      let last = last_counts plan.telling (after_stage at next counts_before) new in
      let front : TakesFront start after_it ((text_with plan opening lines_before come.moments ++ told_behind) ++ last)
      =
      TakesFront-more start after_it (text_with plan opening lines_before come.moments ++ told_behind) last
      (TakesFront-then start now after_it (text_with plan opening lines_before come.moments) told_behind come.took
      tells.0) in
      let before = come.later in
      record {
        moments = come.moments;
        story = story;
        took = subst (TakesFront start after_it) (ap (λ text. text ++ last) (sym text_is)) front;
        rose = omega (arith, before, tells.1);
      }
