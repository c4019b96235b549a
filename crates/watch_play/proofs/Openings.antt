-- What is told before the first act.
use Rattle.std.proofs.Common.{◌≡◌, ◌++◌, List, ℕ, [], Bool, true, false, Result, Ok, refl, sym, ap, subst}
use Rattle.std.proofs.Common.{◌∙◌, append-nil}
use Rattle.std.proofs.Common.{arith}
use Rattle.std.specs.Prelude.{if◌then◌else◌}
use Rattle.std.proofs.KnownBytes.{Appends-nil}
use Rattle.guest_image.specs.ImageValue.{ImageValue}
use Rattle.sim_io.specs.Parts.{SinkTakes}
use Rattle.sim_io.specs.Streams.{SinkState}
use Rattle.watch_counts.specs.spec_state.declared.settings.Settings.{Settings}
use Rattle.watch_counts.specs.event_def.Book.{BookView}
use Rattle.watch_counts.specs.watch_text.declared.head.CourseWord.{CourseWord}
use Rattle.watch_counts.specs.watch_text.Opening.{head_line, placed_lines}
use Rattle.watch_play.specs.declared.stop.StoryStop.{StoryStop}
use Rattle.watch_play.specs.declared.telling.Telling.{Telling}
use Rattle.watch_play.specs.declared.telling.Telling.TheVariants as tellings
use Rattle.watch_play.specs.Courses.{course_word}
use Rattle.watch_play.specs.Telling.{Plan, TellsOpening, TellsText, lines_by, text_with}
use Rattle.watch_play.specs.Texts.{has_counts, has_lines, opening_lines, story_lines}

-- the lines of no moment
lines_begin : (N : Type 0) (plan : Plan) (opening : BookView)
    → lines_by {N = N} plan opening [] ≡ opening_lines plan.course plan.settings plan.image opening.view plan.telling
lines_begin N plan opening = by_telling plan.telling where
  by_telling : (telling : Telling)
      → story_lines {N = N} plan.course plan.settings plan.image opening.view telling []
      ≡ opening_lines plan.course plan.settings plan.image opening.view telling
  by_telling tellings.Lines =
      append-nil (opening_lines plan.course plan.settings plan.image opening.view tellings.Lines)
  by_telling (tellings.Views each) =
      append-nil (opening_lines plan.course plan.settings plan.image opening.view (tellings.Views each))
  by_telling tellings.Memory = refl
  by_telling (tellings.Counts each) = refl

-- and no line of counts
no_counts_behind : (told : Bool) (lines : List ℕ) → (if told then lines ++ [] else lines) ≡ lines
no_counts_behind true lines = append-nil lines
no_counts_behind false lines = refl

pub text_begins : (N : Type 0) (plan : Plan) (opening : BookView)
    → text_with {N = N} plan opening [] []
    ≡ opening_lines plan.course plan.settings plan.image opening.view plan.telling
text_begins N plan opening =
    no_counts_behind (has_counts plan.telling) (lines_by {N = N} plan opening []) ∙ lines_begin N plan opening

-- ---- whether lines are told

-- by two tests
by_tests : (lines counts shown told : Bool) (all head : List ℕ) → shown ≡ lines → told ≡ counts
    → (if shown then all else if told then head else []) ≡ (if lines then all else if counts then head else [])
by_tests lines counts shown told all head shown_is told_is =
    λ i. if shown_is i then all else if told_is i then head else []

module _ (plan : Plan) (opening : BookView) (course : CourseWord) (settings : Settings) (image : ImageValue)
    (telling : Telling) (image_is : plan.image ≡ image) (course_is : course_word plan.course ≡ course)
    (settings_is : plan.settings ≡ settings) (telling_is : plan.telling ≡ telling) where
  -- the head, and the tasks in blocks
  all_is : head_line (course_word plan.course) plan.settings plan.image ++ placed_lines opening.view
      ≡ head_line course settings image ++ placed_lines opening.view
  all_is = λ i. head_line (course_is i) (settings_is i) (image_is i) ++ placed_lines opening.view

  head_is : head_line (course_word plan.course) plan.settings plan.image ≡ head_line course settings image
  head_is = λ i. head_line (course_is i) (settings_is i) (image_is i)

  opening_is : (lines counts : Bool) → has_lines telling ≡ lines → has_counts telling ≡ counts
      → opening_lines plan.course plan.settings plan.image opening.view plan.telling
      ≡ (if lines then head_line course settings image ++ placed_lines opening.view
      else if counts then head_line course settings image else [])
  opening_is lines counts shown told =
      by_tests lines counts (has_lines plan.telling) (has_counts plan.telling)
      (head_line (course_word plan.course) plan.settings plan.image ++ placed_lines opening.view)
      (head_line (course_word plan.course) plan.settings plan.image)
      (ap has_lines telling_is ∙ shown) (ap has_counts telling_is ∙ told)
      ∙ (λ i. if lines then all_is i else if counts then head_is i else [])

  -- the lines before the first act were told
  pub opening_told : (before after : SinkState) (r : Result (Unit {0}) StoryStop) → has_lines telling ≡ true
      → TellsText (head_line course settings image ++ placed_lines opening.view) before after r
      → TellsOpening plan opening before after r
  opening_told before after r lines told =
      subst (λ text. TellsText text before after r) (sym (opening_is true (has_counts telling) lines refl)) told

  -- or the head was
  pub head_told : (before after : SinkState) (r : Result (Unit {0}) StoryStop) → has_lines telling ≡ false
      → has_counts telling ≡ true → TellsText (head_line course settings image) before after r
      → TellsOpening plan opening before after r
  head_told before after r none counts told =
      subst (λ text. TellsText text before after r) (sym (opening_is false true none counts)) told

  -- or nothing was
  pub opening_untold : (sink : SinkState) → has_lines telling ≡ false → has_counts telling ≡ false
      → TellsOpening plan opening sink sink (Ok tt)
  opening_untold sink none uncounted =
      (subst (SinkTakes sink sink) (sym (opening_is false false none uncounted)) (Appends-nil sink.taken), omega arith)
