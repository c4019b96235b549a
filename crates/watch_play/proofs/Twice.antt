-- Two stories of one course tell one thing.
use Rattle.std.proofs.Common.{◌≡◌, ◌<◌, ◌+◌, ℕ, zero, suc, arith, inl, inr, Bool, List, []}
use Rattle.std.proofs.Common.{◌∷◌, ◌++◌, length, Some, true, false}
use Rattle.std.specs.Prelude.{IsTrue}
use Rattle.std.proofs.Common.{refl, sym, ap, subst, ◌∙◌}
use Rattle.std.specs.List.{AllZip, enumerate_from}
use Rattle.std.proofs.lemmas.List.{length-append}
use Rattle.std.proofs.lemmas.Bool.{cases_eq, cases_lt}
use Rattle.guest_image.specs.ImageValue.{ImageValue, IsImage}
use Rattle.watch_counts.specs.spec_law.Sound.{Sound}
use Rattle.watch_counts.specs.event_def.declared.event.Event.TheVariants as event
use Rattle.watch_counts.specs.event_def.declared.event.Reply.{Reply}
use Rattle.watch_counts.specs.event_def.declared.event.Reply.TheVariants as replies
use Rattle.watch_counts.specs.event_def.Book.{BookView}
use Rattle.watch_counts.specs.event_def.Opening.{IsOpening}
use Rattle.watch_counts.proofs.Below.event_law.Proved.{opening_is_sound}
use Rattle.watch_counts.specs.step_script.declared.act.Act.{Act}
use Rattle.watch_counts.specs.step_script.declared.act.Act.TheVariants as acts
use Rattle.watch_counts.specs.step_script.declared.saying.Said.{Said}
use Rattle.watch_counts.specs.step_script.declared.saying.Word.{Word}
use Rattle.watch_counts.specs.step_script.declared.saying.Word.TheVariants as words
use Rattle.watch_counts.specs.step_script.Asking.{Attempt, Hands}
use Rattle.watch_counts.specs.step_script.Playing.{Does, PlayState}
use Rattle.watch_counts.specs.step_script.Ranges.{ActIsInRange}
use Rattle.machine_run.specs.outcome_law.Laws.{AreSameBooks}
use Rattle.machine_run.proofs.Below.outcome_law.Proved.{alike_turned, history_too, opening_is_one, GoAlike, all_one}
use Rattle.machine_run.specs.outcome_law.Alike.{inverse_of}
use Rattle.machine_run.proofs.Proved.{opening_settings}
use Rattle.watch_counts.specs.watch_text.Moments.{IsMoment, Moment}
use Rattle.place_policy.specs.Policy.{Policy}
use Rattle.trace_tap.specs.TapValue.{TapValue}
use Rattle.watch_counts.specs.spec_state.declared.settings.Settings.{Settings}
use Rattle.watch_counts.specs.spec_state.Settings.{IsValid}
use Rattle.watch_play.specs.Courses.{Course, EndsAt, GoesOnAt, HasNext, IsAskedBy, Stage, act_of, first_stage}
use Rattle.watch_play.specs.Courses.{next_stage}
use Rattle.watch_play.specs.Leaving.{IsWithin}
use Rattle.watch_play.specs.Replies.{advance_word, said_by, word_by}
use Rattle.watch_play.specs.Stories.{ActComes, Makes, NextStage, Passes, StoryLeads, begun, commits_of}
use Rattle.watch_play.specs.Twice.{EndIsOne, StoryIsOne, TellOneThing}
use Rattle.watch_play.proofs.AskedToo.{asked_too, goes_too, waits_too}
use Rattle.watch_play.proofs.Does.{moment_does}
use Rattle.watch_play.proofs.Leaving.{ComesWell, comes_well, placed_goes_on}
use Rattle.watch_play.proofs.SoundPlays.{IsSoundPlay}

-- ---- what is said of a moment tells its reply

abbrev reply_of : Word → Reply
reply_of (words.Plain reply) = reply
reply_of words.Moved = replies.Ok
reply_of words.Committed = replies.Ok

module _ {N : Type 0} where
  advance_tells : (asks : Attempt N) (reply : Reply) → reply_of (advance_word asks reply) ≡ reply
  advance_tells (Hands event.Commit) replies.Ok = refl
  advance_tells (Hands (event.Dispatch tile)) replies.Ok = refl
  advance_tells (Hands (event.Step tile core leg)) replies.Ok = refl
  advance_tells (Hands (event.Abort tile)) replies.Ok = refl
  advance_tells (Hands (event.Coalesce tile)) replies.Ok = refl
  advance_tells (Hands (event.Split tile)) replies.Ok = refl
  advance_tells asks reply = refl

  word_tells : (act : Act) (asks : Attempt N) (reply : Reply) → reply_of (word_by act asks reply) ≡ reply
  word_tells acts.Advance asks reply = advance_tells asks reply
  word_tells act asks reply = refl

-- two tests of which each holds where the other does
same_test : (a b : Bool) → (IsTrue a → IsTrue b) → (IsTrue b → IsTrue a) → a ≡ b
same_test true true there back = refl
same_test false false there back = refl
same_test true false there back = absurd (cc (there refl))
same_test false true there back = absurd (cc (back refl))

-- ---- lists

zip_pushed : {X : Type 0} (R : X → X → Type 0) (xs ys : List X) (x y : X) → AllZip R xs ys → R x y
    → AllZip R (xs ++ x ∷ []) (ys ++ y ∷ [])
zip_pushed R [] [] x y all last = (last, tt)
zip_pushed R (z ∷ xs) (w ∷ ys) x y all last = (all.0, zip_pushed R xs ys x y all.1 last)
zip_pushed R [] (w ∷ ys) x y all last = absurd all
zip_pushed R (z ∷ xs) [] x y all last = absurd all

-- ---- two stories

module _ (N : Type 0) (image : ImageValue) (course : Course) (opening other_opening : BookView)
    (sound : Sound image opening.view) (other_sound : Sound image other_opening.view)
    (going : opening.stopped ≡ false) (other_going : other_opening.stopped ≡ false)
    (within : IsWithin course opening.view.settings) (other_within : IsWithin course other_opening.view.settings)
    (same : AreSameBooks opening other_opening) where
  -- as far as both have come
  record GoTogether (stage other_stage : Stage) (moments others : List (Moment N)) (last other : PlayState)
      : Type 0 where
    stages : other_stage ≡ stage
    numbers : length others ≡ length moments
    tell : AllZip TellOneThing moments others
    go : GoAlike image opening.view.settings last other

  commits_are : (p q : PlayState) → AreSameBooks p.book q.book → commits_of q ≡ commits_of p
  commits_are p q books = ap length (history_too books.0 p.book.view q.book.view books.1.view)

  -- one moment of each, of plays that go alike
  module _ (n : ℕ) (at : Stage) (p q p' q' : PlayState) (front other_front : List (Moment N)) (m m' : Moment N)
      (so_far : GoTogether at at front other_front p q) (good : IsSoundPlay image opening.view.settings p)
      (other_good : IsSoundPlay image other_opening.view.settings q)
      (inside : ActIsInRange opening.view.settings.tiles opening.view.settings.cores m.act)
      (act_is : m'.act ≡ m.act) (is : IsMoment image m p p') (is' : IsMoment image m' q q') where
    does : Does N image m.act p (said_by m) p'
    does = moment_does N image m p p' good.sound good.going is

    other_does : Does N image m.act q (said_by m') q'
    other_does =
        subst (λ a. Does N image a q (said_by m') q') act_is
        (moment_does N image m' q q' other_good.sound other_good.going is')

    both : (said_by m' ∷ [] ≡ said_by m ∷ []) × GoAlike image opening.view.settings p' q'
    both =
        all_one N image opening.view.settings (m.act ∷ []) p q p' q' (said_by m ∷ []) (said_by m' ∷ []) so_far.go
        (inside, tt) (p', does, refl) (q', other_does, refl)

    said_is : said_by m' ≡ said_by m
    said_is = cc (both.0)

    same_reply : m'.reply ≡ m.reply
    same_reply =
        sym (word_tells m'.act m'.asks m'.reply) ∙ (ap (λ (s : Said). reply_of s.word) said_is
        ∙ word_tells m.act m.asks m.reply)

    one_thing : m'.at ≡ m.at → m'.number ≡ m.number → TellOneThing m m'
    one_thing at_is number_is = record {
      at_is = at_is;
      number_is = number_is;
      act_is = act_is;
      reply_is = same_reply;
      aborted_is = ap (λ (s : Said). s.aborted) said_is;
      old =
          subst (λ b. AreSameBooks b m'.old) (sym is.old_is) (subst (AreSameBooks p.book) (sym is'.old_is)
          so_far.go.books);
      new =
          subst (λ b. AreSameBooks b m'.new) (sym is.new_is) (subst (AreSameBooks p'.book) (sym is'.new_is)
          both.1.books);
    }

  -- one act more of both
  module _ (n : ℕ) (at : Stage) (p q last other : PlayState) (front other_front moments others : List (Moment N))
      (so_far : GoTogether at at front other_front p q)
      (well : ComesWell image course opening.view.settings n at p)
      (other_good : IsSoundPlay image other_opening.view.settings q) where
    -- both go on to one stage, since the least task waits on both or on neither
    one_stage : (stage other_stage : Stage) → NextStage course at last.book.view stage
        → NextStage course at other.book.view other_stage → AreSameBooks last.book other.book → other_stage ≡ stage
    one_stage stage other_stage next other_next books =
        let one_wait : other_next.waits ≡ next.waits = same_test other_next.waits next.waits
        (λ t. next.waits_is.1 (waits_too (inverse_of books.0) other.book.view last.book.view
        (alike_turned books.0 last.book.view other.book.view books.1.view) (other_next.waits_is.0 t)))
        (λ t. other_next.waits_is.1 (waits_too books.0 last.book.view other.book.view books.1.view
        (next.waits_is.0 t))) in
        other_next.stage_is
        ∙ ((λ i. next_stage course at (commits_are last other books i) (one_wait i)) ∙ sym next.stage_is)

    together : (stage other_stage : Stage) → NextStage course at last.book.view stage
        → NextStage course at other.book.view other_stage → GoAlike image opening.view.settings last other
        → length others ≡ length moments → AllZip TellOneThing moments others
        → GoTogether stage other_stage moments others last other
    together stage other_stage next other_next go numbers tell = record {
      stages = one_stage stage other_stage next other_next go.books;
      numbers = numbers;
      tell = tell;
      go = go;
    }

    same_act : (a b : Act) → act_of at ≡ Some a → act_of at ≡ Some b → b ≡ a
    same_act a b one two = (let some : Some b ≡ Some a = sym two ∙ one in cc (some))

    -- what one asks for the other one does
    asked_of_other : (a b : Act) → b ≡ a → IsAskedBy course p.book.view a → IsAskedBy course q.book.view b
    asked_of_other a b is asked =
        let books = so_far.go.books in
        subst (IsAskedBy course q.book.view) (sym is)
        (asked_too course books.0 p.book.view q.book.view books.1.view a asked)

    asked_of_one : (a b : Act) → b ≡ a → IsAskedBy course q.book.view b → IsAskedBy course p.book.view a
    asked_of_one a b is asked =
        let books = so_far.go.books in
        subst (IsAskedBy course p.book.view) is
        (asked_too course (inverse_of books.0) q.book.view p.book.view
        (alike_turned books.0 p.book.view q.book.view books.1.view) b asked)

    one_more : (stage other_stage : Stage) → NextStage course at last.book.view stage
        → NextStage course at other.book.view other_stage → ActComes image course n at front p moments last
        → ActComes image course n at other_front q others other
        → GoTogether stage other_stage moments others last other
    one_more stage other_stage next other_next (Passes act is unasked kept stays)
        (Passes act' is' unasked' kept' stays') =
        together stage other_stage next other_next
        (subst (λ x. GoAlike image opening.view.settings x other) (sym stays)
        (subst (λ y. GoAlike image opening.view.settings p y) (sym stays') so_far.go))
        (ap length kept' ∙ (so_far.numbers ∙ ap length (sym kept)))
        (subst (λ l. AllZip TellOneThing l others) (sym kept)
        (subst (λ l. AllZip TellOneThing front l) (sym kept') so_far.tell))
    one_more stage other_stage next other_next (Passes act is unasked kept stays)
        (Makes m' is' asked' at_is' number_is' moment' more') =
        absurd (unasked (asked_of_one act m'.act (same_act act m'.act is.0 is'.0) asked'))
    one_more stage other_stage next other_next (Makes m is asked at_is number_is moment more)
        (Passes act' is' unasked' kept' stays') =
        absurd (unasked' (asked_of_other m.act act' (same_act m.act act' is.0 is'.0) asked))
    one_more stage other_stage next other_next (Makes m is asked at_is number_is moment more)
        (Makes m' is' asked' at_is' number_is' moment' more') =
        let act_is = same_act m.act m'.act is.0 is'.0 in
        let inside = well.inside m.act is.0 in
        let number : m'.number ≡ m.number =
        number_is' ∙ (ap (λ k. k + 1) so_far.numbers ∙ sym number_is) in
        let thing = one_thing n at p q last other front other_front m m' so_far well.good other_good inside
        act_is moment
        moment' (at_is' ∙ sym at_is) number in
        let go = (both n at p q last other front other_front m m' so_far well.good other_good inside act_is moment
        moment').1 in
        together stage other_stage next other_next go
        (ap length more' ∙ (simp length-append refl ∙ (ap (λ k. k + 1) so_far.numbers
        ∙ (sym (simp length-append refl) ∙ ap length (sym more)))))
        (subst (λ l. AllZip TellOneThing l others) (sym more)
        (subst (λ l. AllZip TellOneThing (front ++ m ∷ []) l) (sym more')
        (zip_pushed TellOneThing front other_front m m' so_far.tell thing)))

  go_together : (count : ℕ) (stage other_stage : Stage) (moments others : List (Moment N)) (last other : PlayState)
      → StoryLeads image course opening count stage moments last
      → StoryLeads image course other_opening count other_stage others other
      → GoTogether stage other_stage moments others last other
  go_together zero stage other_stage moments others last other leads other_leads =
      let one = first_stage course (length opening.view.history) in
      let two = first_stage course (length other_opening.view.history) in
      subst (λ s. GoTogether s other_stage moments others last other) (sym leads.2)
      (subst (λ s. GoTogether one s moments others last other) (sym other_leads.2)
      (subst (λ p. GoTogether one two moments others p other) (sym leads.1)
      (subst (λ q. GoTogether one two moments others (begun opening) q) (sym other_leads.1)
      (subst (λ l. GoTogether one two l others (begun opening) (begun other_opening)) (sym leads.0)
      (subst (λ l. GoTogether one two [] l (begun opening) (begun other_opening)) (sym other_leads.0) first)))))
    where
      first : GoTogether (first_stage course (length opening.view.history))
          (first_stage course (length other_opening.view.history)) [] [] (begun opening) (begun other_opening)
      first = record {
        stages = ap (first_stage course) (commits_are (begun opening) (begun other_opening) same);
        numbers = refl;
        tell = tt;
        go = record {
          books = same;
          held = refl;
          sound = sound;
          sound' = other_sound;
          settings_are = refl;
          runs = tt;
        };
      }
  go_together (suc n) stage other_stage moments others last other leads other_leads =
      let before = go_together n leads.2 other_leads.2 leads.0 other_leads.0 leads.1 other_leads.1 leads.3
      other_leads.3 in
      let well = comes_well N image opening sound going course n leads.2 leads.0 leads.1 within leads.3 in
      let other_well = comes_well N image other_opening other_sound other_going course n other_leads.2 other_leads.0
      other_leads.1 other_within other_leads.3 in
      let so_far = subst (λ s. GoTogether leads.2 s leads.0 other_leads.0 leads.1 other_leads.1) before.stages before in
      let comes = subst (λ s. ActComes image course n s other_leads.0 other_leads.1 others other) before.stages
      other_leads.4 in
      let other_next = subst (λ s. NextStage course s other.book.view other_stage) before.stages other_leads.5 in
      one_more n leads.2 leads.1 other_leads.1 last other leads.0 other_leads.0 moments others so_far well
      other_well.good stage other_stage leads.5 other_next leads.4 comes

pub story_is_one : (N : Type 0) → StoryIsOne N
story_is_one N image course settings placers taps opening other_opening count stage other_stage moments others last
    other fits valid within opens other_opens leads other_leads =
    let goes : (book : BookView) → IsOpening image settings placers taps book → book.stopped ≡ false =
    λ book is. placed_goes_on image.kind (enumerate_from 0 image.tasks) _ book is.placed in
    let sound = opening_is_sound image settings placers taps opening fits valid opens in
    let other_sound = opening_is_sound image settings placers taps other_opening fits valid other_opens in
    let so = go_together N image course opening other_opening sound other_sound (goes opening opens)
    (goes other_opening other_opens)
    (subst (IsWithin course) (sym (opening_settings image settings placers taps opening opens)) within)
    (subst (IsWithin course) (sym (opening_settings image settings placers taps other_opening other_opens)) within)
    (opening_is_one image settings placers taps opening other_opening opens other_opens) count stage other_stage
    moments others last other leads other_leads in
    (so.stages, so.tell, so.go.books)

-- ---- the end of a course

-- so many acts of a longer story lead to where the course goes on
record GoesOnThen (N : Type 0) (image : ImageValue) (course : Course) (opening : BookView) (count : ℕ) : Type 0 where
  stage : Stage
  moments : List (Moment N)
  play : PlayState
  leads : StoryLeads image course opening count stage moments play
  act : Act
  next : HasNext course stage play.book.view act

module _ (N : Type 0) (image : ImageValue) (course : Course) (opening : BookView) where
  next_of : (n : ℕ) (at : Stage) (front moments : List (Moment N)) (old last : PlayState)
      → ActComes image course n at front old moments last → (act : Act) × HasNext course at old.book.view act
  next_of n at front moments old last (Passes act next unasked kept stays) = (act, next)
  next_of n at front moments old last (Makes m next asked at_is number_is moment more) = (m.act, next)

  goes_on_then : (count more : ℕ) (stage : Stage) (moments : List (Moment N)) (last : PlayState) → count < more
      → StoryLeads image course opening more stage moments last → GoesOnThen N image course opening count
  goes_on_then count zero stage moments last fewer leads = absurd (omega (arith, fewer))
  goes_on_then count (suc n) stage moments last fewer leads = elim (cases_eq count n) [
    | inl same ↦
        let next = next_of n leads.2 leads.0 moments leads.1 last leads.4 in
        record {
          stage = leads.2;
          moments = leads.0;
          play = leads.1;
          leads = subst (λ k. StoryLeads image course opening k leads.2 leads.0 leads.1) (sym same) leads.3;
          act = next.0;
          next = next.1;
        }
    | inr other ↦
        goes_on_then count n leads.2 leads.0 leads.1 (omega (arith, fewer, other)) leads.3
  ]

module _ (N : Type 0) (image : ImageValue) (course : Course) (settings : Settings) (placers : List Policy)
    (taps : List TapValue) (opening : BookView) (fits : IsImage image) (valid : IsValid settings)
    (within : IsWithin course settings) (opens : IsOpening image settings placers taps opening) where
  none_longer : (count other : ℕ) (stage other_stage : Stage) (moments others : List (Moment N))
      (last other_last : PlayState) → StoryLeads image course opening count stage moments last
      → EndsAt course stage last.book.view → StoryLeads image course opening other other_stage others other_last
      → count < other → ⊥
  none_longer count other stage other_stage moments others last other_last leads ends other_leads fewer =
      let then : GoesOnThen N image course opening count =
      goes_on_then N image course opening count other other_stage others other_last fewer other_leads in
      let one = story_is_one N image course settings placers taps opening opening count stage then.stage moments
      then.moments last then.play fits valid within opens opens leads then.leads in
      let books : AreSameBooks last.book then.play.book = one.2 in
      ends then.act (
        subst (λ s. act_of s ≡ Some then.act) one.0 then.next.0,
        goes_too course stage (inverse_of books.0) then.play.book.view last.book.view
            (alike_turned books.0 last.book.view then.play.book.view books.1.view)
            (subst (λ s. GoesOnAt course s then.play.book.view) one.0 then.next.1),
      )

pub end_is_one : (N : Type 0) → EndIsOne N
end_is_one N image course settings placers taps opening count other stage other_stage moments others last other_last
    fits valid within opens leads ends other_leads other_ends = elim (cases_lt count other) [
      | inl fewer ↦ absurd (none_longer N image course settings placers taps opening fits valid within opens count other
          stage other_stage moments others last other_last leads ends other_leads fewer)
      | inr most ↦ elim (cases_lt other count) [
        | inl more ↦ absurd (none_longer N image course settings placers taps opening fits valid within opens other count
            other_stage stage others moments other_last last other_leads other_ends leads more)
        | inr least ↦ omega (arith, most, least)
      ]
    ]
