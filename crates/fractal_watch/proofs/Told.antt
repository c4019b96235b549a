-- A story that was told, of a book that was closed, is that of a run that was watched.
use Rattle.std.proofs.Common.{◌≡◌, inl, inr, ℕ, List, [], length, refl, sym, ap, subst, arith, None}
use Rattle.std.proofs.Common.{Err, map, ⊎_elim}
use Rattle.std.specs.declared.option.Option.{Option}
use Rattle.guest_image.specs.ImageValue.{ImageValue}
use Rattle.place_policy.specs.Policy.{Policy}
use Rattle.run_journal.specs.declared.end.End.{End}
use Rattle.watch_play.specs.serial_machine.WholeRun.{IsRunOf}
use Rattle.watch_play.specs.serial_machine.declared.whole_run.SerialRun.{SerialRun}
use Rattle.sim_io.specs.Causes.{Rose}
use Rattle.sim_io.specs.Parts.{SinkTakes, TakesFront}
use Rattle.sim_io.specs.Streams.{SinkState}
use Rattle.sim_io.proofs.Fronts.{SinkTakes-trans, TakesFront-then}
use Rattle.watch_play.specs.spec_state.declared.settings.Settings.{Settings}
use Rattle.trace_tap.specs.TapValue.{TapValue}
use Rattle.watch_play.specs.event_def.Book.{BookView}
use Rattle.watch_play.specs.event_def.Opening.{IsOpening}
use Rattle.watch_play.specs.machine_run.Leaving.{LeavesRun}
use Rattle.watch_play.proofs.Below.machine_run.Proved.{run_left}
use Rattle.watch_play.specs.step_script.declared.act.Act.{Act}
use Rattle.watch_play.specs.declared.stop.StoryStop.{StoryStop}
use Rattle.watch_play.specs.declared.stop.StoryStop.TheVariants as stops
use Rattle.watch_play.specs.Telling.{HasStory, IsAllTold, Tells}
use Rattle.watch_play.specs.watch_text.Moments.{Moment}
use Rattle.program_call.specs.declared.outcome.Outcome.{Outcome}
use Rattle.program_call.specs.Outcomes.{IsEmpty, closed_of}
use Rattle.program_call.specs.Call.{Input, call_on}
use Rattle.program_call.specs.Given.{ReadsImage}
use Rattle.program_call.specs.Program.{Answers, IsComplete, TellsOutcome}
use Rattle.program_call.specs.Runs.{HoldsRunOrNothing}
use Rattle.program_call.proofs.Proved.{holds_lawful, want_answers, begins, read_as_asked}
use Rattle.fractal_watch.specs.declared.words.Asking.{Asking}
use Rattle.fractal_watch.specs.Answers as table
use Rattle.fractal_watch.specs.Answers.{IsAnswer, IsPlayed, OfEnd, OfStory}
use Rattle.fractal_watch.specs.Closing.{EndCut, EndTold, EndUntold, StoryFinishes, IsClosedAs, stop_status}
use Rattle.fractal_watch.specs.Closing.{text_of_closed}
use Rattle.fractal_watch.specs.Complete as due
use Rattle.fractal_watch.specs.Complete.{IsDueBehind}
use Rattle.fractal_watch.specs.Given.{HasImage, front}
use Rattle.fractal_watch.specs.Program.{program}
use Rattle.fractal_watch.specs.Telling.{TellsBookOf, TellsRunOf}
use Rattle.fractal_watch.specs.Texts.{end_text}
use Rattle.fractal_watch.specs.Watched.{HasActs, IsWatched, lines_of_watched, plan_of, text_of_watched}

module _ (N : Type 0) (input : Input) (asking : Asking) (image : ImageValue) (behind : List ℕ)
    (given : ReadsImage front input asking image behind) (script : List Act)
    (script_is : HasActs asking.course asking behind script) (opening : BookView)
    (is_opening : IsOpening image asking.request.settings input.placers [] opening) (book : BookView)
    (commits budget : ℕ) (same_commits : asking.request.settings.commits ≡ commits)
    (same_budget : asking.request.settings.budget ≡ budget) where
  -- the run that was closed is held
  held : (status : ℕ) (end : Option End) (o : Outcome) → IsClosedAs image commits budget book status end o
      → HoldsRunOrNothing front HasImage image input o
  held status end o c =
      let run : IsRunOf image commits budget (closed_of o) =
      subst (IsRunOf image commits budget) (sym c.holds.run_is) c.run in
      inr record {
        asked = asking;
        given = (behind, given);
        run = subst (λ most. IsRunOf image most asking.request.settings.budget (closed_of o)) (sym same_commits)
            (subst (λ most. IsRunOf image commits most (closed_of o)) (sym same_budget) run);
      }

  -- and a story that led to it was watched
  abbrev watched : (status : ℕ) (end : Option End) (o : Outcome) (moments : List (Moment N))
      → HasStory (plan_of asking image script) opening moments book
      → IsClosedAs image commits budget book status end o → IsWatched N image input o
  watched status end o moments story c = record {
    asking = asking;
    behind = behind;
    given = given;
    script = script;
    script_is = script_is;
    opening = opening;
    is_opening = is_opening;
    book = book;
    moments = moments;
    story = story;
    events = c.closed.steps;
    leaves = subst (LeavesRun book c.closed.steps) (sym c.holds.run_is) (run_left book c.closed c.closes end);
    steps_is = c.holds.steps_is;
  }

  -- what comes at the end of what was closed is that of what is held
  same_text : (status : ℕ) (told : Option End) (end : End) (o : Outcome)
      (c : IsClosedAs image commits budget book status told o)
      → text_of_closed asking.telling image c.closed end
      ≡ end_text asking.telling image end c.closed.steps (length o.journal) o.output o.memory
  same_text status told end o c =
      ap (λ (r : SerialRun). end_text asking.telling image end c.closed.steps (length r.journal) r.output r.memory)
      (sym c.holds.run_is)

  -- the end that is told
  same_end : (status : ℕ) (end : Option End) (o : Outcome) → IsClosedAs image commits budget book status end o
      → o.end ≡ end
  same_end status end o c = ap (λ (r : SerialRun). r.end) c.holds.run_is

  -- an outcome that holds a run which was closed answers
  answer_of : (before after : SinkState) (status : ℕ) (end : Option End) (o : Outcome)
      → IsClosedAs image commits budget book status end o
      → TellsOutcome (program N) image (call_on input before after) o
      → IsComplete (program N) (call_on input before after) o → Answers (program N) (call_on input before after) o
  answer_of before after status end o c told complete = record {
    image = image;
    run = held status end o c;
    laws = holds_lawful (program N) image input o;
    told = told;
    complete = complete;
  }

  -- a course that was told to its end, and what comes there
  pub finished_tells : (before between after : SinkState) (o : Outcome)
      → IsAllTold N (plan_of asking image script) opening book before between
      → StoryFinishes image commits budget asking.telling book between after o
      → Answers (program N) (call_on input before after) o
  finished_tells before between after o told (EndTold end c stands took) =
      let w = watched _ _ o told.moments told.story c in
      let ending = end_text asking.telling image end c.closed.steps (length o.journal) o.output o.memory in
      let last : SinkTakes between after ending = subst (SinkTakes between after) (same_text _ _ end o c) took in
      let played : IsPlayed w end = record { ends = told.ends; stands = stands } in
      let answer = table.Played w end played (same_end _ _ o c) in
      answer_of before after _ _ o c
      (inr (inr (inr record {
        text = text_of_watched w end;
        answer = inr (subst (λ s. IsAnswer N image input o s (text_of_watched w end)) (sym c.holds.status_is) answer);
        took = SinkTakes-trans before between after (lines_of_watched w) ending told.took last;
      })))
      (λ bytes known well.
      let begun = begins front input bytes asking image behind known given in
      inr (inr (subst (IsDueBehind input.words bytes) (sym c.holds.status_is)
      (due.Played asking image behind script end begun script_is))))
  finished_tells before between after o told (EndUntold c same) =
      let w = watched _ _ o told.moments told.story c in
      let took = subst (λ s. SinkTakes before s (lines_of_watched w)) (sym same) told.took in
      answer_of before after _ _ o c
      (inl record {
        status_is = c.holds.status_is;
        want = inr record { watched = w; end_is = same_end _ _ o c; took = inr (inr (told.ends, took)) };
      })
      (λ bytes known well. inl c.holds.status_is)
  finished_tells before between after o told (EndCut end c stands took rose) =
      let w = watched _ _ o told.moments told.story c in
      let ending = end_text asking.telling image end c.closed.steps (length o.journal) o.output o.memory in
      let last : TakesFront between after ending = subst (TakesFront between after) (same_text _ _ end o c) took in
      let played : IsPlayed w end = record { ends = told.ends; stands = stands } in
      let failed : Rose before.faults after.faults = omega (arith, told.later, rose) in
      answer_of before after _ _ o c
      (inr (inr (inl record {
        status_is = c.holds.status_is;
        text = text_of_watched w end;
        is_text = inr (OfEnd w end played (same_end _ _ o c));
        took = TakesFront-then before between after (lines_of_watched w) ending told.took last;
        failed = failed;
      })))
      (λ bytes known well. absurd (well.sink failed))

  -- a course that was told in part
  pub stopped_tells : (before after : SinkState) (stop : StoryStop) (o : Outcome)
      → Tells N (plan_of asking image script) opening book before after (Err stop)
      → IsClosedAs image commits budget book (stop_status stop) None o
      → Answers (program N) (call_on input before after) o
  stopped_tells before after stops.Memory o told c =
      let w = watched _ _ o told.moments told.story c in
      answer_of before after _ _ o c
      (inl record {
        status_is = c.holds.status_is;
        want = inr record {
          watched = w;
          end_is = same_end _ _ o c;
          took = ⊎_elim inl (λ most. inr (inl most)) told.took;
        };
      })
      (λ bytes known well. inl c.holds.status_is)
  stopped_tells before after stops.Sink o told c =
      let w = watched _ _ o told.moments told.story c in
      answer_of before after _ _ o c
      (inr (inr (inl record {
        status_is = c.holds.status_is;
        text = lines_of_watched w;
        is_text = inr (OfStory w (same_end _ _ o c));
        took = told.took;
        failed = told.rose;
      })))
      (λ bytes known well. absurd (well.sink told.rose))

-- ---- an image that is to be watched

-- a book that has no taps
pub opening_without_taps : {T : Type 0} (image : ImageValue) (settings : Settings) (placers : List Policy)
    (notes : T → TapValue) (taps : List T) (book : BookView) → taps ≡ []
    → IsOpening image settings placers (map notes taps) book → IsOpening image settings placers [] book
opening_without_taps image settings placers notes taps book none opening =
    subst (λ list. IsOpening image settings placers (map notes list) book) none opening

-- a book was begun on it, and told
pub book_tells : (N : Type 0) (image named : ImageValue) (asking : Asking) (script : List Act) (placers : List Policy)
    (opening : BookView) (before after : SinkState) (o : Outcome) → image ≡ named
    → IsOpening named asking.request.settings placers [] opening
    → TellsBookOf N named asking script opening before after o
    → TellsRunOf N image asking script placers before after o
book_tells N image named asking script placers opening before after o same is_opening tells =
    λ input behind same_placers given script_is.
    tells input behind (subst (λ i. ReadsImage front input asking i behind) same given) script_is
    (subst (λ p. IsOpening named asking.request.settings p [] opening) (sym same_placers) is_opening)

-- or memory ran out for one
pub want_tells : (N : Type 0) (image : ImageValue) (asking : Asking) (script : List Act) (placers : List Policy)
    (sink : SinkState) (o : Outcome) → o.status ≡ 5 → IsEmpty o
    → TellsRunOf N image asking script placers sink sink o
want_tells N image asking script placers sink o is empty = λ input behind same_placers given script_is.
    want_answers (program N) image input sink sink o is empty
    (read_as_asked front input asking given.bytes given.read) refl
