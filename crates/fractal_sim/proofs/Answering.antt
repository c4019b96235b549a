-- What was found and is told is an answer.
use Rattle.std.proofs.Common.{◌≡◌, ◌≢◌, ◌⊎◌, inl, inr, refl, sym, ap, ◌∙◌, subst, ℕ, List, length, Some, None}
use Rattle.std.specs.declared.option.Option.{Option}
use Rattle.std.specs.Prelude.{IfSome, IsSomeAnd, option_map}
use Rattle.std.specs.declared.marker.Brand.{Brand}
use Rattle.std.proofs.lemmas.Option.{same_Some}
use Rattle.std.proofs.lemmas.Bool.{cases_eq}
use Rattle.sim_io.specs.Parts.{TakesFront}
use Rattle.sim_io.specs.Streams.{SinkState}
use Rattle.guest_image.specs.ImageValue.{ImageValue}
use Rattle.run_journal.specs.declared.end.End.{End}
use Rattle.machine_run.specs.serial_machine.WholeRun.{IsRunOf}
use Rattle.machine_run.specs.serial_machine.declared.whole_run.SerialRun.{SerialRun}
use Rattle.machine_run.specs.Played.{IsPlayedRun, IsTracedRun}
use Rattle.machine_run.specs.declared.left.Ran.{Ran}
use Rattle.machine_run.specs.declared.playing.Played.{Played}
use Rattle.machine_run.specs.declared.playing.Traced.{Traced}
use Rattle.script_text.specs.Traces.{trace_text}
use Rattle.command_line.specs.declared.request.Command.{Command}
use Rattle.command_line.specs.declared.request.Command.TheVariants as commands
use Rattle.command_line.specs.declared.request.Request.{Request}
use Rattle.fractal_sim.specs.declared.finding.Finding.{Finding}
use Rattle.fractal_sim.specs.declared.finding.Finding.TheVariants as finding
use Rattle.fractal_sim.specs.declared.finding.Loading.{Loading}
use Rattle.guest_image.specs.Writing.{image_bytes}
use Rattle.resume_image.specs.Saved.{saved_image}
use Rattle.machine_run.specs.spec_state.declared.pending.Pending.{Pending}
use Rattle.program_call.specs.declared.outcome.Outcome.{Outcome}
use Rattle.program_call.specs.Call.{Call, Input}
use Rattle.program_call.specs.Given.{ReadsAsAsked}
use Rattle.program_call.specs.Outcomes.{closed_of}
use Rattle.program_call.specs.Program.{IsDue, TellsOutcome}
use Rattle.program_call.specs.Runs.{HoldsRunOfInput, HoldsRunOrNothing}
use Rattle.program_call.proofs.Proved.{holds_lawful, left_alone, no_image, read_as_asked}
use Rattle.fractal_sim.specs.declared.finding.Saving.{Saving}
use Rattle.fractal_sim.specs.declared.finding.Saving.TheVariants as saving
use Rattle.fractal_sim.specs.Given.{HasImage, IsRead, IsGenerated, front}
use Rattle.fractal_sim.specs.Runs.{IsReported, RunsRead, RunsToEnd, StopsAtLimit, LoadsToEnd, PlaysToEnd, TracesToEnd}
use Rattle.fractal_sim.specs.Checks.{IsAcceptedReport}
use Rattle.fractal_sim.specs.Texts.{end_status, played_status, accepted_line, tasks_line, run_text, load_text}
use Rattle.fractal_sim.specs.Texts.{played_text}
use Rattle.fractal_sim.specs.Answers as table
use Rattle.fractal_sim.specs.Answers.{IsAnswer}
use Rattle.fractal_sim.specs.Program.{AnswersAndCounts, program}
use Rattle.fractal_sim.specs.Deciding.{run_with_end, lists_of_traced, Saves}
use Rattle.fractal_sim.specs.Finding.{IsFound, IsRan, IsLoaded, IsPlayed, IsStopped, IsTraced, HoldsRun}
use Rattle.fractal_sim.specs.Finding.{OutcomeKeeps, TakesText, TellsFinding, saving_status, saving_text, status_by}
use Rattle.fractal_sim.specs.Finding.{status_of, text_of}
use Rattle.fractal_sim.proofs.Completing.{is_due}
use Rattle.fractal_sim.proofs.Counting.{image_of_found, steps_told}

-- ---- runs that are held

-- an outcome that keeps a run of the image that the words ask for holds it
abbrev holds_kept : (input : Input) (request : Request) (image : ImageValue) (run : SerialRun) (steps : Option ℕ) (o : Outcome)
    → HasImage input request image
    → IsRunOf image request.settings.commits request.settings.budget run → HoldsRun run steps o
    → HoldsRunOfInput front HasImage image input o
holds_kept input request image run steps o given is_run kept = record {
  asked = request;
  given = given;
  run = subst (IsRunOf image request.settings.commits request.settings.budget) (sym kept.run_is) is_run;
}

abbrev ran_held : (input : Input) (image : ImageValue) (ran : Ran) (steps : Option ℕ) (o : Outcome)
    → IsRan input image ran steps → HoldsRun (run_with_end ran) steps o → HoldsRunOfInput front HasImage image input o
ran_held input image ran steps o found kept =
    holds_kept input found.request image (run_with_end ran) steps o (IsRead found.bytes_behind found.given) found.made.run kept

abbrev stopped_held : (input : Input) (ran : Ran) (steps : Option ℕ) (made : Saving) (o : Outcome)
    → (found : IsStopped input ran steps made) → HoldsRun (run_with_end ran) steps o
    → HoldsRunOfInput front HasImage found.image input o
stopped_held input ran steps made o found kept =
    holds_kept input found.request found.image (run_with_end ran) steps o (IsRead found.bytes_behind found.given) found.stopped.run.run kept

abbrev loaded_held : (input : Input) (load : Loading) (image : ImageValue) (ran : Ran) (steps : Option ℕ) (o : Outcome)
    → IsLoaded input load image ran steps → HoldsRun (run_with_end ran) steps o
    → HoldsRunOfInput front HasImage image input o
loaded_held input load image ran steps o found kept =
    holds_kept input found.request image (run_with_end ran) steps o (IsGenerated load.load load.seed load.size found.given) found.made.run kept

abbrev played_held : (input : Input) (image : ImageValue) (p : Played) (o : Outcome) → IsPlayed input image p
    → HoldsRun (run_with_end p.ran) (Some p.ran.closed.steps) o → HoldsRunOfInput front HasImage image input o
played_held input image p o found kept =
    holds_kept input found.request image (run_with_end p.ran) (Some p.ran.closed.steps) o (IsRead found.bytes_behind found.given) found.made.run kept

abbrev traced_held : (input : Input) (t : Traced) (o : Outcome) → (found : IsTraced input t)
    → HoldsRun (run_with_end t.ran) (Some t.ran.closed.steps) o → HoldsRunOfInput front HasImage found.image input o
traced_held input t o found kept =
    holds_kept input found.request found.image (run_with_end t.ran) (Some t.ran.closed.steps) o (IsRead found.bytes_behind found.given) found.made.run kept

pub holds : (input : Input) (f : Finding) (o : Outcome) (found : IsFound input f) → OutcomeKeeps f o
    → HoldsRunOrNothing front HasImage (image_of_found input f found) input o
holds input finding.Memory o found kept = inl kept
holds input (finding.Refused line) o found kept = inl kept
holds input (finding.NoScript line) o found kept = inl kept
holds input (finding.Accepted closed) o found kept =
    let accepted = found.1 in
    inr (holds_kept input accepted.request found.0 closed None o (IsRead accepted.bytes_behind accepted.given)
    accepted.run kept)
holds input (finding.Ran image ran steps) o found kept = inr (ran_held input image ran steps o found kept)
holds input (finding.Stopped ran steps made) o found kept = inr (stopped_held input ran steps made o found kept)
holds input (finding.Loaded load image ran steps) o found kept =
    inr (loaded_held input load image ran steps o found kept)
holds input (finding.Played image p) o found kept = inr (played_held input image p o found kept)
holds input (finding.Traced t) o found kept = inr (traced_held input t o found kept)

-- ---- runs to an end

ran_to_end : (input : Input) (image : ImageValue) (ran : Ran) (steps : Option ℕ) (end : End) → ran.end ≡ Some end
    → IsRan input image ran steps → RunsToEnd input image end (run_with_end ran)
ran_to_end input image ran steps end is found = record {
  request = found.request;
  bytes_behind = found.bytes_behind;
  given = found.given;
  told = subst (λ e. IfSome e (IsReported found.request.command)) is found.told;
  is_run = found.made.run;
  end_is = is;
}

stops_at_limit : (input : Input) (ran : Ran) (steps : Option ℕ) (made : Saving)
    → (found : IsStopped input ran steps made)
    → StopsAtLimit input found.image found.stopped.pendings (run_with_end ran)
stops_at_limit input ran steps made found = record {
  request = found.request;
  bytes_behind = found.bytes_behind;
  given = found.given;
  command = found.command;
  is_run = found.stopped.run.run;
  end_is = found.stopped.limit;
  left = found.stopped.left;
}

loaded_to_end : (input : Input) (load : Loading) (image : ImageValue) (ran : Ran) (steps : Option ℕ) (end : End)
    → ran.end ≡ Some end → IsLoaded input load image ran steps
    → LoadsToEnd input load.load load.seed load.size image end (run_with_end ran)
loaded_to_end input load image ran steps end is found = record {
  request = found.request;
  given = found.given;
  is_run = found.made.run;
  end_is = is;
  over = λ unfinished. found.made.over (is ∙ ap Some unfinished);
}

played_to_end : (input : Input) (image : ImageValue) (p : Played) (o : Outcome) (end : End) → p.ran.end ≡ Some end
    → IsPlayed input image p
    → HoldsRun (run_with_end p.ran) (Some p.ran.closed.steps) o → PlaysToEnd input image p.said.items end o
played_to_end input image p o end is found kept =
    let made = found.made in
    let Is : SerialRun → Type 0 = IsPlayedRun Brand image found.request.settings made.script input.placers input.taps p.said.items p.ran.closed.steps end in
    let at_end : Is (run_with_end p.ran) = subst (λ e. IfSome e (λ end. IsPlayedRun Brand image found.request.settings made.script input.placers input.taps p.said.items p.ran.closed.steps end (run_with_end p.ran))) is made.played in
    record {
      request = found.request;
      bytes_behind = found.bytes_behind;
      given = found.given;
      command = found.command;
      script = made.script;
      script_is = made.script_is;
      events = p.ran.closed.steps;
      steps_is = kept.steps_is;
      played = subst Is (sym kept.run_is) at_end;
      is_run =
          subst (IsRunOf image found.request.settings.commits found.request.settings.budget) (sym kept.run_is) made.run;
    }

traced_to_end : (input : Input) (t : Traced) (o : Outcome) (end : End) → t.ran.end ≡ Some end
    → (found : IsTraced input t)
    → HoldsRun (run_with_end t.ran) (Some t.ran.closed.steps) o
    → TracesToEnd input found.image (lists_of_traced t) end o
traced_to_end input t o end is found kept =
    let made = found.made in
    let Is : SerialRun → Type 0 = IsTracedRun Brand found.image found.request.settings made.script input.placers input.taps (lists_of_traced t) t.ran.closed.steps end in
    let at_end : Is (run_with_end t.ran) = subst (λ e. IfSome e (λ end. IsTracedRun Brand found.image found.request.settings made.script input.placers input.taps (lists_of_traced t) t.ran.closed.steps end (run_with_end t.ran))) is made.traced in
    record {
      request = found.request;
      bytes_behind = found.bytes_behind;
      given = found.given;
      command = found.command;
      script = made.script;
      script_is = made.script_is;
      events = t.ran.closed.steps;
      steps_is = kept.steps_is;
      traced = subst Is (sym kept.run_is) at_end;
      is_run =
          subst (IsRunOf found.image found.request.settings.commits found.request.settings.budget) (sym kept.run_is) made.run;
    }

-- ---- the table of answers

-- what was found, with its status and its text, is an answer
answers : (input : Input) (f : Finding) (o : Outcome) (text : List ℕ) (found : IsFound input f) → OutcomeKeeps f o
    → text_of f ≡ Some text → IsAnswer (image_of_found input f found) input o (status_of f) text
answers input finding.Memory o text found kept is = let z : ⊥ = cc in absurd z
answers input (finding.Refused line) o text found kept is =
    subst (IsAnswer no_image input o 8) (same_Some _ text is) (table.Refused line found kept)
answers input (finding.NoScript line) o text found kept is =
    subst (IsAnswer no_image input o 9) (same_Some _ text is) (table.NoScript line found kept)
answers input (finding.Accepted closed) o text found kept is =
    let line : accepted_line (length o.journal) ≡ text = ap (λ c. accepted_line (length c.journal)) kept.run_is ∙ same_Some _ text is in
    subst (IsAnswer found.0 input o 0) line
    (table.Accepted (subst (IsAcceptedReport input found.0) (sym kept.run_is) found.1))
answers input (finding.Ran image ran steps) o text found kept is = go ran.end refl is where
  go : (e : Option End) → ran.end ≡ e → option_map (run_text image (run_with_end ran)) e ≡ Some text
      → IsAnswer image input o (status_by end_status e) text
  go None at t = let z : ⊥ = cc in absurd z
  go (Some end) at t =
      let told : run_text image (closed_of o) end ≡ text = ap (λ c. run_text image c end) kept.run_is ∙ same_Some _ text t in
      let made : RunsToEnd input image end (closed_of o) = subst (RunsToEnd input image end) (sym kept.run_is) (ran_to_end input image ran steps end at found) in
      subst (IsAnswer image input o (end_status end)) told (table.Ended end made)
answers input (finding.Stopped ran steps made) o text found kept is =
    go made refl (same_Some _ text is) found.stopped.saves where
      pendings : List Pending
      pendings = found.stopped.pendings

      stops : StopsAtLimit input found.image pendings (closed_of o)
      stops = subst (StopsAtLimit input found.image pendings) (sym kept.run_is) (stops_at_limit input ran steps made found)

      go : (m : Saving) → made ≡ m → saving_text m ≡ text → Saves found.image ran.closed.memory pendings m
          → IsAnswer found.image input o (saving_status m) text
      go (saving.Bytes bytes) at told saves =
          let memory : o.memory ≡ ran.closed.memory = ap (λ c. c.memory) kept.run_is in
          subst (IsAnswer found.image input o 4)
          (ap (λ m. image_bytes (saved_image found.image m pendings)) memory ∙ sym saves.2 ∙ told)
          (table.Saved pendings stops saves.0 saves.1)
      go (saving.Nested depth) at told saves =
          subst (IsAnswer found.image input o 12) told (table.Nested pendings depth stops saves.0 saves.1)
      go (saving.TooMany count) at told saves =
          subst (IsAnswer found.image input o 13) (ap tasks_line (sym saves.2) ∙ told)
          (table.TooMany pendings stops saves.0 saves.1)
answers input (finding.Loaded load image ran steps) o text found kept is = go ran.end refl is where
  go : (e : Option End) → ran.end ≡ e
      → option_map (load_text load.load load.seed load.size image (run_with_end ran)) e ≡ Some text
      → IsAnswer image input o (status_by end_status e) text
  go None at t = let z : ⊥ = cc in absurd z
  go (Some end) at t =
      let told : load_text load.load load.seed load.size image (closed_of o) end ≡ text = ap (λ c. load_text load.load load.seed load.size image c end) kept.run_is ∙ same_Some _ text t in
      let made : LoadsToEnd input load.load load.seed load.size image end (closed_of o) =
      subst (LoadsToEnd input load.load load.seed load.size image end) (sym kept.run_is) (loaded_to_end input load image ran steps end at found) in
      subst (IsAnswer image input o (end_status end)) told (table.Loaded load.load load.seed load.size end made)
answers input (finding.Played image p) o text found kept is = go p.ran.end refl is where
  go : (e : Option End) → p.ran.end ≡ e → option_map (played_text p.said.items image (run_with_end p.ran)) e ≡ Some text
      → IsAnswer image input o (status_by played_status e) text
  go None at t = let z : ⊥ = cc in absurd z
  go (Some end) at t =
      let told : played_text p.said.items image (closed_of o) end ≡ text = ap (λ c. played_text p.said.items image c end) kept.run_is ∙ same_Some _ text t in
      subst (IsAnswer image input o (played_status end)) told
      (table.Played p.said.items end (played_to_end input image p o end at found kept))
answers input (finding.Traced t) o text found kept is = go t.ran.end refl is where
  go : (e : Option End) → t.ran.end ≡ e → option_map (λ end. trace_text (lists_of_traced t)) e ≡ Some text
      → IsAnswer found.image input o (status_by (λ end. 0) e) text
  go None at told = let z : ⊥ = cc in absurd z
  go (Some end) at told =
      subst (IsAnswer found.image input o 0) (same_Some _ text told)
      (table.Traced (lists_of_traced t) end (traced_to_end input t o end at found kept))

-- ---- what is told

-- a finding with a text that was written
took : (call : Call) (f : Finding) (o : Outcome) (text : List ℕ) (found : IsFound call.input f) → OutcomeKeeps f o
    → text_of f ≡ Some text → o.status ≡ status_of f → TakesText call.sink_before call.sink_after (text_of f)
    → TellsOutcome program (image_of_found call.input f found) call o
took call f o text found kept is status written = inr (inr (inr record {
  text = text;
  answer = inr (subst (λ n. IsAnswer (image_of_found call.input f found) call.input o n text) (sym status)
      (answers call.input f o text found kept is));
  took = subst (TakesText call.sink_before call.sink_after) is written;
}))

-- a run that is told by its end; without one, memory ran out
by_end : (call : Call) (f : Finding) (o : Outcome) (text : End → List ℕ) (status : End → ℕ) (ran : Ran)
    (steps : Option ℕ) (found : IsFound call.input f) → text_of f ≡ option_map text ran.end
    → status_of f ≡ status_by status ran.end
    → (held : HoldsRunOfInput front HasImage (image_of_found call.input f found) call.input o)
    → (held.asked.command ≡ commands.Check → ⊥)
    → HoldsRun (run_with_end ran) steps o → ReadsAsAsked front call.input → OutcomeKeeps f o
    → o.status ≡ status_of f → TakesText call.sink_before call.sink_after (text_of f)
    → TellsOutcome program (image_of_found call.input f found) call o
by_end call f o text status ran steps found text_is status_is held makes holding read kept s w = go ran.end refl where
  go : (e : Option End) → ran.end ≡ e → TellsOutcome program (image_of_found call.input f found) call o
  go None is = inl record {
    status_is = s ∙ status_is ∙ ap (status_by status) is;
    want = inr record {
      end = ap (λ c. c.end) holding.run_is ∙ is;
      held = held;
      makes = makes;
      read = read;
      untouched = subst (TakesText call.sink_before call.sink_after) (text_is ∙ ap (option_map text) is) w;
    };
  }
  go (Some end) is = took call f o (text end) found kept (text_is ∙ ap (option_map text) is) s w

-- what isn't a check
no_check : (request : Request) (command : Command) → request.command ≡ command → (command ≡ commands.Check → ⊥)
    → request.command ≡ commands.Check → ⊥
no_check request command is other check = other (sym is ∙ check)

runs_no_check : (command : Command) → RunsRead command → command ≡ commands.Check → ⊥
runs_no_check command runs check = subst RunsRead check runs

-- where the sink didn't fail
well_told : (call : Call) (f : Finding) (o : Outcome) (found : IsFound call.input f) → OutcomeKeeps f o
    → o.status ≡ status_of f → TakesText call.sink_before call.sink_after (text_of f)
    → TellsOutcome program (image_of_found call.input f found) call o
well_told call finding.Memory o found kept s w =
    inl record { status_is = s; want = inl record { empty = kept; read = found; untouched = w } }
well_told call (finding.Refused line) o found kept s w = took call (finding.Refused line) o _ found kept refl s w
well_told call (finding.NoScript line) o found kept s w = took call (finding.NoScript line) o _ found kept refl s w
well_told call (finding.Accepted closed) o found kept s w = took call (finding.Accepted closed) o _ found kept refl s w
well_told call (finding.Ran image ran steps) o found kept s w =
    let held = ran_held call.input image ran steps o found kept in
    let read = read_as_asked front call.input found.request found.given.bytes found.given.read in
    by_end call (finding.Ran image ran steps) o (run_text image (run_with_end ran)) end_status ran steps found refl refl
    held
    (runs_no_check found.request.command found.command) kept read kept s w
well_told call (finding.Stopped ran steps made) o found kept s w =
    took call (finding.Stopped ran steps made) o _ found kept refl s w
well_told call (finding.Loaded load image ran steps) o found kept s w =
    let held = loaded_held call.input load image ran steps o found kept in
    let read = left_alone front call.input found.given.untouched in
    by_end call (finding.Loaded load image ran steps) o
    (load_text load.load load.seed load.size image (run_with_end ran)) end_status ran steps found refl refl held
    (no_check found.request (commands.Load load.load load.seed load.size) found.given.command (λ clash. cc))
    kept read kept s w
well_told call (finding.Played image p) o found kept s w =
    let held = played_held call.input image p o found kept in
    let read = read_as_asked front call.input found.request found.given.bytes found.given.read in
    by_end call (finding.Played image p) o (played_text p.said.items image (run_with_end p.ran)) played_status p.ran
    (Some p.ran.closed.steps) found refl refl held (no_check found.request commands.Steps found.command (λ clash. cc))
    kept read kept s w
well_told call (finding.Traced t) o found kept s w =
    let held = traced_held call.input t o found kept in
    let read = read_as_asked front call.input found.request found.given.bytes found.given.read in
    by_end call (finding.Traced t) o (λ end. trace_text (lists_of_traced t)) (λ end. 0) t.ran (Some t.ran.closed.steps)
    found refl refl held (no_check found.request commands.Trace found.command (λ clash. cc)) kept read kept s w

-- there is a text, of which the sink took a front
record HasFront (old new : SinkState) (text : Option (List ℕ)) : Type 0 where
  whole_text : List ℕ
  is : text ≡ Some whole_text
  taken : TakesFront old new whole_text

front_of : (old new : SinkState) (text : Option (List ℕ)) → IsSomeAnd text (TakesFront old new) → HasFront old new text
front_of old new None h = absurd h
front_of old new (Some whole_text) h = record { whole_text = whole_text; is = refl; taken = h }

-- what was found is told
told : (call : Call) (f : Finding) (o : Outcome) (found : IsFound call.input f)
    → TellsFinding f call.sink_before call.sink_after o
    → TellsOutcome program (image_of_found call.input f found) call o
told call f o found tells = go (cases_eq o.status 7) where
  go : (o.status ≡ 7) ⊎ (o.status ≢ 7) → TellsOutcome program (image_of_found call.input f found) call o
  go (inl seven) =
      let failed = tells.failed seven in
      let text = front_of call.sink_before call.sink_after (text_of f) failed.1 in
      inr (inr (inl record {
        status_is = seven;
        text = text.whole_text;
        is_text = inr (status_of f, answers call.input f o text.whole_text found tells.kept text.is);
        took = text.taken;
        failed = failed.0;
      }))
  go (inr other) = let well = tells.told other in well_told call f o found tells.kept well.0 well.1

-- what was found and is told is an answer
pub finding_answers : (call : Call) (f : Finding) (o : Outcome) → IsFound call.input f
    → TellsFinding f call.sink_before call.sink_after o → AnswersAndCounts call o
finding_answers call f o found tells = record {
  answers = record {
    image = image_of_found call.input f found;
    run = holds call.input f o found tells.kept;
    laws = holds_lawful program (image_of_found call.input f found) call.input o;
    told = told call f o found tells;
    complete = λ bytes known well.
        let status : o.status ≡ status_of f = (tells.told (λ seven. well.sink (tells.failed seven).0)).0 in
        subst (λ n. (n ≡ 5) ⊎ IsDue program call.input.words bytes n) (sym status)
        (is_due call.input bytes f known found);
  };
  steps = steps_told call.input f o found tells.kept;
}
