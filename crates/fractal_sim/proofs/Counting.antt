-- Where a count is told, so many events made the run.
use Rattle.std.proofs.Common.{◌≡◌, refl, sym, ◌∙◌, subst, ℕ, List, arith, ◌==◌, Bool, true, false, Some, None}
use Rattle.std.specs.declared.option.Option.{Option}
use Rattle.std.specs.Prelude.{IfSome, if◌then◌else◌}
use Rattle.std.specs.declared.marker.Brand.{Brand}
use Rattle.std.proofs.lemmas.Bool.Decides.{nat_tests}
use Rattle.std.proofs.lemmas.Grind.{common_steps}
use Rattle.std.proofs.lemmas.Option.{same_Some}
use Rattle.guest_image.specs.ImageValue.{ImageValue}
use Rattle.run_journal.specs.declared.end.End.{End}
use Rattle.machine_run.specs.serial_machine.declared.whole_run.SerialRun.{SerialRun}
use Rattle.machine_run.specs.Least.{IsLeastRun}
use Rattle.machine_run.specs.Played.{IsPlayedRun, IsTracedRun}
use Rattle.machine_run.specs.declared.left.Ran.{Ran}
use Rattle.command_line.specs.declared.request.Request.{Request}
use Rattle.command_line.specs.Requests.{request_of_words}
use Rattle.fractal_sim.specs.declared.finding.Finding.{Finding}
use Rattle.fractal_sim.specs.declared.finding.Finding.TheVariants as finding
use Rattle.program_call.specs.declared.outcome.Outcome.{Outcome}
use Rattle.program_call.specs.Call.{Input}
use Rattle.program_call.proofs.Proved.{no_image}
use Rattle.fractal_sim.specs.Given.{HasImage, IsRead, IsGenerated}
use Rattle.fractal_sim.specs.Runs as runs
use Rattle.program_call.specs.Outcomes.{IsEmpty, closed_of}
use Rattle.fractal_sim.specs.Runs.{Counts, IsRunMadeBy, MakesRun, PlaysScript, RunsImage, RunsRead, CountsEvents}
use Rattle.command_line.specs.declared.request.Command.{Command}
use Rattle.command_line.specs.declared.request.Command.TheVariants as commands
use Rattle.fractal_sim.specs.Deciding.{run_with_end, lists_of_traced, event_count, IsRunSo}
use Rattle.fractal_sim.specs.Finding.{IsFound, HoldsRun, OutcomeKeeps}

-- the image of what was found; any where nothing was found of one
abbrev pub image_of_found : (input : Input) (f : Finding) → IsFound input f → ImageValue
image_of_found input finding.Memory found = no_image
image_of_found input (finding.Refused line) found = no_image
image_of_found input (finding.NoScript line) found = no_image
image_of_found input (finding.Accepted closed) found = found.0
image_of_found input (finding.Ran image ran steps) found = image
image_of_found input (finding.Stopped ran steps made) found = found.image
image_of_found input (finding.Loaded load image ran steps) found = image
image_of_found input (finding.Played image played) found = image
image_of_found input (finding.Traced traced) found = found.image

-- one list of words asks for one thing
pub same_request : (words : List (List ℕ)) (a b : Request) → request_of_words words ≡ Some a
    → request_of_words words ≡ Some b → a ≡ b
same_request words a b ha hb = same_Some a b (sym ha ∙ hb)

-- whether a count is told is the same for one request
counts_same : (words : List (List ℕ)) (a b : Request) → request_of_words words ≡ Some a
    → request_of_words words ≡ Some b → Counts b.settings.workers b.command
    → Counts a.settings.workers a.command
counts_same words a b ha hb =
    subst (λ (r : Request). Counts r.settings.workers r.command) (sym (same_request words a b ha hb))

-- an outcome without a run tells no count, and is empty
pub none_told : (image : ImageValue) (input : Input) (o : Outcome) → IsEmpty o → CountsEvents image input o
none_told image input o empty = record {
  made = subst (λ s. IfSome s (λ events. MakesRun image input events (closed_of o))) (sym empty.steps) tt;
  told = λ request asked counts none. empty;
}

-- a count that is told where there are no workers
counted : (workers events : ℕ) (P : ℕ → Type 0) → (workers ≡ 0 → P events) → IfSome (event_count workers events) P
counted workers events P holds = go (workers == 0) refl where
  go : (b : Bool) → (workers == 0) ≡ b → IfSome (if◌then◌else◌ {A = Option ℕ} b (Some events) None) P
  go true e = holds (grind (arith, nat_tests, common_steps))
  go false e = tt

-- a count is told where there are no workers
is_told : (workers events : ℕ) → workers ≡ 0 → event_count workers events ≡ None → ⊥
is_told workers events zero none = go (subst (λ w. event_count w events ≡ None) zero none) where
  go : Some events ≡ None → ⊥
  go clash = cc

-- the image was run, and this is its count
run_told : (input : Input) (o : Outcome) (request : Request) (image : ImageValue) (ran : Ran) (steps : Option ℕ)
    → request_of_words input.words ≡ Some request
    → RunsImage request.command → (Counts request.settings.workers request.command → request.settings.workers ≡ 0)
    → HasImage input request image
    → IsRunSo image request.settings input.placers input.taps ran steps → HoldsRun (run_with_end ran) steps o
    → CountsEvents image input o
run_told input o request image ran steps asked runs_image plain given made kept =
    let workers = request.settings.workers in
    let events = ran.closed.steps in
    let told_is : o.steps ≡ event_count workers events = kept.steps_is ∙ made.steps_is in
    let least : workers ≡ 0 → MakesRun image input events (closed_of o) = λ none. record {
      request = request;
      asked = asked;
      made =
          runs.ByLeast runs_image none given (subst (IsLeastRun Brand image request.settings input.placers input.taps events) (sym kept.run_is) (made.least none));
    } in
    record {
      made =
          subst (λ s. IfSome s (λ events. MakesRun image input events (closed_of o))) (sym told_is) (counted workers events (λ events. MakesRun image input events (closed_of o)) least);
      told =
          λ other asks counts none. absurd (is_told workers events (plain (counts_same input.words request other asked asks counts)) (sym told_is ∙ none));
    }

-- a script was played, and this is its count
script_told : (input : Input) (o : Outcome) (request : Request) (image : ImageValue) (run : SerialRun) (events : ℕ)
    → request_of_words input.words ≡ Some request
    → HoldsRun run (Some events) o → IsRunMadeBy input request image events run → CountsEvents image input o
script_told input o request image run events asked kept made = record {
  made = subst (λ s. IfSome s (λ events. MakesRun image input events (closed_of o))) (sym kept.steps_is)
      (record { request = request; asked = asked; made = subst (IsRunMadeBy input request image events) (sym kept.run_is) made });
  told = λ other asks counts none. (let clash : Some events ≡ None = sym kept.steps_is ∙ none in absurd (cc (clash)));
}

-- what runs the image that is read runs an image, and counts as that does
read_runs : (command : Command) → RunsRead command → RunsImage command
read_runs commands.Run runs = tt
read_runs commands.Save runs = tt
read_runs commands.Steps runs = absurd runs
read_runs commands.Trace runs = absurd runs
read_runs commands.Check runs = absurd runs
read_runs (commands.Load load seed size) runs = absurd runs

read_counts : (workers : ℕ) (command : Command) → RunsRead command → Counts workers command → workers ≡ 0
read_counts workers commands.Run runs counts = counts
read_counts workers commands.Save runs counts = counts
read_counts workers commands.Steps runs counts = absurd runs
read_counts workers commands.Trace runs counts = absurd runs
read_counts workers commands.Check runs counts = absurd runs
read_counts workers (commands.Load load seed size) runs counts = absurd runs

-- what was found has the count of its run's events
pub steps_told : (input : Input) (f : Finding) (o : Outcome) (found : IsFound input f) → OutcomeKeeps f o
    → CountsEvents (image_of_found input f found) input o
steps_told input finding.Memory o found kept = none_told no_image input o kept
steps_told input (finding.Refused line) o found kept = none_told no_image input o kept
steps_told input (finding.NoScript line) o found kept = none_told no_image input o kept
steps_told input (finding.Accepted closed) o found kept =
    let accepted = found.1 in
    let request_is = counts_same input.words accepted.request in
    record {
      made = subst (λ s. IfSome s (λ events. MakesRun found.0 input events (closed_of o))) (sym kept.steps_is) tt;
      told = λ request asked counts none.
          absurd (subst (Counts accepted.request.settings.workers) accepted.command
          (request_is request accepted.given.read.asks asked counts));
    }
steps_told input (finding.Ran image ran steps) o found kept =
    run_told input o found.request image ran steps found.given.read.asks (read_runs found.request.command found.command)
    (read_counts found.request.settings.workers found.request.command found.command) (IsRead found.bytes_behind found.given) found.made kept
steps_told input (finding.Stopped ran steps made) o found kept =
    run_told input o found.request found.image ran steps found.given.read.asks (subst RunsImage (sym found.command) tt)
    (subst (Counts found.request.settings.workers) found.command)
    (IsRead found.bytes_behind found.given) found.stopped.run kept
steps_told input (finding.Loaded load image ran steps) o found kept =
    run_told input o found.request image ran steps found.given.asked (subst RunsImage (sym found.given.command) tt)
    (subst (Counts found.request.settings.workers) found.given.command) (IsGenerated load.load load.seed load.size found.given) found.made kept
steps_told input (finding.Played image p) o found kept =
    script_told input o found.request image (run_with_end p.ran) p.ran.closed.steps found.given.read.asks kept (go p.ran.end refl found.made.played) where
      plays : PlaysScript found.request.command
      plays = subst PlaysScript (sym found.command) tt

      go : (e : Option End) → p.ran.end ≡ e
          → IfSome e (λ end. IsPlayedRun Brand image found.request.settings found.made.script input.placers input.taps p.said.items p.ran.closed.steps end (run_with_end p.ran))
          → IsRunMadeBy input found.request image p.ran.closed.steps (run_with_end p.ran)
      go None is h =
          runs.ByPart found.bytes_behind found.made.script plays found.given found.made.script_is (found.made.part is)
      go (Some end) is h =
          runs.ByScript found.bytes_behind found.made.script p.said.items end plays found.given found.made.script_is h
steps_told input (finding.Traced t) o found kept =
    script_told input o found.request found.image (run_with_end t.ran) t.ran.closed.steps found.given.read.asks kept (go t.ran.end refl found.made.traced) where
      plays : PlaysScript found.request.command
      plays = subst PlaysScript (sym found.command) tt

      go : (e : Option End) → t.ran.end ≡ e
          → IfSome e (λ end. IsTracedRun Brand found.image found.request.settings found.made.script input.placers input.taps (lists_of_traced t) t.ran.closed.steps end (run_with_end t.ran))
          → IsRunMadeBy input found.request found.image t.ran.closed.steps (run_with_end t.ran)
      go None is h =
          runs.ByPart found.bytes_behind found.made.script plays found.given found.made.script_is (found.made.part is)
      go (Some end) is h =
          runs.ByScript found.bytes_behind found.made.script h.said end plays found.given found.made.script_is h.played
