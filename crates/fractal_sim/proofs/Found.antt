-- What is found behind an image is found.
use Rattle.std.specs.Prelude.{◌≢◌, IfSome}
use Rattle.std.proofs.Common.{◌≡◌, ℕ, ◌≤◌, List, length, refl, sym, ap, subst, Some, None}
use Rattle.std.specs.declared.option.Option.{Option}
use Rattle.guest_image.specs.ImageValue.{ImageValue}
use Rattle.machine_run.specs.serial_machine.Run.{IsRun}
use Rattle.machine_run.specs.serial_machine.WholeRun.{IsRunOf}
use Rattle.machine_run.specs.serial_machine.declared.whole_run.SerialRun.{SerialRun}
use Rattle.script_text.specs.report_text.declared.report.Report.{Report}
use Rattle.script_text.specs.report_text.Check.{IsReportOf}
use Rattle.command_line.specs.declared.request.Command.TheVariants as commands
use Rattle.command_line.specs.declared.request.Request.{Request}
use Rattle.machine_run.specs.declared.left.Ran.{Ran}
use Rattle.place_policy.specs.Policy.{Policy}
use Rattle.trace_tap.specs.TapValue.{TapValue}
use Rattle.run_journal.specs.declared.end.End.{End}
use Rattle.run_journal.specs.declared.end.End.TheVariants as ends
use Rattle.program_call.specs.Call.{Input}
use Rattle.program_call.specs.Given.{ReadsImage}
use Rattle.program_call.proofs.Proved.{read_as_asked}
use Rattle.fractal_sim.specs.declared.finding.Finding.{Finding}
use Rattle.fractal_sim.specs.declared.finding.Finding.TheVariants as finding
use Rattle.fractal_sim.specs.Given.{front}
use Rattle.fractal_sim.specs.Finding.{IsFound, IsPlayed, IsRan}
use Rattle.fractal_sim.specs.Deciding.{IsFoundBehind, IsRunSo, IsSavedSo, IsClosedReport}
use Rattle.fractal_sim.specs.Runs.{IsReported, RunsRead}

-- ---- reports

-- an accepted report's run is one of the serial machine
holds-report : (image : ImageValue) (commits budget : ℕ) (report : Report) (closed : SerialRun) (accepted : IsReportOf image commits budget report)
    → IsClosedReport accepted.state report closed
    → IsRunOf image commits budget closed
holds-report image commits budget report closed a k = record {
  state = a.state;
  is_run = subst (λ j. IsRun image budget j a.state) (sym k.journal_is) a.run.run;
  within = subst (λ j. length j ≤ commits) (sym k.journal_is) a.run.within;
  memory_is = k.memory_is;
  output_is = k.output_is;
  end_is = rw (k.journal_is, k.end_is) a.end;
}

-- ---- findings

-- what is found behind the image that was read is found
pub found_given : (input : Input) (request : Request) (image : ImageValue) (rest : List ℕ) (f : Finding)
    → ReadsImage front input request image rest
    → IsFoundBehind request image rest input.placers input.taps f → IsFound input f
found_given input request image rest finding.Memory g h = read_as_asked front input request g.bytes g.read
found_given input request image rest (finding.Refused line) g h =
    record { request = request; image = image; bytes_behind = rest; given = g; command = h.0; wrong = h.1 }
found_given input request image rest (finding.NoScript line) g h =
    record { request = request; image = image; bytes_behind = rest; given = g; command = h.0; wrong = h.1 }
found_given input request image rest (finding.Accepted closed) g h = (
  image,
  record {
    request = request;
    bytes_behind = rest;
    report = h.1.report;
    given = g;
    command = h.0;
    report_is = h.1.report_is;
    accepted = h.1.accepted;
    run = holds-report image request.settings.commits request.settings.budget h.1.report closed h.1.accepted h.1.kept;
    journal_is = h.1.kept.journal_is;
    end_is = h.1.kept.end_is;
  },
)
found_given input request image rest (finding.Ran image' ran steps) g h =
    let same : IsRan input image ran steps = record { request = request; bytes_behind = rest; given = g; command = h.0; made = h.2; told = h.3 } in
    subst (λ i. IsRan input i ran steps) (sym h.1) same
found_given input request image rest (finding.Stopped ran steps made) g h =
    record { request = request; image = image; bytes_behind = rest; given = g; command = h.0; stopped = h.1 }
found_given input request image rest (finding.Loaded load image' ran steps) g h = absurd h
found_given input request image rest (finding.Played image' played) g h =
    let same : IsPlayed input image played = record { request = request; bytes_behind = rest; given = g; command = h.0; made = h.2 } in
    subst (λ i. IsPlayed input i played) (sym h.1) same
found_given input request image rest (finding.Traced traced) g h =
    record { request = request; image = image; bytes_behind = rest; given = g; command = h.0; made = h.1 }

-- what is found where the words ask for a run that can go on is found behind the image
pub saved_behind : (request : Request) (image : ImageValue) (rest : List ℕ) (placers : List Policy) (taps : List TapValue) (f : Finding)
    → request.command ≡ commands.Save → IsSavedSo image request.settings placers taps f
    → IsFoundBehind request image rest placers taps f
saved_behind request image rest placers taps finding.Memory is h = tt
saved_behind request image rest placers taps (finding.Refused line) is h = absurd h
saved_behind request image rest placers taps (finding.NoScript line) is h = absurd h
saved_behind request image rest placers taps (finding.Accepted closed) is h = absurd h
saved_behind request image rest placers taps (finding.Ran image' ran steps) is h =
    (subst RunsRead (sym is) tt, h.0, h.1, subst (λ c. IfSome ran.end (IsReported c)) (sym is) h.2)
saved_behind request image rest placers taps (finding.Stopped ran steps made) is h = (is, h)
saved_behind request image rest placers taps (finding.Loaded load image' ran steps) is h = absurd h
saved_behind request image rest placers taps (finding.Played image' played) is h = absurd h
saved_behind request image rest placers taps (finding.Traced traced) is h = absurd h

if_not : (told : Option End) → told ≢ Some ends.Unfinished → IfSome told (λ end. end ≢ ends.Unfinished)
if_not None over = tt
if_not (Some end) over = λ open_yet. over (ap Some open_yet)

-- and so is a run of an image
pub ran_behind : (request : Request) (image : ImageValue) (rest : List ℕ) (placers : List Policy) (taps : List TapValue) (ran : Ran) (steps : Option ℕ)
    → request.command ≡ commands.Run → IsRunSo image request.settings placers taps ran steps
    → IsFoundBehind request image rest placers taps (finding.Ran image ran steps)
ran_behind request image rest placers taps ran steps is made =
    (subst RunsRead (sym is) tt, refl, made, subst (λ c. IfSome ran.end (IsReported c)) (sym is) (if_not ran.end made.over))
