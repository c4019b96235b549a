-- A script that is refused is an answer.
use Rattle.std.proofs.Common.{ℕ, inr}
use Rattle.sim_io.specs.Streams.{SinkState}
use Rattle.program_call.specs.declared.outcome.Outcome.{Outcome}
use Rattle.program_call.specs.Call.{Input, call_on}
use Rattle.program_call.specs.Outcomes.{TellsMadeLine}
use Rattle.program_call.specs.Program.{Answers}
use Rattle.program_call.proofs.Proved.{made_answers, begins, read_as_asked}
use Rattle.fractal_watch.specs.Answers as table
use Rattle.fractal_watch.specs.Complete as due
use Rattle.fractal_watch.specs.Given.{IsWatchNoScript, front}
use Rattle.fractal_watch.specs.Program.{program}
use Rattle.fractal_watch.specs.Texts.{script_fault_object}

pub no_script_answers : (N : Type 0) (input : Input) (before after : SinkState) (line : ℕ) (o : Outcome)
    → IsWatchNoScript input line → TellsMadeLine 9 (script_fault_object line) before after o
    → Answers (program N) (call_on input before after) o
no_script_answers N input before after line o found tells =
    made_answers (program N) found.image input before after o 9 (script_fault_object line)
    (λ empty. inr (table.NoScript line found empty))
    (λ empty. inr (table.OfNoScript line found empty))
    (λ bytes known.
    let begun = begins front input bytes found.asking found.image found.behind known found.given in
    inr (due.NoScript found.asking found.image found.behind line begun found.course found.wrong))
    (read_as_asked front input found.asking found.given.bytes found.given.read) tells
