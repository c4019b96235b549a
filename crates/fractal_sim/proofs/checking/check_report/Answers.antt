use Rattle.std.proofs.Common.{◌≡◌, rules, Ok, Err}
use Rattle.script_text.specs.report_text.Grammar.{report_of}
use Rattle.script_text.specs.report_text.Check.{IsVerdict}
use Rattle.script_text.specs.report_text.declared.verdict.Verdict.TheVariants as verdicts
use Rattle.fractal_sim.specs.Checks.{IsWrongLine, Outside, Illegal}
use Rattle.fractal_sim.proofs.checking.check_report.Goals as goal

pub returns-in-Err-Line-clause-found : goal.returns-in-Err-Line-clause-found
returns-in-Err-Line-clause-found c =
    let read : report_of c.args.rest.now ≡ Err c.in-Err-Line.line = search rules in
    let wrong : IsWrongLine c.args.image.now c.args.request c.args.rest.now c.in-Err-Line.line = Outside read in
    λ placers taps. (c.requires.command, search (rules, wrong))

pub returns-in-Yes-clause-found : goal.returns-in-Yes-clause-found
returns-in-Yes-clause-found c =
    let read : report_of c.args.rest.now ≡ Ok c.in-Ok.report = search rules in
    let found = c.in-Yes.ensures in
    λ placers taps. (
      c.requires.command,
      record {
        report = c.in-Ok.report;
        report_is = read;
        accepted = found.0;
        kept = record {
          journal_is = c.close.ensures.journal_is;
          memory_is = search (rules, found.1);
          output_is = search (rules, found.1);
          end_is = c.close.ensures.end_is;
        };
      },
    )

pub returns-in-Illegal-clause-found : goal.returns-in-Illegal-clause-found
returns-in-Illegal-clause-found c =
    let read : report_of c.args.rest.now ≡ Ok c.in-Ok.report = search rules in
    let wrong : IsVerdict c.args.image.now c.args.request.settings.commits c.args.request.settings.budget c.in-Ok.report (verdicts.Illegal c.in-Illegal.line c.in-Illegal.why) = c.in-Illegal.ensures in
    λ placers taps. (c.requires.command, Illegal c.in-Ok.report c.in-Illegal.why read wrong)
