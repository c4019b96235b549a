use Rattle.std.proofs.Common.{ap}
use Rattle.std.specs.String.{string_bytes}
use Rattle.script_text.specs.conflict_book.Legless.{event_of}
use Rattle.script_text.specs.event_def.declared.event.Event.TheVariants as event
use Rattle.script_text.specs.step_script.declared.asked.Asked.{Asked}
use Rattle.script_text.specs.step_script.Asking.{asks_of}
use Rattle.watch_text.specs.Moments.{task_of}
use Rattle.watch_text.proofs.Handed.{change_put}
use Rattle.watch_text.proofs.rest.put_change.Goals as goal

pub returns-in-Legless : goal.returns-in-Legless
returns-in-Legless g c leg =
    change_put {N = g.row.N.Denot} c.put_made.result (string_bytes c.args.line.now) (string_bytes c.put_made.new.line)
    c.args.effect.now c.args.answer.now.output c.args.state.now.view (asks_of c.args.asked.now leg)
    (event_of c.in-Legless.field-0) (task_of c.args.about.now) c.args.about.now.request c.args.answer.now.aborted
    (ap (λ (asked : Asked). asks_of asked leg) c.in-Legless.is) (c.put_made.ensures leg)

pub returns-in-Ready : goal.returns-in-Ready
returns-in-Ready g c leg =
    change_put {N = g.row.N.Denot} c.put_made-in-Ready.result (string_bytes c.args.line.now)
    (string_bytes c.put_made-in-Ready.new.line) c.args.effect.now c.args.answer.now.output c.args.state.now.view
    (asks_of c.args.asked.now leg) (event.Step c.in-Ready.tile c.in-Ready.core leg) (task_of c.args.about.now)
    c.args.about.now.request c.args.answer.now.aborted (ap (λ (asked : Asked). asks_of asked leg) c.in-Ready.is)
    (c.put_made-in-Ready.ensures leg)
