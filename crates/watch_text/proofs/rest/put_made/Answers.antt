use Rattle.std.proofs.Common.{◌≡◌, ◌++◌, subst}
use Rattle.std.specs.Prelude.{OnOk}
use Rattle.std.specs.String.{string_bytes}
use Rattle.script_text.specs.step_script.Asking.{asks_of}
use Rattle.watch_text.specs.Changes.{own_text, taken_text}
use Rattle.watch_text.specs.Moments.{task_of}
use Rattle.watch_text.proofs.Joined.{two_texts}
use Rattle.watch_text.proofs.rest.put_made.Goals as goal

pub returns : goal.returns
returns g c leg =
    subst (λ arrived. OnOk c.put_own.result (string_bytes c.put_own.new.line ≡ string_bytes c.args.line.now
    ++ (taken_text c.args.effect.now c.args.answer.now.aborted ++ own_text c.args.state.now.view arrived
    c.args.answer.now.output (asks_of {N = g.row.N.Denot} c.args.asked.now leg) (task_of c.args.about.now)
    c.args.about.now.request))) c.arrived.ensures
    (two_texts _ _ _ _ _ _ c.in_ok-put_taken.ensures (c.put_own.ensures leg))
