use Rattle.std.proofs.Common.{◌≡◌, rules, subst}
use Rattle.program_call.specs.Outcomes.{TellsLine}
use Rattle.fractal_sim.specs.Texts.{image_fault_line}
use Rattle.fractal_sim.proofs.telling.tell_image_fault.Goals as goal

pub returns : goal.returns
returns g c =
    let line : c.as_slice.result.now ≡ image_fault_line c.args.fault = search rules in
    let before = g.K.Sink.state c.args.sink.now in
    let after = g.K.Sink.state c.tell_line.new.sink in
    subst (λ text. TellsLine 2 text before after c.tell_line.result) line c.tell_line.ensures
