use Rattle.program_call.specs.Call.{call_on, input_of}
use Rattle.program_call.proofs.Proved.{fault_answers, fault_is_empty, no_image}
use Rattle.fractal_sim.specs.Given.{front}
use Rattle.fractal_sim.specs.Program.{program}
use Rattle.fractal_sim.proofs.Answering.{finding_answers}
use Rattle.fractal_sim.proofs.Counting.{none_told}
use Rattle.fractal_sim.proofs.program.top.Goals as goal

pub returns-in-Ok : goal.returns-in-Ok
returns-in-Ok g c =
    let input = input_of c.args.words.now _ _ (g.S.Source.state c.args.source.now)
    (g.S.Source.state c.find.new.source) in
    let call = call_on input (g.K.Sink.state c.args.sink.now) (g.K.Sink.state c.tell.new.sink) in
    record { answers = finding_answers call c.in-Ok.found c.tell.result c.in-Ok.ensures.found c.tell.ensures }

pub returns-in-Err : goal.returns-in-Err
returns-in-Err g c =
    let input = input_of c.args.words.now _ _ (g.S.Source.state c.args.source.now)
    (g.S.Source.state c.find.new.source) in
    let before = g.K.Sink.state c.args.sink.now in
    let after = g.K.Sink.state c.tell_fault.new.sink in
    let fault = c.in-Err.fault in
    let o = c.tell_fault.result in
    let answers =
    fault_answers program no_image input before after o fault c.in-Err.ensures.found c.tell_fault.ensures in
    record {
      answers = record {
        answers = answers;
        steps = none_told answers.image input o (fault_is_empty front fault before after o c.tell_fault.ensures);
      };
    }
