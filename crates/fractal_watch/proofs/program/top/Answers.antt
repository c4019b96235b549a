use Rattle.std.proofs.Common.{[], refl, sym, subst}
use Rattle.std.specs.declared.marker.Brand.{Brand}
use Rattle.program_call.specs.Call.{input_of}
use Rattle.program_call.proofs.Proved.{fault_answers, no_image}
use Rattle.fractal_watch.specs.Finding.{IsWatchFound}
use Rattle.fractal_watch.specs.Program.{program}
use Rattle.fractal_watch.proofs.Answering.{no_script_answers}
use Rattle.fractal_watch.proofs.program.top.Goals as goal

pub watch_image-requires-clause-limits : goal.watch_image-requires-clause-limits
watch_image-requires-clause-limits g c =
    let input = input_of c.args.words.now [] [] (g.S.Source.state c.args.source.now)
    (g.S.Source.state c.find.new.source) in
    let ready = c.in-Ok-Ready in
    let found = subst (IsWatchFound input) ready.field-0-is (ready.ensures.found []) in
    found.1.within.limits

pub watch_image-requires-clause-ranges : goal.watch_image-requires-clause-ranges
watch_image-requires-clause-ranges g c =
    let input = input_of c.args.words.now [] [] (g.S.Source.state c.args.source.now)
    (g.S.Source.state c.find.new.source) in
    let ready = c.in-Ok-Ready in
    let found = subst (IsWatchFound input) ready.field-0-is (ready.ensures.found []) in
    found.1.within.ranges

pub returns-in-Err : goal.returns-in-Err
returns-in-Err g c =
    let input = input_of c.args.words.now _ [] (g.S.Source.state c.args.source.now)
    (g.S.Source.state c.find.new.source) in
    record {
      answers = fault_answers (program Brand) no_image input (g.K.Sink.state c.args.sink.now)
          (g.K.Sink.state c.tell_fault.new.sink) c.tell_fault.result c.in-Err.fault (c.in-Err.ensures.found _)
          c.tell_fault.ensures;
    }

pub returns-in-Ok-NoScript : goal.returns-in-Ok-NoScript
returns-in-Ok-NoScript g c =
    let input = input_of c.args.words.now _ [] (g.S.Source.state c.args.source.now)
    (g.S.Source.state c.find.new.source) in
    let refused = c.in-Ok-NoScript in
    let told = c.tell_script_fault in
    record {
      answers = no_script_answers Brand input (g.K.Sink.state c.args.sink.now) (g.K.Sink.state told.new.sink)
          refused.line told.result
          (subst (IsWatchFound input) refused.field-0-is (refused.ensures.found _)) told.ensures;
    }

pub returns-in-Ok-Ready : goal.returns-in-Ok-Ready
returns-in-Ok-Ready g c =
    let input = input_of c.args.words.now _ [] (g.S.Source.state c.args.source.now)
    (g.S.Source.state c.find.new.source) in
    let ready = c.in-Ok-Ready in
    let found = subst (IsWatchFound input) ready.field-0-is (ready.ensures.found _) in
    record { answers = c.watch_image.ensures input found.0 refl found.1 found.2 }
