use Rattle.std.proofs.Common.{refl, arith, ◌<◌, ◌∙◌, length}
use Rattle.event_prelude.specs.spec_state.View.{finished_at}
use Rattle.event_prelude.specs.event_def.Causes.{IsCommitFull}
use Rattle.event_prelude.specs.event_def.Book.{book_of}
use Rattle.event_prelude.proofs.Below.event_basis.Proved.{free_no_stall, later_no_stall}
use Rattle.event_step.proofs.Ending.{of_there, ends_freely, made_end, stalls_end}
use Rattle.event_step.proofs.ends.end.Goals as goal

pub returns-then-commit_free-gt0 : goal.returns-then-commit_free-gt0
returns-then-commit_free-gt0 g c placers core task takes taps steps =
    let some = c.if-commit_free-gt0.true in
    let view = c.args.state.now.view in
    let held = c.commit_free.ensures in
    let free : length (finished_at view c.args.tile) < view.settings.commit_queue = omega (arith, some, held) in
    made_end g.row.N.Denot _ placers taps steps c.args.tile core c.args.id.0 c.args.leg.now task
    c.requires.goes_on c.requires.asks takes
    (free_no_stall (book_of c.args.state.now.view placers taps steps) c.args.tile core c.args.id.0
    c.args.leg.now task takes free)
    0 _ _ c.record_of.result
    (ends_freely c.args.tile core c.args.id.0 c.args.leg.now task _ _ _ free
    (c.finish.ensures.finishes c.args.tile core task takes) (c.finish.ensures.effect ∙ c.requires.fresh))
    c.record_of.ensures

pub returns-in-Some : goal.returns-in-Some
returns-in-Some g c placers core task takes taps steps =
    let later = of_there _ _ task c.in-Some.ensures.some takes.runs.on.there in
    made_end g.row.N.Denot _ placers taps steps c.args.tile core c.args.id.0 c.args.leg.now task
    c.requires.goes_on c.requires.asks takes
    (later_no_stall (book_of c.args.state.now.view placers taps steps) c.args.tile core c.args.id.0
    c.args.leg.now task takes _ later.0 later.1.of_kind later.2)
    c.finish_after-aborted.result _ _ c.record_of-in-Some.result (c.finish_after-aborted.ensures core task takes)
    c.record_of-in-Some.ensures

pub returns-in-None : goal.returns-in-None
returns-in-None g c placers core task takes taps steps =
    let none = c.if-commit_free-gt0.false in
    let held = c.commit_free.ensures in
    let full : IsCommitFull c.args.state.now.view c.args.tile = omega (arith, none, held) in
    stalls_end g.row.N.Denot _ placers taps steps c.args.tile core c.args.id.0 c.args.leg.now task
    c.requires.goes_on c.requires.asks takes
    full
    (of_there _ _ task (c.in-None.ensures.none refl) takes.runs.on.there) _ c.requires.fresh
