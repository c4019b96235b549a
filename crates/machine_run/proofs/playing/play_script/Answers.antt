use Rattle.std.proofs.Common.{map, sym, subst}
use Rattle.outcome_law.specs.conflict_book.BookViews.{view_of}
use Rattle.machine_run.specs.Played.{IsPlayedOrPart}
use Rattle.machine_run.proofs.Named.{left_named}
use Rattle.machine_run.proofs.Scripts.{stays_within}
use Rattle.machine_run.proofs.playing.play_script.Goals as goal

pub play_begun-requires-clause-within : goal.play_begun-requires-clause-within
play_begun-requires-clause-within g c =
    let placers = map g.P.Placer.policy c.args.placers.items in
    let taps = map g.T.Tap.notes c.args.taps.items in
    let opening = view_of g.P.Placer.policy g.T.Tap.notes c.in_ok-book.book in
    stays_within g.N.Naming.image c.args.settings c.args.script.now placers taps opening c.in_ok-book.ensures
    c.requires.within

pub returns-clause-played : goal.returns-clause-played
returns-clause-played g c =
    let settings = c.args.settings in
    let placers = map g.P.Placer.policy c.args.placers.items in
    let taps = map g.T.Tap.notes c.args.taps.items in
    subst (λ image. IsPlayedOrPart g.row.N.Denot image settings c.args.script.now placers taps
    c.play_begun.result) (sym c.requires.named.image_is)
    (c.play_begun.ensures.played settings placers taps c.in_ok-book.ensures)

pub returns-clause-left : goal.returns-clause-left
returns-clause-left g c =
    left_named c.args.image.now c.args.settings g.N.Naming.image g.N.Naming.budget g.N.Naming.commits
    c.requires.named c.play_begun.result.ran c.play_begun.ensures.left
