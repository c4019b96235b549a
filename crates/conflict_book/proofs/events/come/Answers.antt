use Rattle.std.proofs.Common.{map, subst, sym}
use Rattle.event_step.specs.event_def.Book.{book_of}
use Rattle.event_step.specs.event_def.Telling.{ComesTelling}
use Rattle.conflict_book.specs.declared.legless.Legless.{Legless}
use Rattle.conflict_book.specs.Legless.{event_of}
use Rattle.conflict_book.proofs.events.come.Goals as goal

pub returns-in-Dispatch : goal.returns-in-Dispatch
returns-in-Dispatch g c taps steps =
    subst (λ (e : Legless). ComesTelling {N = g.row.N.Denot}
    (book_of c.args.state.now.view (map g.P.Placer.policy c.args.placers.now.items) taps steps) (event_of e)
    c.dispatch.result c.dispatch.new.state.view (map g.P.Placer.policy c.args.placers.now.items)
    c.dispatch.new.state.effect) (sym c.in-Dispatch.is)
    (c.dispatch.ensures (map g.P.Placer.policy c.args.placers.now.items) taps steps)

pub returns-in-Abort : goal.returns-in-Abort
returns-in-Abort g c taps steps =
    subst (λ (e : Legless). ComesTelling {N = g.row.N.Denot}
    (book_of c.args.state.now.view (map g.P.Placer.policy c.args.placers.now.items) taps steps) (event_of e)
    c.abort.result c.abort.new.state.view (map g.P.Placer.policy c.args.placers.now.items)
    c.abort.new.state.effect) (sym c.in-Abort.is)
    (c.abort.ensures (map g.P.Placer.policy c.args.placers.now.items) taps steps)

pub returns-in-Commit : goal.returns-in-Commit
returns-in-Commit g c taps steps =
    subst (λ (e : Legless). ComesTelling {N = g.row.N.Denot}
    (book_of c.args.state.now.view (map g.P.Placer.policy c.args.placers.now.items) taps steps) (event_of e)
    c.commit_event.result c.commit_event.new.state.view (map g.P.Placer.policy c.commit_event.new.placers.items)
    c.commit_event.new.state.effect) (sym c.in-Commit.is)
    (c.commit_event.ensures taps steps)

pub returns-in-Coalesce : goal.returns-in-Coalesce
returns-in-Coalesce g c taps steps =
    subst (λ (e : Legless). ComesTelling {N = g.row.N.Denot}
    (book_of c.args.state.now.view (map g.P.Placer.policy c.args.placers.now.items) taps steps) (event_of e)
    c.coalesce.result c.coalesce.new.state.view (map g.P.Placer.policy c.args.placers.now.items)
    c.coalesce.new.state.effect) (sym c.in-Coalesce.is)
    (c.coalesce.ensures (map g.P.Placer.policy c.args.placers.now.items) taps steps)

pub returns-in-Split : goal.returns-in-Split
returns-in-Split g c taps steps =
    subst (λ (e : Legless). ComesTelling {N = g.row.N.Denot}
    (book_of c.args.state.now.view (map g.P.Placer.policy c.args.placers.now.items) taps steps) (event_of e)
    c.split.result c.split.new.state.view (map g.P.Placer.policy c.args.placers.now.items)
    c.split.new.state.effect) (sym c.in-Split.is)
    (c.split.ensures (map g.P.Placer.policy c.args.placers.now.items) taps steps)
