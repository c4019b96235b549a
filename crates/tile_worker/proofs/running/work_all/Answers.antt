use Rattle.std.proofs.Common.{arith, ◌∙◌, ap}
use Rattle.conflict_book.specs.event_def.Book.{BookView}
use Rattle.conflict_book.specs.BookViews.{view_of}
use Rattle.tile_worker.proofs.Begins.{begins_with_all, goes_on_from}
use Rattle.tile_worker.proofs.running.work_all.Goals as goal

pub invariant_of-new : goal.invariant_of-new
invariant_of-new g c =
    let same = c.new-tallied.ensures.book in
    record {
      entries = begins_with_all g.L.Begun.history _ (ap (λ (b : BookView). b.view.history) same ∙ c.requires.history);
      bytes = begins_with_all g.L.Begun.output _ (ap (λ (b : BookView). b.view.output) same ∙ c.requires.output);
    }

pub returns : goal.returns
returns g c =
    let counted = c.settle.ensures.shares in
    let before = c.open_ledger-total.ensures.before.1 in
    let steps = c.steps.ensures in
    record {
      workers = c.settle.ensures.workers ∙ c.fan-gathered.ensures;
      shares = omega (arith, counted, before, steps);
      grows =
          goes_on_from (view_of g.P.Placer.policy g.T.Tap.notes c.args.book)
          (view_of g.P.Placer.policy g.T.Tap.notes c.into_inner-tallied.result.tallied.book)
          (view_of g.P.Placer.policy g.T.Tap.notes c.settle.result.book) g.L.Begun.history g.L.Begun.output
          c.requires.history c.requires.output c.into_inner-tallied.result.entries c.into_inner-tallied.result.bytes
          c.settle.ensures.book;
    }
