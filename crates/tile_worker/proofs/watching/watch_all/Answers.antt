use Rattle.std.proofs.Common.{arith, ◌≡◌, ◌∙◌, ap, le_refl, length, subst, sym, take, List}
use Rattle.std.proofs.lemmas.List.{take_all}
use Rattle.progress_cell.specs.declared.reading.Reading.{Reading}
use Rattle.conflict_book.specs.event_def.Book.{BookView}
use Rattle.conflict_book.specs.Counts.{counts_of}
use Rattle.conflict_book.specs.BookViews.{view_of}
use Rattle.tile_worker.specs.Readings.{AreReadings}
use Rattle.tile_worker.proofs.Begins.{begins_with_all, goes_on_from}
use Rattle.tile_worker.proofs.watching.watch_all.Goals as goal

pub invariant_of-new : goal.invariant_of-new
invariant_of-new g c =
    let told : List Reading = c.args.writer.told in
    let same = sym c.new-tallied.ensures.book in
    record {
      entries =
          begins_with_all g.L.Begun.history _ (ap (λ (b : BookView). b.view.history) c.new-tallied.ensures.book ∙ c.requires.history);
      bytes =
          begins_with_all g.L.Begun.output _ (ap (λ (b : BookView). b.view.output) c.new-tallied.ensures.book ∙ c.requires.output);
      belongs = c.requires.told.belongs ∙ c.requires.board;
      goes_on =
          subst (λ (before : List Reading). take (length before) told ≡ before) c.requires.before (take_all (length told) told (le_refl _));
      readings =
          subst (λ (b : BookView). AreReadings g.N.Naming.image g.N.Naming.budget b.view.history told) same c.requires.told.readings;
      last = c.requires.told.last ∙ ap (λ (b : BookView). counts_of b.view) same;
    }

pub returns-clause-ran : goal.returns-clause-ran
returns-clause-ran g c =
    let counted = c.settle.ensures.shares in
    let before = c.open_ledger-total.ensures.before.1 in
    let steps = c.steps.ensures in
    record {
      workers = c.settle.ensures.workers ∙ c.fan-gathered.ensures;
      shares = omega (arith, counted, before, steps);
      grows =
          goes_on_from (view_of g.P.Placer.policy g.T.Tap.notes c.args.book)
          (view_of g.P.Placer.policy g.T.Tap.notes c.into_inner-tallied.result.tallied.book)
          (view_of g.P.Placer.policy g.T.Tap.notes c.settle.result.book) g.L.Begun.history g.L.Begun.output
          c.requires.history c.requires.output c.into_inner-tallied.result.entries c.into_inner-tallied.result.bytes
          c.settle.ensures.book;
    }

pub returns-clause-told : goal.returns-clause-told
returns-clause-told g c =
    let told = c.into_inner-tallied.result.writer.told in
    let same = sym c.settle.ensures.book in
    record {
      belongs = c.into_inner-tallied.result.belongs ∙ sym c.requires.board;
      readings =
          subst (λ (b : BookView). AreReadings g.N.Naming.image g.N.Naming.budget b.view.history told) same
          c.into_inner-tallied.result.readings;
      last = c.into_inner-tallied.result.last ∙ ap (λ (b : BookView). counts_of b.view) same;
    }
