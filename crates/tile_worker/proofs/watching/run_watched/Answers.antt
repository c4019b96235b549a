use Rattle.std.proofs.Common.{◌∙◌}
use Rattle.tile_worker.proofs.Runs.{runs_on_more}
use Rattle.tile_worker.proofs.Told.{readings_grow}
use Rattle.tile_worker.proofs.watching.run_watched.Goals as goal

pub tell-requires-clause-readings : goal.tell-requires-clause-readings
tell-requires-clause-readings g c =
    readings_grow g.N.Naming.image g.N.Naming.budget c.watch_all-worked.result.0.book.sound.view
    c.run_rest-drained.result.book.sound.view c.watch_all-worked.result.1.told c.run_rest-drained.ensures.grows
    c.watch_all-worked.ensures.told.readings

pub returns-clause-ran : goal.returns-clause-ran
returns-clause-ran g c =
    runs_on_more c.args.workers c.new-crew.result.workers c.args.book c.watch_all-worked.result.0.book
    c.run_rest-drained.result.book c.watch_all-worked.result.0.shares c.run_rest-drained.result.shares
    c.new-crew.ensures c.watch_all-worked.ensures.ran c.run_rest-drained.ensures.workers
    c.run_rest-drained.ensures.shares c.run_rest-drained.ensures.grows

pub returns-clause-told : goal.returns-clause-told
returns-clause-told g c =
    record {
      belongs = c.tell.ensures.belongs ∙ c.watch_all-worked.ensures.told.belongs;
      readings = c.tell.ensures.readings;
      last = c.tell.ensures.last;
    }
