use Rattle.tile_worker.proofs.Runs.{runs_on_more}
use Rattle.tile_worker.proofs.running.run_tiles.Goals as goal

pub returns-clause-ran : goal.returns-clause-ran
returns-clause-ran g c =
    runs_on_more c.args.workers c.new-crew.result.workers c.args.book c.work_all-worked.result.book
    c.run_rest.result.book c.work_all-worked.result.shares c.run_rest.result.shares c.new-crew.ensures
    c.work_all-worked.ensures c.run_rest.ensures.workers c.run_rest.ensures.shares c.run_rest.ensures.grows
