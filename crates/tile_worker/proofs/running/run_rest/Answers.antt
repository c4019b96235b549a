use Rattle.tile_worker.proofs.Growing.{grows_refl}
use Rattle.tile_worker.proofs.running.run_rest.Goals as goal

pub returns-in-Some-clause-grows : goal.returns-in-Some-clause-grows
returns-in-Some-clause-grows g c = grows_refl c.args.worked.book.sound.view
