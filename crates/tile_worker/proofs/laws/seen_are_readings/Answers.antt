use Rattle.tile_worker.proofs.Told.{seen_are_readings}
use Rattle.tile_worker.proofs.laws.seen_are_readings.Goals as goal

pub returns : goal.returns
returns c = seen_are_readings
