use Rattle.std.proofs.Common.{arith, rules}
use Rattle.std.proofs.lemmas.Grind.{common_steps}
use Rattle.machine_tests.proofs.Readings.{opening_told}
use Rattle.machine_tests.proofs.workers.watch_by.Goals as goal

pub watch-watched-requires-clause-told : goal.watch-watched-requires-clause-told
watch-watched-requires-clause-told g c _ _ =
    record {
      belongs = c.requires.belongs;
      readings = opening_told c.opening_is_reading.ensures _ _ _ _ c.requires.told;
      last = first_of (search rules, grind (arith, common_steps));
    }
