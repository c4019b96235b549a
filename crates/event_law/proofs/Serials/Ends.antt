-- A run that is over ends as the serial machine's run does.
use Rattle.std.proofs.Common.{◌<◌, length, arith}
use Rattle.run_journal.specs.declared.end.End.TheVariants as ends
use Rattle.event_law.specs.Laws.{EndIsSerial}
use Rattle.event_law.proofs.Serials.Free.{none_pending, all_committed}
use Rattle.event_law.proofs.Serials.Trap.{trap_is_serial}

-- by how it ended
pub end_is_serial : EndIsSerial
end_is_serial image view ends.Normal within sound all = none_pending image view sound all
end_is_serial image view ends.Limit within sound over = (λ empty. over.0 (all_committed image view sound empty), over.1)
end_is_serial image view (ends.Trap name cause pc) within sound over =
    let few = sound.tasks.few in
    let other = over.0 in
    let below : length view.history < view.settings.commits = omega arith in
    (below, trap_is_serial image view within sound name cause pc over.1)
end_is_serial image view ends.Unfinished within sound over = absurd over
