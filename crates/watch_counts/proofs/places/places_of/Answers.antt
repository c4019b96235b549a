use Rattle.std.proofs.Common.{rules}
use Rattle.watch_counts.proofs.Stopping.{capped_narrow}
use Rattle.watch_counts.proofs.places.places_of.Goals as goal

pub returns : goal.returns
returns g c =
    let held = c.on_cores-on_cores in
    let running = capped_narrow _ held.result.running c.from.result held.ensures.running (search rules)
    (search rules) in
    let stalled = capped_narrow _ held.result.stalled c.from-2.result held.ensures.stalled (search rules)
    (search rules) in
    let trapped = capped_narrow _ held.result.trapped c.from-3.result held.ensures.trapped (search rules)
    (search rules) in
    λ i. record {
      queued = c.queued_of.ensures i;
      running = running i;
      stalled = stalled i;
      trapped = trapped i;
      finished = c.finished_of.ensures i;
      spilled = c.spilled_of.ensures i;
    }
