use Rattle.std.proofs.Common.{◌≡◌, ◌+◌, ◌∙◌, Some, [], ◌∷◌, length, length-append, subst, sym, ap}
use Rattle.serial_machine.specs.Run.{IsRun, opening}
use Rattle.serial_machine.specs.Turn.{turn}
use Rattle.serial_machine.proofs.WholeRuns.{Runs-more}
use Rattle.serial_machine.specs.WholeRun.{IsTaken}
use Rattle.serial_machine.proofs.whole_run.take_turns.Goals as goal

pub loop-preserved : goal.loop-preserved
loop-preserved c =
    let image = c.args.image.now in
    let budget = c.args.serial.now.budget in
    let before = c.loop.serial.state in
    let after = c.take_one.new.serial.state in
    let taken : IsTaken image c.loop.serial c.take_one.new.serial c.loop.journal.items c.take_one.new.journal.items = c.in-Taken.ensures in
    let entry = taken.entry in
    let turned : turn image budget before entry.name ≡ Some (after, entry) = subst (λ b. turn image b before entry.name ≡ Some (after, entry)) c.loop.invariant.kept taken.turned in
    record {
      run =
          subst (λ js. IsRun image budget js after) (sym taken.told) (Runs-more image budget c.loop.journal.items (opening image) before after entry c.loop.invariant.run turned);
      kept = taken.budget ∙ c.loop.invariant.kept;
      count = taken.counted ∙ ap (λ n. n + 1) c.loop.invariant.count;
      long =
          ap length taken.told ∙ length-append c.loop.journal.items (entry ∷ [])
          ∙ ap (λ n. n + 1) c.loop.invariant.long;
    }
