use Rattle.std.proofs.Common.{rules, slice_index_or}
use Rattle.std.proofs.lemmas.Option.{slice_get-get_or}
use Rattle.spec_state.proofs.Idles.{passes_busy, picks_only}
use Rattle.spec_state.proofs.state.State.first_idle.Goals as goal

pub returns-then-is_idle-clause-some : goal.returns-then-is_idle-clause-some
returns-then-is_idle-clause-some g c = (
  c.loop-place-test.true,
  picks_only c.args.self.now.view c.args.ids.now c.loop-place.place
      (slice_index_or c.args.ids.now c.loop-place.place 0) c.task.result.now
      (slice_get-get_or c.args.ids.now c.loop-place.place 0 c.loop-place-test.true) c.task.ensures
      (search rules) c.loop-place.invariant,
)

pub loop-place-preserved : goal.loop-place-preserved
loop-place-preserved g c =
    passes_busy c.args.self.now.view c.args.ids.now c.loop-place.place
    (slice_index_or c.args.ids.now c.loop-place.place 0) c.task.result.now
    (slice_get-get_or c.args.ids.now c.loop-place.place 0 c.loop-place-test.true) c.task.ensures
    (search rules) c.loop-place.invariant
