use Rattle.std.proofs.Common.{arith, ◌≡◌, ◌+◌, ℕ, subst, slice_index_or}
use Rattle.std.proofs.lemmas.Option.{slice_get-get_or}
use Rattle.spec_state.specs.Picks.{IsFirstIdle}
use Rattle.spec_state.proofs.Idles.{picks_lesser, keeps_unless, behind_within, behind_there}
use Rattle.spec_state.proofs.state.State.next_lesser.Goals as goal

pub returns-then-is_idle_before-clause-some : goal.returns-then-is_idle_before-clause-some
returns-then-is_idle_before-clause-some g c =
    let ids = c.args.ids.now in
    let place = c.args.best + 1 + c.loop-place.place in
    let within = behind_within ids (c.args.best + 1) c.loop-place.place c.loop-place-test.true in
    let lesser = c.is_idle_before.ensures.0 c.if-is_idle_before.true in (
      omega arith,
      within,
      picks_lesser c.args.self.now.view ids place (slice_index_or ids place 0) c.task.result.now
          (slice_get-get_or ids place 0 within)
          (behind_there ids (c.args.best + 1) c.loop-place.place c.loop-place-test.true c.args.self.now.view
          c.task.result.now c.task.ensures)
          (slice_index_or ids c.args.best 0) c.task-least.result.now c.loop-place.invariant c.task-least.ensures
          lesser.0 lesser.1,
    )

pub loop-place-preserved : goal.loop-place-preserved
loop-place-preserved g c =
    let ids = c.args.ids.now in
    let place = c.args.best + 1 + c.loop-place.place in
    let within = behind_within ids (c.args.best + 1) c.loop-place.place c.loop-place-test.true in
    let next : place + 1 ≡ c.args.best + 1 + (c.loop-place.place + 1) = omega arith in
    subst (λ (n : ℕ). IsFirstIdle c.args.self.now.view ids n (slice_index_or ids c.args.best 0)) next
    (keeps_unless c.args.self.now.view ids place (slice_index_or ids place 0) c.task.result.now
    (slice_get-get_or ids place 0 within)
    (behind_there ids (c.args.best + 1) c.loop-place.place c.loop-place-test.true c.args.self.now.view
    c.task.result.now c.task.ensures)
    (slice_index_or ids c.args.best 0) c.task-least.result.now c.loop-place.invariant c.task-least.ensures
    c.is_idle_before.result c.is_idle_before.ensures c.if-is_idle_before.false)
