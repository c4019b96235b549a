use Rattle.std.proofs.Common.{◌↔◌, IsTrue, subst}
use Rattle.watch_play.specs.Courses.{LeastWaits}
use Rattle.watch_play.proofs.stage.waits.Goals as goal

pub returns-in-Some : goal.returns-in-Some
returns-in-Some g c =
    let is = c.in-Some.ensures.some in
    subst (λ view. IsTrue c.is_waiting.result ↔ LeastWaits view) c.state.ensures.view
    (c.is_waiting.ensures c.state.result.now.view is.0 is.1)
