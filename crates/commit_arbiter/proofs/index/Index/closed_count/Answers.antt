use Rattle.std.proofs.Common.{sym, ap, ◌∙◌}
use Rattle.commit_arbiter.proofs.Closed.{shown_closed}
use Rattle.commit_arbiter.proofs.index.Index.closed_count.Goals as goal

pub returns : goal.returns
returns c =
    c.self.invariant.1
    ∙ sym (shown_closed c.self.inside.slots.candidates c.args.self.now.candidates (ap (λ v. v.candidates) c.self.view_is))
