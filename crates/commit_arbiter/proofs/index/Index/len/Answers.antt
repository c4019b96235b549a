use Rattle.std.proofs.Common.{sym, ap, ◌∙◌}
use Rattle.commit_arbiter.proofs.Ordered.{as_long}
use Rattle.commit_arbiter.proofs.index.Index.len.Goals as goal

pub returns : goal.returns
returns c =
    c.len.ensures
    ∙ sym (as_long c.self.inside.slots.candidates c.args.self.now.candidates (ap (λ v. v.candidates) c.self.view_is))
