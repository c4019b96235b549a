use Rattle.std.proofs.Common.{rules, subst}
use Rattle.pending_list.specs.Tournament.{IsLeastOf}
use Rattle.pending_list.proofs.Tournaments.{root_least}
use Rattle.pending_list.proofs.tournament.Tournament.least.Goals as goal

pub returns-in-Some : goal.returns-in-Some
returns-in-Some c =
    subst (λ ranks. IsLeastOf ranks c.in-Some.rank.now) c.self.view_is
    (root_least c.self.inside.nodes.items c.in-Some.rank.now c.self.invariant (search rules) (search rules))
