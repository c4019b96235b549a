use Rattle.std.proofs.Common.{arith, ◌≡◌, false, length, replicate}
use Rattle.abort_cascade.proofs.Union.{of_one, unmarked}
use Rattle.abort_cascade.proofs.marking.mark.Goals as goal

pub returns : goal.returns
returns g c =
    let cleared : c.fill.new.self ≡ replicate (length c.args.marks.now) false = c.fill.ensures.after (λ y same. same) in
    of_one (g.P.Pulls.count c.args.relation.now) (g.P.Pulls.pull c.args.relation.now) c.args.first c.fill.new.self c.grow.new.marks (omega arith)
    (λ k. rw cleared (unmarked (length c.args.marks.now) k)) c.grow.ensures
