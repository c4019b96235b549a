use Rattle.std.proofs.Common.{◌≡◌, true, false, length, replicate, set, subst, List, Bool, sym}
use Rattle.abort_cascade.specs.Growth.{IsListOf}
use Rattle.spec_rollback.proofs.Seen.{alone_listed}
use Rattle.spec_rollback.proofs.marking.mark_alone.Goals as goal

pub returns-clause-listed : goal.returns-clause-listed
returns-clause-listed c =
    let cleared : c.fill.new.self ≡ replicate (length c.args.marks.now) false = c.fill.ensures.after (λ y same. same) in
    subst (λ (m : List Bool). IsListOf (set m c.args.id true) (set c.args.members.now 0 c.args.id) 1) (sym cleared)
    (alone_listed (length c.args.marks.now) c.args.id c.args.members.now c.requires.within c.requires.members)
