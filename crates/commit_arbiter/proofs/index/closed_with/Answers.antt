use Rattle.std.proofs.Common.{rules, ◌+◌, ◌≤◌, arith}
use Rattle.commit_arbiter.proofs.Closed.{closed_upto_all}
use Rattle.commit_arbiter.proofs.index.closed_with.Goals as goal

pub overflow_add-result : goal.overflow_add-result
overflow_add-result c =
    let all = closed_upto_all c.args.slots.now.candidates in
    let few : c.args.closed + c.one_closed.result ≤ c.len-all.result = omega (arith, all, c.requires, c.one_closed.ensures, c.len-all.ensures) in
    search (rules, few)
