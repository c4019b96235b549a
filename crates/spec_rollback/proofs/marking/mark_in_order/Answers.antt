use Rattle.std.proofs.Common.{arith}
use Rattle.spec_rollback.proofs.Seen.{finds_sorted, found_within}
use Rattle.spec_rollback.proofs.marking.mark_in_order.Goals as goal

pub sort_listed-requires-clause-upto : goal.sort_listed-requires-clause-upto
sort_listed-requires-clause-upto c =
    let found = c.mark_tiles-many.ensures in
    found_within _ _ _ found.listed (omega (arith, found.places, found.size, c.requires.members))

pub returns : goal.returns
returns c =
    let found = c.mark_tiles-many.ensures in
    let sorted = c.sort_listed.ensures in
    let within = found_within _ _ _ found.listed (omega (arith, found.places, found.size, c.requires.members)) in
    finds_sorted _ _ _ _ _ _ _ _ _ within sorted.places sorted.permuted sorted.stay found
