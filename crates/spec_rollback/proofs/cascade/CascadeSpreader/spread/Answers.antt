use Rattle.std.proofs.Common.{arith}
use Rattle.spec_rollback.proofs.Pulling.{spread_found}
use Rattle.spec_rollback.proofs.Seen.{found_within, listed_again}
use Rattle.spec_rollback.proofs.cascade.CascadeSpreader.spread.Goals as goal

pub sort_listed-requires-clause-from : goal.sort_listed-requires-clause-from
sort_listed-requires-clause-from c =
    omega (arith, c.mark_children-with_children.ensures.more, c.mark_readers-many.ensures.more)

pub sort_listed-requires-clause-upto : goal.sort_listed-requires-clause-upto
sort_listed-requires-clause-upto c =
    let made = c.mark_children-with_children.ensures in
    let read = c.mark_readers-many.ensures in
    found_within _ _ _ read.listed (omega (arith, read.places, made.places, read.size, made.size, c.requires.members))

pub returns-clause-spreads : goal.returns-clause-spreads
returns-clause-spreads c =
    let cascade = c.args.self.now in
    let made = c.mark_children-with_children.ensures in
    let read = c.mark_readers-many.ensures in
    (spread_found cascade.size _ c.args.node cascade.tasks.now.slots cascade.children.now cascade.tiles
    c.requires.knows _ _ _ _ _ _ _ _ _ c.requires.marks c.requires.marked c.requires.listed made read).spreads

pub returns-clause-all : goal.returns-clause-all
returns-clause-all c =
    let cascade = c.args.self.now in
    let made = c.mark_children-with_children.ensures in
    let read = c.mark_readers-many.ensures in
    (spread_found cascade.size _ c.args.node cascade.tasks.now.slots cascade.children.now cascade.tiles
    c.requires.knows _ _ _ _ _ _ _ _ _ c.requires.marks c.requires.marked c.requires.listed made read).all

pub returns-clause-listed : goal.returns-clause-listed
returns-clause-listed c =
    let made = c.mark_children-with_children.ensures in
    let read = c.mark_readers-many.ensures in
    let sorted = c.sort_listed.ensures in
    let within = found_within _ _ _ read.listed
    (omega (arith, read.places, made.places, read.size, made.size, c.requires.members)) in
    let place = c.requires.listed.all c.args.node c.requires.marked in
    let low = place.1 in
    listed_again c.mark_readers-many.new.marks c.mark_readers-many.new.members c.sort_listed.new.members
    c.mark_readers-many.result within sorted.places sorted.permuted
    (read.listed (omega (arith, low, made.more, read.more)))
