use Rattle.std.proofs.Common.{rules}
use Rattle.conflict_book.proofs.Fresh.{free_moved, fresh_moves}
use Rattle.conflict_book.proofs.opening.make_queue_room.Goals as goal

pub coalesce-requires-clause-some : goal.coalesce-requires-clause-some
coalesce-requires-clause-some g c =
    fresh_moves g.N.Naming.image.data_size c.args.state.now.view c.args.tile c.is_stored.ensures c.requires.fresh c.has_loads.ensures.valid (search rules)

pub returns-clause-free : goal.returns-clause-free
returns-clause-free g c =
    free_moved c.args.tile c.args.state.now.view _ c.in_ok-coalesce.ensures.ok.0 c.is_short.ensures
