use Rattle.load_gen.proofs.Table.{next_node}
use Rattle.load_gen.proofs.walk.adjacency.Goals as goal

pub loop-node-preserved : goal.loop-node-preserved
loop-node-preserved c =
    next_node c.args.seed c.args.size c.loop-node.node _ _ _ _ _ c.loop-node.invariant.0 c.loop-node.invariant.1 c.edges.ensures c.in_ok-put_words.ensures c.next_random-number.ensures
