use Rattle.std.proofs.Common.{◌≡◌}
use Rattle.std.specs.List.{flat_map, range_with_len}
use Rattle.guest_image.specs.Numbers.{word_bytes}
use Rattle.load_gen.specs.Walk.{edges, random}
use Rattle.load_gen.proofs.walk.adjacency.Given as goal

abbrev pub invariant-loop-node : goal.invariant-loop-node
invariant-loop-node l =
    (l.number ≡ random l.seed l.node)
    × (l.bytes.items ≡ flat_map word_bytes (flat_map (λ k. edges l.size (random l.seed k) k) (range_with_len 0 l.node)))
