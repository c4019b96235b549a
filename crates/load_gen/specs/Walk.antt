-- The image of a walk through a graph that is made of a seed.
use Rattle.std.specs.Prelude.{ℕ, zero, suc, ◌+◌, ◌*◌, ◌-◌, ◌%◌, ◌^◌, List, [], ◌∷◌, min, nat_lt, if◌then◌else◌}
use Rattle.std.specs.List.{range_with_len, flat_map}
use Rattle.guest_image.specs.Numbers.{word_bytes}
use Rattle.guest_image.specs.ImageValue.{ImageValue}
use Rattle.guest_image.specs.declared.memory_map.TheConstants.{DATA_START, TEXT_START}
use Rattle.guest_image.specs.declared.image.Kind.TheVariants.{Ordered}
use Rattle.load_gen.specs.Programs.{walk_words}

-- the next number of the linear congruential recurrence
abbrev pub next_random : ℕ → ℕ
next_random x = (1664525 * x + 1013904223) % 2 ^ 32

-- the number of a node: the seed for node 0, and the next number for each next node
abbrev pub random : ℕ → ℕ → ℕ
random seed zero = seed
random seed (suc node) = next_random (random seed node)

-- an edge to a node below the size; any other edge is missing
abbrev pub edge : ℕ → ℕ → ℕ
edge size target = if nat_lt target size then target else 0xFFFFFFFF

-- the three edges of a node with this number: to its two children in a binary heap, and to a node that is not after it
abbrev pub edges : ℕ → ℕ → ℕ → List ℕ
edges size number node = edge size (2 * node + 1) ∷ edge size (2 * node + 2) ∷ number % (node + 1) ∷ []

-- the adjacency table: the three edges of each node
abbrev pub adjacency : ℕ → ℕ → List ℕ
adjacency seed size = flat_map (λ node. edges size (random seed node) node) (range_with_len 0 size)

-- the image: the walk as text, the adjacency table as bytes, then a distance table of zeros, whose last four words
-- at most are the window, and one task at node 0
abbrev pub walk_image : ℕ → ℕ → ImageValue
walk_image seed size = record {
  version = 1;
  kind = Ordered;
  text = walk_words;
  initial = flat_map word_bytes (adjacency seed size);
  data_size = 16 * size;
  window_offset = 16 * size - 4 * min 4 size;
  window_words = min 4 size;
  tasks = record { entry = TEXT_START; ts = 0; args = 0 ∷ (DATA_START + 12 * size) ∷ 0 ∷ [] } ∷ [];
}
