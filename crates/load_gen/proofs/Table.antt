-- The adjacency table, node by node.
use Rattle.std.proofs.Common.{◌≡◌, ℕ, ◌+◌, ◌*◌, List, [], ◌∷◌, ◌++◌, zero, suc, refl, ap, sym, ◌∙◌, length, arith}
use Rattle.std.specs.List.{flat_map, range_with_len}
use Rattle.std.proofs.lemmas.List.Concat.{flat_map-append}
use Rattle.guest_image.specs.Numbers.{word_bytes}
use Rattle.load_gen.specs.Walk.{edges, random, next_random, adjacency}

range_more : (a n : ℕ) → range_with_len a (n + 1) ≡ range_with_len a n ++ (a + n) ∷ []
range_more a zero = ap (λ k. k ∷ []) (let e : a ≡ a + 0 = omega arith in e)
range_more a (suc n) =
    ap (range_with_len a) (let e : suc n + 1 ≡ suc (n + 1) = omega arith in e)
    ∙ ap (λ xs. a ∷ xs) (range_more (a + 1) n) ∙ ap (λ k. a ∷ range_with_len (a + 1) n ++ k ∷ []) (let e : a + 1 + n ≡ a + suc n = omega arith in e)

-- the table of one more node
one_more_node : (seed size node : ℕ)
    → flat_map word_bytes (flat_map (λ k. edges size (random seed k) k) (range_with_len 0 (node + 1))) ≡ flat_map word_bytes (flat_map (λ k. edges size (random seed k) k) (range_with_len 0 node)) ++ flat_map word_bytes (edges size (random seed node) node)
one_more_node seed size node =
    ap (λ xs. flat_map word_bytes (flat_map (λ k. edges size (random seed k) k) xs)) (range_more 0 node)
    ∙ ap (flat_map word_bytes) (flat_map-append (λ k. edges size (random seed k) k) (range_with_len 0 node) ((0 + node) ∷ []))
    ∙ flat_map-append word_bytes (flat_map (λ k. edges size (random seed k) k) (range_with_len 0 node)) (flat_map (λ k. edges size (random seed k) k) ((0 + node) ∷ []))
    ∙ ap (λ k. flat_map word_bytes (flat_map (λ k. edges size (random seed k) k) (range_with_len 0 node)) ++ flat_map word_bytes (edges size (random seed k) k)) (let e : 0 + node ≡ node = omega arith in e)

-- once more through the loop: the next number, and the table of one more node
pub next_node : (seed size node number next : ℕ) (old three new : List ℕ) → number ≡ random seed node
    → old ≡ flat_map word_bytes (flat_map (λ k. edges size (random seed k) k) (range_with_len 0 node))
    → three ≡ edges size number node → new ≡ old ++ flat_map word_bytes three → next ≡ next_random number
    → (next ≡ random seed (node + 1)) × (new ≡ flat_map word_bytes (flat_map (λ k. edges size (random seed k) k) (range_with_len 0 (node + 1))))
next_node seed size node number next old three new at was own put step = (
  step ∙ ap next_random at ∙ ap (random seed) (let e : suc node ≡ node + 1 = omega arith in e),
  put ∙ ap (λ xs. xs ++ flat_map word_bytes three) was
      ∙ ap (λ xs. flat_map word_bytes (flat_map (λ k. edges size (random seed k) k) (range_with_len 0 node)) ++ flat_map word_bytes xs) (own ∙ ap (λ n. edges size n node) at)
      ∙ sym (one_more_node seed size node),
)

length_from : (seed size a n : ℕ)
    → length (flat_map word_bytes (flat_map (λ k. edges size (random seed k) k) (range_with_len a n))) ≡ 12 * n
length_from seed size a zero = refl
length_from seed size a (suc n) = omega (arith, length_from seed size (a + 1) n)

-- the bytes of the table are twelve for each node
pub length_of_table : (seed size : ℕ) → length (flat_map word_bytes (adjacency seed size)) ≡ 12 * size
length_of_table seed size = length_from seed size 0 size
