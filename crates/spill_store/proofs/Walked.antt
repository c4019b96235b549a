-- A walk over the blocks of all tiles, and one block that changes.
use Rattle.std.proofs.Common.{◌≡◌, ◌<◌, ◌+◌, ◌∷◌, ◌++◌, ℕ, zero, suc, List, [], length, map, take, drop, refl, sym, ap}
use Rattle.std.proofs.Common.{subst, ◌∙◌, arith, slice_index_or}
use Rattle.std.specs.Prelude.{All, slice_set}
use Rattle.std.proofs.lemmas.List.{length-map, map-set, get_or-map}
use Rattle.std.proofs.lemmas.List.Edits.{map_over_more}
use Rattle.spill_store.specs.SpilledTasks.{BlockValue, HoldsSpilled, renumbered_spilled}
use Rattle.spill_store.specs.Fronts.{lists_in}

-- the first so many are mapped
abbrev over : {X : Type 0} → (X → X) → List X → ℕ → List X
over f xs n = map f (take n xs) ++ drop n xs

behind : {X : Type 0} (f : X → X) (xs : List X) (i : ℕ) (d : X)
    → slice_index_or (over f xs i) i d ≡ slice_index_or xs i d
behind f [] zero d = refl
behind f [] (suc i) d = refl
behind f (x ∷ xs) zero d = refl
behind f (x ∷ xs) (suc i) d = behind f xs i d

module _ (table : List ℕ) (first blocks : List BlockValue) (tile : ℕ) (block : BlockValue) (within : tile < length blocks) (long : length blocks ≡ length first)
    (is : lists_in blocks ≡ over (map (renumbered_spilled table)) (lists_in first) tile) (at : block ≡ slice_index_or blocks tile block) where
  in_lists : tile < length (lists_in first)
  in_lists = omega (arith, within, long, length-map first (λ (b : BlockValue). b.tasks))

  own_tasks : block.tasks ≡ slice_index_or (lists_in blocks) tile block.tasks
  own_tasks =
      ap (λ (b : BlockValue). b.tasks) at
      ∙ sym (get_or-map (λ (b : BlockValue). b.tasks) blocks tile block block.tasks within)

  -- the table holds the numbers of a block to which the walk comes
  pub block_held : All (HoldsSpilled table) (lists_in first) → HoldsSpilled table block.tasks
  block_held all =
      subst (HoldsSpilled table) (sym (own_tasks ∙ ap (λ lists. slice_index_or lists tile block.tasks) is ∙ behind (map (renumbered_spilled table)) (lists_in first) tile block.tasks))
      (all tile block.tasks in_lists)

  -- its tasks are renumbered
  pub tasks_more : (after : BlockValue) → after.tasks ≡ map (renumbered_spilled table) block.tasks
      → lists_in (slice_set blocks tile after) ≡ over (map (renumbered_spilled table)) (lists_in first) (tile + 1)
  tasks_more after renumbered =
      map-set (λ (b : BlockValue). b.tasks) blocks tile after ∙ ap (slice_set (lists_in blocks) tile) renumbered
      ∙ map_over_more (map (renumbered_spilled table)) (lists_in first) (lists_in blocks) tile block.tasks in_lists is own_tasks

-- and what is spare of each block stays
pub spare_same : (blocks : List BlockValue) (tile : ℕ) (block after : BlockValue)
    → block ≡ slice_index_or blocks tile block → after.spare ≡ block.spare
    → map (λ b. b.spare) (slice_set blocks tile after) ≡ map (λ b. b.spare) blocks
spare_same [] tile block after is same = refl
spare_same (b ∷ blocks) zero block after is same =
    ap (λ spare. spare ∷ map (λ (b : BlockValue). b.spare) blocks) (same ∙ ap (λ (b : BlockValue). b.spare) is)
spare_same (b ∷ blocks) (suc tile) block after is same =
    ap (λ rest. b.spare ∷ rest) (spare_same blocks tile block after is same)

-- a block that holds what it held
pub same_lists : (blocks : List BlockValue) (tile : ℕ) (block after : BlockValue)
    → block ≡ slice_index_or blocks tile block → after.tasks ≡ block.tasks
    → lists_in (slice_set blocks tile after) ≡ lists_in blocks
same_lists [] tile block after is same = refl
same_lists (b ∷ blocks) zero block after is same =
    ap (λ tasks. tasks ∷ lists_in blocks) (same ∙ ap (λ (b : BlockValue). b.tasks) is)
same_lists (b ∷ blocks) (suc tile) block after is same =
    ap (λ rest. b.tasks ∷ rest) (same_lists blocks tile block after is same)

-- the list of a block
pub tasks_at : (blocks : List BlockValue) (tile : ℕ) (block : BlockValue) → tile < length blocks
    → block ≡ slice_index_or blocks tile block → slice_index_or (lists_in blocks) tile [] ≡ block.tasks
tasks_at blocks tile block inside is =
    get_or-map (λ (b : BlockValue). b.tasks) blocks tile block [] inside ∙ ap (λ (b : BlockValue). b.tasks) (sym is)
