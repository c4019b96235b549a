-- A block with more that is spare: what is seen of the blocks stays, and nothing spare is less. And memory for one more
-- in a task's list.
use Rattle.std.proofs.Common.{◌≡◌, ◌+◌, ◌<◌, ◌≤◌, ◌∷◌, ℕ, zero, suc, List, [], length, map, refl, sym, ap, ◌∙◌, arith}
use Rattle.std.proofs.Common.{slice_index_or}
use Rattle.std.specs.Prelude.{slice_set, IfSome, IsSome, Some, None, unwrap_or}
use Rattle.std.proofs.Common.{Option}
use Rattle.spill_store.specs.SpilledTasks.{BlockValue}
use Rattle.spec_state.specs.declared.task.Task.{Task}
use Rattle.spec_state.specs.declared.task.TaskId.{TaskId}

pub same_lists : (blocks : List BlockValue) (tile : ℕ) (block after : BlockValue)
    → block ≡ slice_index_or blocks tile block → after.tasks ≡ block.tasks
    → map (λ b. b.tasks) (slice_set blocks tile after) ≡ map (λ b. b.tasks) blocks
same_lists [] tile block after is same = refl
same_lists (b ∷ blocks) zero block after is same =
    ap (λ entries. entries ∷ map (λ (b : BlockValue). b.tasks) blocks) (same ∙ ap (λ (b : BlockValue). b.tasks) is)
same_lists (b ∷ blocks) (suc tile) block after is same =
    ap (λ rest. b.tasks ∷ rest) (same_lists blocks tile block after is same)

pub spare_at : (blocks : List BlockValue) (tile : ℕ) (after : BlockValue) → tile < length blocks
    → slice_index_or (map (λ b. b.spare) (slice_set blocks tile after)) tile 0 ≡ after.spare
spare_at [] tile after within = absurd (omega arith)
spare_at (b ∷ blocks) zero after within = refl
spare_at (b ∷ blocks) (suc tile) after within = spare_at blocks tile after (omega arith)

pub spare_before : (blocks : List BlockValue) (tile : ℕ) (block : BlockValue) → block ≡ slice_index_or blocks tile block
    → tile < length blocks
    → slice_index_or (map (λ b. b.spare) blocks) tile 0 ≡ block.spare
spare_before [] tile block is within = absurd (omega arith)
spare_before (b ∷ blocks) zero block is within = ap (λ (b : BlockValue). b.spare) (sym is)
spare_before (b ∷ blocks) (suc tile) block is within = spare_before blocks tile block is (omega arith)

pub spare_grows : (blocks : List BlockValue) (tile : ℕ) (block after : BlockValue)
    → block ≡ slice_index_or blocks tile block → block.spare ≤ after.spare → (k : ℕ)
    → slice_index_or (map (λ b. b.spare) blocks) k 0 ≤ slice_index_or (map (λ b. b.spare) (slice_set blocks tile after)) k 0
spare_grows [] tile block after is more k = omega arith
spare_grows (b ∷ blocks) zero block after is more zero =
    let same : block.spare ≡ b.spare = ap (λ (b : BlockValue). b.spare) is in omega (arith, same, more)
spare_grows (b ∷ blocks) zero block after is more (suc k) = omega arith
spare_grows (b ∷ blocks) (suc tile) block after is more zero = omega arith
spare_grows (b ∷ blocks) (suc tile) block after is more (suc k) = spare_grows blocks tile block after is more k

-- a larger buffer, where one was needed, has the memory that is wanted, and no less than there was
pub grown_covers : (made : Option ℕ) (items old : ℕ) → (made ≡ None → items ≤ old)
    → IfSome made (λ larger. (items ≤ larger) × (old ≤ larger))
    → (items ≤ unwrap_or made old) × (old ≤ unwrap_or made old)
grown_covers None items old none some = (none refl, omega arith)
grown_covers (Some larger) items old none some = some

module _ {X : Type 0} (slots : List (Option Task)) (listed : Task → List X) (count capacity : ℕ) where
  fits_at : (found : Option Task) → IfSome found (λ t. count ≡ length (listed t) + 1)
      → count ≤ capacity → IfSome found (λ t. length (listed t) < capacity)
  fits_at None is most = tt
  fits_at (Some t) is most = omega (arith, is, most)

  needs_at : (found : Option Task) → IsSome found → IfSome found (λ t. count ≡ length (listed t) + 1)
      → IfSome found (λ t. length (listed t) < capacity)
      → count ≤ capacity
  needs_at None there is fits = absurd (cc (there))
  needs_at (Some t) there is fits = omega (arith, is, fits)

  -- one more of a task's list fits where there is memory for as many as were counted
  pub one_more_fits : (task : Option TaskId)
      → IfSome task (λ id. IfSome (slice_index_or slots id.0 None) (λ t. count ≡ length (listed t) + 1))
      → count ≤ capacity
      → IfSome task (λ id. IfSome (slice_index_or slots id.0 None) (λ t. length (listed t) < capacity))
  one_more_fits None is most = tt
  one_more_fits (Some id) is most = fits_at (slice_index_or slots id.0 None) is most

  -- and where it fits, there is memory for as many
  pub memory_is_there : (task : Option TaskId) → IfSome task (λ id. IsSome (slice_index_or slots id.0 None))
      → (task ≡ None → count ≡ 0)
      → IfSome task (λ id. IfSome (slice_index_or slots id.0 None) (λ t. count ≡ length (listed t) + 1))
      → IfSome task (λ id. IfSome (slice_index_or slots id.0 None) (λ t. length (listed t) < capacity))
      → count ≤ capacity
  memory_is_there None there none is fits = (let zero_is = none refl in omega (arith, zero_is))
  memory_is_there (Some id) there none is fits = needs_at (slice_index_or slots id.0 None) there is fits
