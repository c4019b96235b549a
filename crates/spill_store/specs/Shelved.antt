-- Spilled tasks that stay at their places, and the places in an order of their own.
use Rattle.std.specs.Prelude.{◌≡◌, ℕ, ◌+◌, ◌<◌, ◌≤◌, ◌^◌, List, [], ◌∷◌, ◌++◌, All, map, length, nat_eq, slice_index_or}
use Rattle.std.specs.List.{IsDistinct}
use Rattle.spill_store.specs.SpilledTasks.{Spilled}

-- the contents of a place past the end
abbrev pub blank_spilled : Spilled
blank_spilled = record {
  desc = record {
    name = record { creator = 0; index = 0 };
    entry = 0;
    ts = 0;
    args = 0 ∷ 0 ∷ 0 ∷ [];
    hint = 0;
    depth = 0;
    kinds = 0;
  };
  domain = [];
}

-- the tasks at these places
abbrev pub at_places : List Spilled → List ℕ → List Spilled
at_places kept places = map (λ place. slice_index_or kept place blank_spilled) places

-- each place is in use or free, and the order of places, what is kept and the free places have memory for the capacity
pub record IsShelved (kept : List Spilled) (order free : List ℕ)
    (capacity order_capacity kept_capacity free_capacity : ℕ) : Type 0 where
  pub distinct : IsDistinct nat_eq (order ++ free)
  pub within : All (λ place. place < length kept) (order ++ free)
  pub all : length order + length free ≡ length kept
  pub holds : length kept ≤ capacity
  pub few : capacity ≤ 2 ^ 32
  pub order_holds : capacity ≤ order_capacity
  pub kept_holds : capacity ≤ kept_capacity
  pub free_holds : capacity ≤ free_capacity
