-- Bounded lists of distinct ids.
use Rattle.std.specs.Prelude.{ℕ, ◌<◌, ◌≤◌, ◌≢◌, ◌==◌, Bool, false, not, List, length, filter, AllPairs, slice_index_or}

-- how many ids a queue may hold, and those that it holds, in order of arrival
pub record QueueValue : Type 0 where
  pub capacity : ℕ
  pub ids : List ℕ

-- the list contains no id twice
abbrev pub AreDistinct : List ℕ → Type 0
AreDistinct ids = AllPairs (λ a b. a ≢ b) ids

-- the ids but this one, in their order
abbrev pub ids_but : ℕ → List ℕ → List ℕ
ids_but id ids = filter (λ other. not (other == id)) ids

-- the ids whose mark isn't true, in their order; past the marks there is none
abbrev pub unmarked_ids : List Bool → List ℕ → List ℕ
unmarked_ids marks ids = filter (λ id. not (slice_index_or marks id false)) ids

-- the ids are distinct and at most as many as the capacity, which is at least 1 and for which there is memory
pub record FitsIn (capacity memory : ℕ) (ids : List ℕ) : Type 0 where
  pub some : 0 < capacity
  pub distinct : AreDistinct ids
  pub bounded : length ids ≤ capacity
  pub spare : capacity ≤ memory
