-- Candidates in the slots of a table.
use Rattle.std.specs.Prelude.{◌≡◌, ◌≢◌, ℕ, ◌+◌, ◌<◌, ◌≤◌, None, List, [], ◌++◌, Some, All, map, slice_get, length}
use Rattle.std.specs.Prelude.{nat_eq, slice_index_or}
use Rattle.std.specs.List.{IsDistinct}
use Rattle.std.specs.List.Sorted.{IsPermutation}
use Rattle.commit_arbiter.specs.declared.candidate.Candidate.{Candidate}

-- how many slots there are, and the candidates in those in use
pub record SlotsValue : Type 0 where
  pub capacity : ℕ
  pub candidates : List Candidate

-- the contents of a slot that was never used
abbrev pub blank_candidate : Candidate
blank_candidate = record { key = record { domain = []; ts = 0; tb = None }; tile = 0; arrival = 0; id = 0 }

-- the candidates in these slots
abbrev pub in_slots : List Candidate → List ℕ → List Candidate
in_slots table slots = map (λ slot. slice_index_or table slot blank_candidate) slots

-- each slot of the table is in use or free, and the two vectors have memory for all
pub record IsSlotted (table : List Candidate) (order free : List ℕ) (order_capacity free_capacity : ℕ) : Type 0 where
  pub distinct : IsDistinct nat_eq (order ++ free)
  pub within : All (λ slot. slot < length table) (order ++ free)
  pub all : length order + length free ≡ length table
  pub order_holds : length table ≤ order_capacity
  pub free_holds : length table ≤ free_capacity

-- the candidate at a place, and a blank one past the end
abbrev pub candidate_at : List Candidate → ℕ → Candidate
candidate_at candidates k = slice_index_or candidates k blank_candidate

-- two candidates have changed places, and all others stayed
pub record HasSwapped (old new : List Candidate) (a b : ℕ) : Type 0 where
  pub long : length new ≡ length old
  pub first : candidate_at new a ≡ candidate_at old b
  pub second : candidate_at new b ≡ candidate_at old a
  pub others : (k : ℕ) → k ≢ a → k ≢ b → candidate_at new k ≡ candidate_at old k
  pub permuted : IsPermutation old new

-- this is the place of a candidate with this id
pub record IsPlaceOfId (id : ℕ) (candidates : List Candidate) (place : ℕ) : Type 0 where
  pub candidate : Candidate
  pub there : slice_get candidates place ≡ Some candidate
  pub id_is : candidate.id ≡ id
