-- The queued tasks in their order: by key, and on a tie by tile, by arrival and by id.
use Rattle.std.specs.Prelude.{◌≡◌, ◌≢◌, ℕ, ◌==◌, Option, Some, None, List, [], ◌∷◌, Any, All, AllPairs, Contains}
use Rattle.std.specs.Prelude.{map, filter}
use Rattle.std.specs.Prelude.{not, cond, is_some, sum_by}
use Rattle.std.specs.Ordering.{nat_cmp, on, then_cmp}
use Rattle.std.specs.List.Sorted.{IsPermutation}
use Rattle.std.specs.declared.cmp.Ordering.{Ordering}
use Rattle.fractal_vt.specs.declared.key.Key.{Key}
use Rattle.fractal_vt.specs.Keys.{key_cmp}
use Rattle.fractal_vt.specs.Sorted.{IsInOrder, after_insert}
use Rattle.fractal_vt.specs.Renumbered.{renumbered_key, HoldsKey}
use Rattle.commit_arbiter.specs.declared.candidate.Candidate.{Candidate}

-- candidates by key, then by tile, by arrival and by id
abbrev pub candidate_cmp : Candidate → Candidate → Ordering
candidate_cmp =
    then_cmp (on (λ e. e.key) key_cmp)
    (then_cmp (then_cmp (on (λ e. e.tile) nat_cmp) (on (λ e. e.arrival) nat_cmp)) (on (λ e. e.id) nat_cmp))

-- how many candidates an index holds at most, and its candidates in their order
pub record IndexValue : Type 0 where
  pub capacity : ℕ
  pub candidates : List Candidate

-- the candidates are in their order, and no two have one id
pub record IsIndex (candidates : List Candidate) : Type 0 where
  pub order : IsInOrder candidate_cmp candidates
  pub ids : AllPairs (λ a b. a.id ≢ b.id) candidates

-- some candidate has this id
abbrev pub HasId : ℕ → List Candidate → Type 0
HasId id candidates = Any (λ e. e.id ≡ id) candidates

-- the candidates with another id
abbrev pub without_candidate : ℕ → List Candidate → List Candidate
without_candidate id candidates = filter (λ e. not (e.id == id)) candidates

-- the candidate with this tiebreaker in its key
abbrev pub with_tiebreaker : Option ℕ → Candidate → Candidate
with_tiebreaker tb e = record e { key = record e.key { tb = tb } }

-- a candidate of this id is there, with an open tiebreaker
pub record IsOpenIn (id : ℕ) (candidates : List Candidate) : Type 0 where
  pub candidate : Candidate
  pub there : Contains candidates candidate
  pub id_is : candidate.id ≡ id
  pub open_tie : candidate.key.tb ≡ None

-- 1 where the tiebreaker is closed, and 0 where it is open
abbrev pub one_closed : Option ℕ → ℕ
one_closed tb = cond (is_some tb) 1 0

-- how many of the candidates have a closed tiebreaker
abbrev pub closed_in : List Candidate → ℕ
closed_in candidates = sum_by (λ e. one_closed e.key.tb) candidates

-- a candidate of this id, where there was one, is in order with this tiebreaker now
abbrev pub IsTied : ℕ → Option ℕ → List Candidate → List Candidate → Type 0
IsTied id tb old new =
    (e : Candidate) → Contains old e → e.id ≡ id
    → new ≡ after_insert candidate_cmp (with_tiebreaker tb e) (without_candidate id old)

-- the id of the first candidate
abbrev pub first_id : List Candidate → Option ℕ
first_id [] = None
first_id (e ∷ candidates) = Some e.id

-- the keys of the candidates
abbrev pub keys : List Candidate → List Key
keys candidates = map (λ e. e.key) candidates

-- the candidate with its key's tiebreakers replaced by their places in a table
abbrev pub renumbered_candidate : List ℕ → Candidate → Candidate
renumbered_candidate table e = record e { key = renumbered_key table e.key }

-- the table holds the tiebreakers of each candidate's key
abbrev pub HoldsCandidates : List ℕ → List Candidate → Type 0
HoldsCandidates table candidates = All (λ e. HoldsKey table e.key) candidates

-- two lists in order that hold the same candidates are one
abbrev pub IndexOrderIsOne : Type 0
IndexOrderIsOne =
    (xs ys : List Candidate) → IsPermutation xs ys → IsInOrder candidate_cmp xs → IsInOrder candidate_cmp ys → xs ≡ ys
