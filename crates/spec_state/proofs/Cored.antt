-- The cores of all tiles with another holder on one of them.
use Rattle.std.proofs.Common.{◌≡◌, ◌≢◌, ◌⊎◌, ◌<◌, ◌∷◌, ℕ, zero, suc, List, [], length, Option, Some, refl, sym, ap, ◌∙◌}
use Rattle.std.proofs.Common.{inl, inr, arith, slice_get, slice_index_or, get_or-set_other, get_or-set_same}
use Rattle.std.specs.Prelude.{All, slice_set}
use Rattle.std.proofs.lemmas.Bool.{cases_eq}
use Rattle.std.proofs.lemmas.List.{length-set}
use Rattle.std.proofs.lemmas.List.Elements.{All-set}
use Rattle.std.proofs.lemmas.Option.{slice_get_within}
use Rattle.spec_state.specs.View.{View, cores_at}
use Rattle.spec_state.specs.Changes.{with_core}

-- what stands at the place that is written
pub set_here : {X : Type 0} (xs : List X) (i : ℕ) (x : X) → i < length xs → slice_get (slice_set xs i x) i ≡ Some x
set_here [] i x below = absurd (omega (arith, below))
set_here (y ∷ xs) zero x below = refl
set_here (y ∷ xs) (suc i) x below = set_here xs i x (omega (arith, below))

-- and at any other
pub set_there : {X : Type 0} (xs : List X) (i j : ℕ) (x : X) → j ≢ i → slice_get (slice_set xs i x) j ≡ slice_get xs j
set_there [] i j x other = refl
set_there (y ∷ xs) zero zero x other = absurd (other refl)
set_there (y ∷ xs) zero (suc j) x other = refl
set_there (y ∷ xs) (suc i) zero x other = refl
set_there (y ∷ xs) (suc i) (suc j) x other = set_there xs i j x (λ same. other (ap suc same))

-- a list with something at a place stands within all
pub at_within : {X : Type 0} (lists : List (List X)) (k i : ℕ) (x : X)
    → slice_get (slice_index_or lists k []) i ≡ Some x → k < length lists
at_within [] k i x has = absurd (cc (has))
at_within (xs ∷ lists) zero i x has = omega arith
at_within (xs ∷ lists) (suc k) i x has = let rest = at_within lists k i x has in omega (arith, rest)

module _ (view : View) (tile core : ℕ) (was holder : Option ℕ) (there : slice_get (cores_at view tile) core ≡ Some was) where
  -- the tile has cores
  tile_below : tile < length view.cores
  tile_below = at_within view.cores tile core was there

  -- the cores of the tile are those with the holder
  tile_cores : slice_index_or (with_core view tile core holder) tile [] ≡ slice_set (cores_at view tile) core holder
  tile_cores = get_or-set_same view.cores tile (slice_set (cores_at view tile) core holder) [] tile_below

  -- the core has the holder
  pub holder_now : slice_get (slice_index_or (with_core view tile core holder) tile []) core ≡ Some holder
  holder_now =
      ap (λ cores. slice_get cores core) tile_cores
      ∙ set_here (cores_at view tile) core holder (slice_get_within (cores_at view tile) core was there)

  -- and each other core has its own
  pub others_now : (at c : ℕ) → ((at ≡ tile) → c ≢ core)
      → slice_get (slice_index_or (with_core view tile core holder) at []) c ≡ slice_get (cores_at view at) c
  others_now at c other = elim (cases_eq at tile) [
    | inl same ↦
        ap (λ i. slice_get (slice_index_or (with_core view tile core holder) i []) c) same
        ∙ ap (λ cores. slice_get cores c) tile_cores
        ∙ set_there (cores_at view tile) core c holder (other same)
        ∙ ap (λ i. slice_get (cores_at view i) c) (sym same)
    | inr differs ↦ ap (λ cores. slice_get cores c) (get_or-set_other view.cores tile at (slice_set (cores_at view tile) core holder) [] differs)
  ]

  -- there are as many
  pub counts_now : (count : ℕ) → All (λ held. length held ≡ count) view.cores
      → All (λ held. length held ≡ count) (with_core view tile core holder)
  counts_now count each =
      All-set (λ held. length held ≡ count) view.cores tile (slice_set (cores_at view tile) core holder)
      (length-set (cores_at view tile) core holder ∙ each tile [] tile_below) each

-- this core of this tile, or another one
pub this_or_other : (at tile c core : ℕ) → ((at ≡ tile) × (c ≡ core)) ⊎ ((at ≡ tile) → c ≢ core)
this_or_other at tile c core = elim (cases_eq c core) [
  | inl same ↦ elim (cases_eq at tile) [ inl here ↦ inl (here, same) | inr other ↦ inr (λ here. absurd (other here)) ]
  | inr other ↦ inr (λ here. other)
]
