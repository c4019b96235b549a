-- All queues are renumbered, one after another.
use Rattle.std.proofs.Common.{◌≡◌, ◌<◌, ◌≤◌, ◌+◌, ℕ, List, [], length, Option, Some, sym, ap, subst, ◌∙◌, inl, inr}
use Rattle.std.proofs.Common.{arith, slice_index_or}
use Rattle.std.specs.Prelude.{Contains}
use Rattle.std.proofs.lemmas.Bool.{cases_eq}
use Rattle.commit_arbiter.specs.declared.candidate.Candidate.{Candidate}
use Rattle.spec_state.specs.declared.task.Task.{Task}
use Rattle.spec_state.specs.Stored.{IsIndexed, AreTheirs, AreBelow, KeepsOthers}
use Rattle.spec_state.proofs.Joined.{within_lists}

-- the tasks of the first tiles have numbers below this one
abbrev pub AllBelow : List (List ℕ) → List ℕ → ℕ → ℕ → Type 0
AllBelow lists numbers bound count =
    (s id : ℕ) → s < count → Contains (slice_index_or lists s []) id → slice_index_or numbers id 0 < bound

-- before the first tile there is none
pub none_yet : (lists : List (List ℕ)) (numbers : List ℕ) (bound : ℕ) → AllBelow lists numbers bound 0
none_yet lists numbers bound s id below has = absurd (omega (arith, below))

pub next_tile : (tasks : List (Option Task)) (lists : List (List ℕ)) (old new : List ℕ) (bound more t : ℕ)
    → AreTheirs tasks lists → AllBelow lists old bound t
    → AreBelow new (slice_index_or lists t []) (length (slice_index_or lists t []))
    → KeepsOthers (slice_index_or lists t []) old new → bound ≤ more → length (slice_index_or lists t []) ≤ more
    → AllBelow lists new more (t + 1)
next_tile tasks lists old new bound more t theirs was own others upto fits s id below has = elim (cases_eq s t) [
  | inl same ↦ (let less = own id (subst (λ n. Contains (slice_index_or lists n []) id) same has) in omega (arith, less, fits))
  | inr other ↦
      let apart : Contains (slice_index_or lists t []) id → ⊥ = λ too. other (one_tile too) in
      let same = others id apart in
      let less = was s id (omega (arith, below, other)) has in
      omega (arith, same, less, upto)
]
  where
    one_tile : Contains (slice_index_or lists t []) id → s ≡ t
    one_tile too =
        let here = theirs s id has in
        let there = theirs t id too in
        let both : Some here.0 ≡ Some there.0 = sym here.1 ∙ there.1 in
        let one : here.0 ≡ there.0 = cc in
        sym here.2 ∙ ap (λ (x : Task). x.tile) one ∙ there.2

-- where all are below a number, that is the next one
pub all_early : (tasks : List (Option Task)) (lists : List (List ℕ)) (numbers : List ℕ) (next bound count : ℕ) (listed : List Candidate)
    → IsIndexed tasks lists numbers next listed
    → AllBelow lists numbers bound count → length lists ≤ count → IsIndexed tasks lists numbers bound listed
all_early tasks lists numbers next bound count listed is below all = record {
  all = is.all;
  each = is.each;
  early =
      λ tile id has. (let within = within_lists lists tile id has in below tile id (omega (arith, within, all)) has);
  rising = is.rising;
}
