-- A task of the index under another key.
use Rattle.std.proofs.Common.{◌≡◌, ◌≢◌, ◌∷◌, ℕ, List, Option, Some, None, refl, sym, ap, subst, ◌∙◌, inl, inr}
use Rattle.std.proofs.Common.{slice_index_or}
use Rattle.std.specs.Prelude.{Contains}
use Rattle.std.specs.List.Sorted.{IsPermutation}
use Rattle.std.proofs.lemmas.Bool.{cases_eq}
use Rattle.std.proofs.lemmas.List.Sorted.{Contains-permutation, IsPermutation-sym}
use Rattle.commit_arbiter.specs.declared.candidate.Candidate.{Candidate}
use Rattle.commit_arbiter.specs.Indexed.{candidate_cmp, without_candidate}
use Rattle.fractal_vt.specs.Sorted.{after_insert}
use Rattle.fractal_vt.proofs.Proved.{after_insert-permutes}
use Rattle.spec_state.specs.declared.task.Task.{Task}
use Rattle.spec_state.specs.Stored.{IsIndexed, candidate_of}
use Rattle.spec_state.proofs.Proved.{from_without, has_head, head_or_tail, in_tail, in_without}

module _ (tasks now : List (Option Task)) (lists : List (List ℕ)) (arrivals : List ℕ) (next id : ℕ) (listed : List Candidate) (task : Task)
    (is : IsIndexed tasks lists arrivals next listed) (here : slice_index_or now id None ≡ Some task)
    (others : (k : ℕ) → k ≢ id → slice_index_or now k None ≡ slice_index_or tasks k None) where
  abbrev own : Candidate
  own = candidate_of arrivals id task

  abbrev left : List Candidate
  left = after_insert candidate_cmp own (without_candidate id listed)

  permutes : IsPermutation (own ∷ without_candidate id listed) left
  permutes = after_insert-permutes candidate_cmp own (without_candidate id listed)

  all_in : (k : ℕ) (t : Task) → slice_index_or now k None ≡ Some t → Contains left (candidate_of arrivals k t)
  all_in k t found = elim (cases_eq k id) [
    | inl same ↦
        let both : Some t ≡ Some task = sym found ∙ ap (λ j. slice_index_or now j None) same ∙ here in
        let it : t ≡ task = cc in
        let e : candidate_of arrivals k t
        ≡ own = ap (λ j. candidate_of arrivals j t) same ∙ ap (candidate_of arrivals id) it in
        subst (Contains left) (sym e) (Contains-permutation (own ∷ without_candidate id listed) left own permutes (has_head own (without_candidate id listed)))
    | inr other ↦
        Contains-permutation (own ∷ without_candidate id listed) left (candidate_of arrivals k t) permutes
        (in_tail own (without_candidate id listed) (candidate_of arrivals k t)
        (in_without id listed (candidate_of arrivals k t) other (is.all k t (sym (others k other) ∙ found))))
  ]

  abbrev Has : Candidate → Type 0
  Has e = (t : Task) × (slice_index_or now e.id None ≡ Some t) × (e ≡ candidate_of arrivals e.id t)

  each_is : (e : Candidate) → Contains left e → Has e
  each_is e has =
      elim (head_or_tail own (without_candidate id listed) e (Contains-permutation left (own ∷ without_candidate id listed) e (IsPermutation-sym (own ∷ without_candidate id listed) left permutes) has)) [
        | inl head ↦ subst Has head (task, here, refl)
        | inr tail ↦
            let more = from_without id listed e tail in
            let was = is.each e more.0 in
            (was.0, others e.id more.1 ∙ was.1, was.2)
      ]

  pub rekeyed : IsIndexed now lists arrivals next left
  rekeyed = record { all = all_in; each = each_is; early = is.early; rising = is.rising }
