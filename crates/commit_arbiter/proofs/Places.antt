-- The order of candidates, what is left without those of an id, and where the one with an id is.
use Rattle.std.proofs.Common.{◌≡◌, ◌≢◌, ℕ, suc, ◌<◌, ◌≤◌, Bool, true, false, not, cond, ◌==◌, List, [], ◌∷◌, length}
use Rattle.std.proofs.Common.{get_or, Some, refl, sym, ap, subst, ◌∙◌, arith, slice_get}
use Rattle.std.specs.List.{All, filter}
use Rattle.std.specs.Cmp.{IsTotalOrder}
use Rattle.std.proofs.lemmas.Cmp.{on_total, then_total, nat_cmp_total}
use Rattle.std.proofs.lemmas.Bool.Decides.{nat_tests}
use Rattle.std.proofs.lemmas.Option.{slice_get_within, get_or_from_slice_get}
use Rattle.std.proofs.lemmas.List.Elements.{All-nil, All-cons}
use Rattle.std.proofs.lemmas.List.Sums.{length-filter, count_by-le-length}
use Rattle.std.proofs.lemmas.Bool.{false≢true}
use Rattle.fractal_vt.proofs.Proved.{key_cmp_total}
use Rattle.commit_arbiter.specs.declared.candidate.Candidate.{Candidate}
use Rattle.commit_arbiter.specs.Indexed.{candidate_cmp, HasId, without_candidate}
use Rattle.commit_arbiter.specs.Slots.{IsPlaceOfId}

pub candidate_cmp_total : IsTotalOrder candidate_cmp
candidate_cmp_total =
    then_total (on_total (λ e. e.key) key_cmp_total) (then_total (then_total (on_total (λ e. e.tile) nat_cmp_total) (on_total (λ e. e.arrival) nat_cmp_total)) (on_total (λ e. e.id) nat_cmp_total))

-- a list with no candidate of an id, as a fact of each candidate
pub no_id : (id : ℕ) (candidates : List Candidate) → (HasId id candidates → ⊥) → (candidate : Candidate)
    → candidate.id ≡ id → All (λ e. candidate.id ≢ e.id) candidates
no_id id candidates none candidate is k d inside same =
    none (k, get_or candidates k d, inside, get_same k inside d, sym same ∙ is)
  where
    get_same : (k : ℕ) → k < length candidates → (d : Candidate)
        → get_or candidates k (get_or candidates k d) ≡ get_or candidates k d
    get_same k inside d = Rattle.std.proofs.lemmas.List.get_or_default candidates k (get_or candidates k d) d inside

-- where no candidate has the id, all stay
pub without_none : (id : ℕ) (candidates : List Candidate) → All (λ e. e.id ≢ id) candidates
    → without_candidate id candidates ≡ candidates
without_none id [] none = refl
without_none id (e ∷ candidates) none =
    kept (e.id == id) (λ equal. none 0 e (omega arith) (grind (arith, nat_tests)))
    (without_none id candidates (λ k d inside. none (suc k) d (omega arith)))
  where
    kept : (b : Bool) → (b ≡ true → ⊥) → without_candidate id candidates ≡ candidates
        → cond (not b) (e ∷ without_candidate id candidates) (without_candidate id candidates) ≡ e ∷ candidates
    kept true never more = absurd (never refl)
    kept false never more = ap (λ es. e ∷ es) more

pub without_absent : (id : ℕ) (candidates : List Candidate) → (HasId id candidates → ⊥)
    → without_candidate id candidates ≡ candidates
without_absent id candidates none =
    without_none id candidates (λ k d inside mine. none (k, get_or candidates k d, inside, Rattle.std.proofs.lemmas.List.get_or_default candidates k (get_or candidates k d) d inside, mine))

pub has_place : (id place : ℕ) (candidates : List Candidate) → IsPlaceOfId id candidates place → HasId id candidates
has_place id place candidates is =
    (place, is.candidate, slice_get_within candidates place is.candidate is.there, get_or_from_slice_get candidates place is.candidate is.candidate is.there, is.id_is)

pub place_here : (id place : ℕ) (candidates : List Candidate) (e : Candidate) → slice_get candidates place ≡ Some e
    → e.id ≡ id → IsPlaceOfId id candidates place
place_here id place candidates e there is = record { candidate = e; there = there; id_is = is }

-- what a filter leaves passes its test
passes : (p : Candidate → Bool) (candidates : List Candidate) → All (λ e. p e ≡ true) (filter p candidates)
passes p [] = All-nil (λ e. p e ≡ true)
passes p (e ∷ candidates) = by_case (p e) refl (passes p candidates)
  where
    by_case : (b : Bool) → p e ≡ b → All (λ x. p x ≡ true) (filter p candidates)
        → All (λ x. p x ≡ true) (cond b (e ∷ filter p candidates) (filter p candidates))
    by_case true sure more = All-cons (λ x. p x ≡ true) e (filter p candidates) sure more
    by_case false sure more = more

-- no candidate has an id whose candidate was taken out
pub without_gone : (id : ℕ) (candidates : List Candidate) → HasId id (without_candidate id candidates) → ⊥
without_gone id candidates (k, e, inside, at, is) =
    let kept : not (e.id == id) ≡ true = subst (λ x. not (x.id == id) ≡ true) at (passes (λ x. not (x.id == id)) candidates k e inside) in
    false≢true (sym (ap not (same_ids e.id is)) ∙ kept)
  where
    same_ids : (n : ℕ) → n ≡ id → n == id ≡ true
    same_ids n same = grind (arith, nat_tests)

-- no more candidates are left than there were
pub length-without_candidate : (id : ℕ) (candidates : List Candidate)
    → length (without_candidate id candidates) ≤ length candidates
length-without_candidate id candidates =
    subst (λ n. n ≤ length candidates) (sym (length-filter (λ e. not (e.id == id)) candidates)) (count_by-le-length (λ e. not (e.id == id)) candidates)
