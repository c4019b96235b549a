-- A task of the index under another arrival number.
use Rattle.std.proofs.Common.{◌≡◌, ◌≢◌, ◌<◌, ◌≤◌, ◌∷◌, ℕ, zero, suc, Bool, true, false, cond, List, [], length, Option}
use Rattle.std.proofs.Common.{Some, None, refl, sym, ap, subst, ◌∙◌, inl, inr, arith, ◌==◌, slice_get, slice_index_or}
use Rattle.std.specs.Prelude.{Contains, slice_set, not}
use Rattle.std.specs.List.Sorted.{IsPermutation}
use Rattle.std.proofs.lemmas.Bool.{cases_eq, cases_lt}
use Rattle.std.proofs.lemmas.Bool.Decides.{nat_tests}
use Rattle.std.proofs.lemmas.List.{get_or-set_same, get_or-set_other}
use Rattle.std.proofs.lemmas.List.Sorted.{Contains-permutation, IsPermutation-sym}
use Rattle.commit_arbiter.specs.declared.candidate.Candidate.{Candidate}
use Rattle.commit_arbiter.specs.Indexed.{candidate_cmp, without_candidate, HasId}
use Rattle.commit_arbiter.proofs.Proved.{length-without_candidate}
use Rattle.fractal_vt.specs.Sorted.{after_insert}
use Rattle.fractal_vt.proofs.Proved.{after_insert-permutes, length-after_insert}
use Rattle.spec_state.specs.declared.task.Task.{Task}
use Rattle.spec_state.specs.Stored.{IsIndexed, AreTheirs, candidate_of}
use Rattle.spec_state.proofs.Entered.{head_or_tail, has_head, in_tail, held_at}

-- what is left of a list without an id
left_cons : (id : ℕ) (e : Candidate) (listed : List Candidate) (b : Bool) → (e.id == id) ≡ b
    → without_candidate id (e ∷ listed) ≡ cond (not b) (e ∷ without_candidate id listed) (without_candidate id listed)
left_cons id e listed b is =
    ap (λ t. cond (not t) (e ∷ without_candidate id listed) (without_candidate id listed)) is

-- is what was there with another id
pub in_without : (id : ℕ) (listed : List Candidate) (e : Candidate) → e.id ≢ id → Contains listed e
    → Contains (without_candidate id listed) e
in_without id [] e other has = absurd (omega (arith, has.1))
in_without id (x ∷ listed) e other has = by_case (x.id == id) refl (in_without id listed e other)
  where
    by_case : (b : Bool) → (x.id == id) ≡ b → (Contains listed e → Contains (without_candidate id listed) e)
        → Contains (without_candidate id (x ∷ listed)) e
    by_case true is more =
        subst (λ es. Contains es e) (sym (left_cons id x listed true is)) (elim (head_or_tail x listed e has) [
          | inl head ↦ absurd (other (ap (λ y. y.id) (sym head) ∙ grind (arith, nat_tests)))
          | inr tail ↦ more tail
        ])
    by_case false is more =
        subst (λ es. Contains es e) (sym (left_cons id x listed false is)) (elim (head_or_tail x listed e has) [
          | inl head ↦ subst (Contains (x ∷ without_candidate id listed)) head (has_head x (without_candidate id listed))
          | inr tail ↦ in_tail x (without_candidate id listed) e (more tail)
        ])

pub from_without : (id : ℕ) (listed : List Candidate) (e : Candidate) → Contains (without_candidate id listed) e
    → Contains listed e × (e.id ≢ id)
from_without id [] e has = absurd (omega (arith, has.1))
from_without id (x ∷ listed) e has = by_case (x.id == id) refl (from_without id listed e)
  where
    by_case : (b : Bool) → (x.id == id) ≡ b
        → (Contains (without_candidate id listed) e → Contains listed e × (e.id ≢ id))
        → Contains (x ∷ listed) e × (e.id ≢ id)
    by_case true is behind =
        let more = behind (subst (λ es. Contains es e) (left_cons id x listed true is) has) in
        (in_tail x listed e more.0, more.1)
    by_case false is behind =
        elim (head_or_tail x (without_candidate id listed) e (subst (λ es. Contains es e) (left_cons id x listed false is) has)) [
          | inl head ↦ (subst (Contains (x ∷ listed)) head (has_head x listed), λ same. (let mine : x.id ≡ id = ap (λ y. y.id) head ∙ same in absurd (grind (arith, nat_tests))))
          | inr tail ↦ (let more = behind tail in (in_tail x listed e more.0, more.1))
        ]

-- without an id that is there fewer are left
pub fewer : (id : ℕ) (listed : List Candidate) → HasId id listed
    → length (without_candidate id listed) < length listed
fewer id [] has = absurd (omega (arith, has.2))
fewer id (x ∷ listed) has = by_case (x.id == id) refl (fewer id listed)
  where
    behind : (x.id == id) ≡ false → HasId id (x ∷ listed) → HasId id listed
    behind is (zero, e, below, at, same) =
        (let mine : x.id ≡ id = ap (λ y. y.id) at ∙ same in absurd (grind (arith, nat_tests)))
    behind is (suc k, e, below, at, same) = (k, e, omega (arith, below), at, same)

    by_case : (b : Bool) → (x.id == id) ≡ b → (HasId id listed → length (without_candidate id listed) < length listed)
        → length (without_candidate id (x ∷ listed)) < suc (length listed)
    by_case true is more =
        let short = length-without_candidate id listed in
        let long = ap length (left_cons id x listed true is) in
        omega (arith, short, long)
    by_case false is more =
        let long = ap length (left_cons id x listed false is) in
        let less = more (behind is has) in
        omega (arith, long, less)

pub no_more : (id : ℕ) (listed new : List Candidate) (e : Candidate) → HasId id listed
    → new ≡ after_insert candidate_cmp e (without_candidate id listed) → length new ≤ length listed
no_more id listed new e has is =
    let long = ap length is ∙ length-after_insert candidate_cmp e (without_candidate id listed) in
    let less = fewer id listed has in
    omega (arith, long, less)

-- something stands before what isn't first in a list
before : (xs : List ℕ) (q b : ℕ) → slice_get xs (suc q) ≡ Some b → (a : ℕ) × (slice_get xs q ≡ Some a)
before [] q b at = absurd (cc)
before (x ∷ xs) zero b at = (x, refl)
before (x ∷ xs) (suc q) b at = before xs q b at

module _ (tasks : List (Option Task)) (lists : List (List ℕ)) (arrivals : List ℕ) (next : ℕ) (listed : List Candidate) (is : IsIndexed tasks lists arrivals next listed) where
  -- the number of a task is its place at least
  pub place_upto : (tile q b : ℕ) → slice_get (slice_index_or lists tile []) q ≡ Some b
      → q ≤ slice_index_or arrivals b 0
  place_upto tile zero b at = omega arith
  place_upto tile (suc q) b at =
      let a = before (slice_index_or lists tile []) q b at in
      let upto = place_upto tile q a.0 a.1 in
      let less = is.rising tile q (suc q) a.0 b (omega arith) a.1 at in
      omega (arith, upto, less)

  -- each task has a candidate
  pub has_candidate : (id : ℕ) (task : Task) → slice_index_or tasks id None ≡ Some task → HasId id listed
  has_candidate id task at = let found =
      is.all id task at in (found.0, candidate_of arrivals id task, found.1, found.2, refl)

  module _ (theirs : AreTheirs tasks lists) (tile place id : ℕ) (task : Task) (at : slice_get (slice_index_or lists tile []) place ≡ Some id)
      (there : slice_index_or tasks id None ≡ Some task) (below : id < length arrivals)
      (small : (p a : ℕ) → p < place → slice_get (slice_index_or lists tile []) p ≡ Some a → slice_index_or arrivals a 0 < place) where
    abbrev own : Candidate
    own = record { key = task.key; tile = task.tile; arrival = place; id = id }

    abbrev numbers : List ℕ
    numbers = slice_set arrivals id place

    abbrev left : List Candidate
    left = after_insert candidate_cmp own (without_candidate id listed)

    permutes : IsPermutation (own ∷ without_candidate id listed) left
    permutes = after_insert-permutes candidate_cmp own (without_candidate id listed)

    own_number : slice_index_or numbers id 0 ≡ place
    own_number = get_or-set_same arrivals id place 0 below

    other_number : (k : ℕ) → k ≢ id → slice_index_or numbers k 0 ≡ slice_index_or arrivals k 0
    other_number k other = get_or-set_other arrivals id k place 0 other

    own_candidate : candidate_of numbers id task ≡ own
    own_candidate = λ i. record { key = task.key; tile = task.tile; arrival = own_number i; id = id }

    other_candidate : (k : ℕ) (t : Task) → k ≢ id → candidate_of numbers k t ≡ candidate_of arrivals k t
    other_candidate k t other = λ i. record { key = t.key; tile = t.tile; arrival = other_number k other i; id = k }

    all_in : (k : ℕ) (t : Task) → slice_index_or tasks k None ≡ Some t → Contains left (candidate_of numbers k t)
    all_in k t found = elim (cases_eq k id) [
      | inl same ↦
          let both : Some t ≡ Some task = sym found ∙ ap (λ j. slice_index_or tasks j None) same ∙ there in
          let it : t ≡ task = cc in
          let e : candidate_of numbers k t ≡ own = ap (λ j. candidate_of numbers j t) same ∙ ap (candidate_of numbers id) it ∙ own_candidate in
          subst (Contains left) (sym e) (Contains-permutation (own ∷ without_candidate id listed) left own permutes (has_head own (without_candidate id listed)))
      | inr other ↦
          subst (Contains left) (sym (other_candidate k t other))
          (Contains-permutation (own ∷ without_candidate id listed) left (candidate_of arrivals k t) permutes
          (in_tail own (without_candidate id listed) (candidate_of arrivals k t) (in_without id listed (candidate_of arrivals k t) other (is.all k t found))))
    ]

    abbrev Has : Candidate → Type 0
    Has e = (t : Task) × (slice_index_or tasks e.id None ≡ Some t) × (e ≡ candidate_of numbers e.id t)

    each_is : (e : Candidate) → Contains left e → Has e
    each_is e has =
        elim (head_or_tail own (without_candidate id listed) e (Contains-permutation left (own ∷ without_candidate id listed) e (IsPermutation-sym (own ∷ without_candidate id listed) left permutes) has)) [
          | inl head ↦ subst Has head (task, there, sym own_candidate)
          | inr tail ↦
              let more = from_without id listed e tail in
              let was = is.each e more.0 in
              (was.0, was.1, was.2 ∙ sym (other_candidate e.id was.0 more.1))
        ]

    upto : place ≤ slice_index_or arrivals id 0
    upto = place_upto tile place id at

    -- no number rises
    falls : (k : ℕ) → slice_index_or numbers k 0 ≤ slice_index_or arrivals k 0
    falls k = elim (cases_eq k id) [
      | inl same ↦ subst (λ j. slice_index_or numbers j 0 ≤ slice_index_or arrivals j 0) (sym same) (subst (λ n. n ≤ slice_index_or arrivals id 0) (sym own_number) upto)
      | inr other ↦ (let e = other_number k other in omega (arith, e))
    ]

    early_all : (t k : ℕ) → Contains (slice_index_or lists t []) k → slice_index_or numbers k 0 < next
    early_all t k has = let less = is.early t k has in let fall = falls k in omega (arith, less, fall)

    rising_all : (t p q a b : ℕ) → p < q → slice_get (slice_index_or lists t []) p ≡ Some a
        → slice_get (slice_index_or lists t []) q ≡ Some b
        → slice_index_or numbers a 0 < slice_index_or numbers b 0
    rising_all t p q a b less ata atb =
        let was = is.rising t p q a b less ata atb in
        let fall = falls a in
        elim (cases_eq b id) [
          | inr other ↦ (let e = other_number b other in omega (arith, was, fall, e))
          | inl same ↦
              let own_list : t ≡ tile =
              sym (theirs t id (held_at (slice_index_or lists t []) q id (atb ∙ ap Some same))).2
              ∙ ap (λ (x : Task). x.tile) (one_task (theirs t id (held_at (slice_index_or lists t []) q id (atb ∙ ap Some same))).0 (theirs tile id (held_at (slice_index_or lists tile []) place id at)).0
              (theirs t id (held_at (slice_index_or lists t []) q id (atb ∙ ap Some same))).1 (theirs tile id (held_at (slice_index_or lists tile []) place id at)).1)
              ∙ (theirs tile id (held_at (slice_index_or lists tile []) place id at)).2 in
              let here : slice_get (slice_index_or lists tile []) p ≡ Some a = subst (λ n. slice_get (slice_index_or lists n []) p ≡ Some a) own_list ata in
              let there_q : slice_get (slice_index_or lists tile []) q ≡ Some id = subst (λ n. slice_get (slice_index_or lists n []) q ≡ Some id) own_list (atb ∙ ap Some same) in
              let at_place : q ≡ place = one_place q there_q in
              let early = small p a (omega (arith, less, at_place)) here in
              let fall_a = falls a in
              let mine : slice_index_or numbers b 0 ≡ place = ap (λ j. slice_index_or numbers j 0) same ∙ own_number in
              omega (arith, early, fall_a, mine)
        ]
      where
        one_task : (x y : Task) → slice_index_or tasks id None ≡ Some x → slice_index_or tasks id None ≡ Some y → x ≡ y
        one_task x y ax ay = let both : Some x ≡ Some y = sym ax ∙ ay in cc

        one_place : (q : ℕ) → slice_get (slice_index_or lists tile []) q ≡ Some id → q ≡ place
        one_place q atq = elim (cases_lt q place) [
          | inl lt ↦ (let more = is.rising tile q place id id lt atq at in absurd (omega (arith, more)))
          | inr ge ↦ elim (cases_lt place q) [
            | inl lt ↦ (let more = is.rising tile place q id id lt at atq in absurd (omega (arith, more)))
            | inr le ↦ omega (arith, ge, le)
          ]
        ]

    pub moved : IsIndexed tasks lists numbers next left
    moved = record { all = all_in; each = each_is; early = early_all; rising = rising_all }
