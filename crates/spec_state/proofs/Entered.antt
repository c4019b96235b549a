-- A task that enters the index with a number of its arrival above all others.
use Rattle.std.proofs.Common.{◌≡◌, ◌≢◌, ◌⊎◌, ◌<◌, ◌+◌, ◌∷◌, ◌++◌, ℕ, zero, suc, List, [], length, Option, Some, None}
use Rattle.std.proofs.Common.{refl, sym, ap, subst, ◌∙◌, inl, inr, arith, slice_get, slice_index_or}
use Rattle.std.specs.Prelude.{Contains, slice_set}
use Rattle.std.specs.List.Sorted.{IsPermutation}
use Rattle.std.proofs.lemmas.Bool.{cases_eq}
use Rattle.std.proofs.lemmas.List.{get_or-set_same, get_or-set_other, length_push}
use Rattle.std.proofs.lemmas.List.Elements.{Contains-push_cases}
use Rattle.std.proofs.lemmas.List.Sorted.{Contains-permutation, IsPermutation-sym}
use Rattle.std.proofs.lemmas.Option.{slice_get_within, get_or_from_slice_get}
use Rattle.commit_arbiter.specs.declared.candidate.Candidate.{Candidate}
use Rattle.commit_arbiter.specs.Indexed.{candidate_cmp, HasId}
use Rattle.fractal_vt.specs.Sorted.{after_insert}
use Rattle.fractal_vt.proofs.Proved.{after_insert-permutes}
use Rattle.spec_state.specs.declared.task.Task.{Task}
use Rattle.spec_state.specs.Stored.{IsIndexed, candidate_of}
use Rattle.task_law.proofs.Proved.{get_cases}

-- what a list holds is its head, or stands behind it
pub head_or_tail : {X : Type 0} (x : X) (xs : List X) (y : X) → Contains (x ∷ xs) y → (x ≡ y) ⊎ Contains xs y
head_or_tail x xs y (zero, below, at) = inl at
head_or_tail x xs y (suc k, below, at) = inr (k, omega (arith, below), at)

pub has_head : {X : Type 0} (x : X) (xs : List X) → Contains (x ∷ xs) x
has_head x xs = (0, omega arith, refl)

pub in_tail : {X : Type 0} (x : X) (xs : List X) (y : X) → Contains xs y → Contains (x ∷ xs) y
in_tail x xs y has = (suc has.0, omega (arith, has.1), has.2)

-- a list holds what stands at a place of it
pub held_at : (ids : List ℕ) (p id : ℕ) → slice_get ids p ≡ Some id → Contains ids id
held_at ids p id at = (p, slice_get_within ids p id at, get_or_from_slice_get ids p id id at)

-- the index holds no candidate of an id that is no task's
pub no_candidate : (tasks : List (Option Task)) (queues : List (List ℕ)) (arrivals : List ℕ) (next id : ℕ) (listed : List Candidate)
    → IsIndexed tasks queues arrivals next listed
    → slice_index_or tasks id None ≡ None → HasId id listed → ⊥
no_candidate tasks queues arrivals next id listed is vacant (k, e, below, at, same) =
    let was = is.each e (k, below, at) in
    absurd (cc (was.1, ap (λ j. slice_index_or tasks j None) same, vacant))

module _ (tasks after : List (Option Task)) (queues : List (List ℕ)) (arrivals : List ℕ) (next : ℕ) (listed : List Candidate) (id : ℕ) (task : Task)
    (is : IsIndexed tasks queues arrivals next listed) (vacant : slice_index_or tasks id None ≡ None) (changed : slice_index_or after id None ≡ Some task)
    (others : (k : ℕ) → k ≢ id → slice_index_or after k None ≡ slice_index_or tasks k None) (below : id < length arrivals) (in_tiles : task.tile < length queues)
    (unqueued : (tile k : ℕ) → Contains (slice_index_or queues tile []) k → k ≢ id) where
  abbrev own : Candidate
  own = record { key = task.key; tile = task.tile; arrival = next; id = id }

  abbrev numbers : List ℕ
  numbers = slice_set arrivals id next

  abbrev own_queue : List ℕ
  own_queue = slice_index_or queues task.tile []

  abbrev lists : List (List ℕ)
  lists = slice_set queues task.tile (own_queue ++ id ∷ [])

  permutes : IsPermutation (own ∷ listed) (after_insert candidate_cmp own listed)
  permutes = after_insert-permutes candidate_cmp own listed

  own_number : slice_index_or numbers id 0 ≡ next
  own_number = get_or-set_same arrivals id next 0 below

  other_number : (k : ℕ) → k ≢ id → slice_index_or numbers k 0 ≡ slice_index_or arrivals k 0
  other_number k other = get_or-set_other arrivals id k next 0 other

  own_candidate : candidate_of numbers id task ≡ own
  own_candidate = λ i. record { key = task.key; tile = task.tile; arrival = own_number i; id = id }

  other_candidate : (k : ℕ) (t : Task) → k ≢ id → candidate_of numbers k t ≡ candidate_of arrivals k t
  other_candidate k t other = λ i. record { key = t.key; tile = t.tile; arrival = other_number k other i; id = k }

  all_in : (k : ℕ) (t : Task) → slice_index_or after k None ≡ Some t
      → Contains (after_insert candidate_cmp own listed) (candidate_of numbers k t)
  all_in k t at = elim (cases_eq k id) [
    | inl same ↦
        let both : Some t ≡ Some task = sym at ∙ ap (λ j. slice_index_or after j None) same ∙ changed in
        let it : t ≡ task = cc in
        let e : candidate_of numbers k t ≡ own = ap (λ j. candidate_of numbers j t) same ∙ ap (candidate_of numbers id) it ∙ own_candidate in
        subst (Contains (after_insert candidate_cmp own listed)) (sym e) (Contains-permutation (own ∷ listed) (after_insert candidate_cmp own listed) own permutes (has_head own listed))
    | inr other ↦
        let was = is.all k t (sym (others k other) ∙ at) in
        subst (Contains (after_insert candidate_cmp own listed)) (sym (other_candidate k t other))
        (Contains-permutation (own ∷ listed) (after_insert candidate_cmp own listed) (candidate_of arrivals k t) permutes (in_tail own listed (candidate_of arrivals k t) was))
  ]

  abbrev Has : Candidate → Type 0
  Has e = (t : Task) × (slice_index_or after e.id None ≡ Some t) × (e ≡ candidate_of numbers e.id t)

  each_is : (e : Candidate) → Contains (after_insert candidate_cmp own listed) e → Has e
  each_is e has =
      elim (head_or_tail own listed e (Contains-permutation (after_insert candidate_cmp own listed) (own ∷ listed) e (IsPermutation-sym (own ∷ listed) (after_insert candidate_cmp own listed) permutes) has)) [
        | inl head ↦ subst Has head (task, changed, sym own_candidate)
        | inr tail ↦
            let was = is.each e tail in
            let other : e.id ≢ id = λ same. absurd (cc (was.1, ap (λ j. slice_index_or tasks j None) same, vacant)) in
            (was.0, others e.id other ∙ was.1, was.2 ∙ sym (other_candidate e.id was.0 other))
      ]

  own_list : slice_index_or lists task.tile [] ≡ own_queue ++ id ∷ []
  own_list = get_or-set_same queues task.tile (own_queue ++ id ∷ []) [] in_tiles

  other_list : (tile : ℕ) → tile ≢ task.tile → slice_index_or lists tile [] ≡ slice_index_or queues tile []
  other_list tile other = get_or-set_other queues task.tile tile (own_queue ++ id ∷ []) [] other

  -- who was queued has an earlier number
  was_early : (tile k : ℕ) → Contains (slice_index_or queues tile []) k → slice_index_or numbers k 0 < next
  was_early tile k has = subst (λ n. n < next) (sym (other_number k (unqueued tile k has))) (is.early tile k has)

  early_own : (k : ℕ) → Contains (own_queue ++ id ∷ []) k → slice_index_or numbers k 0 < next + 1
  early_own k has = elim (Contains-push_cases own_queue id k has) [
    | inl was ↦ (let less = was_early task.tile k was in omega (arith, less))
    | inr last ↦ subst (λ j. slice_index_or numbers j 0 < next + 1) last (subst (λ n. n < next + 1) (sym own_number) (omega arith))
  ]

  early_all : (tile k : ℕ) → Contains (slice_index_or lists tile []) k → slice_index_or numbers k 0 < next + 1
  early_all tile k has = elim (cases_eq tile task.tile) [
    | inl same ↦ early_own k (subst (λ ids. Contains ids k) own_list (subst (λ n. Contains (slice_index_or lists n []) k) same has))
    | inr other ↦ (let less = was_early tile k (subst (λ ids. Contains ids k) (other_list tile other) has) in omega (arith, less))
  ]

  was_rising : (tile p q a b : ℕ) → p < q → slice_get (slice_index_or queues tile []) p ≡ Some a
      → slice_get (slice_index_or queues tile []) q ≡ Some b
      → slice_index_or numbers a 0 < slice_index_or numbers b 0
  was_rising tile p q a b less at bt =
      let ea = other_number a (unqueued tile a (held_at (slice_index_or queues tile []) p a at)) in
      let eb = other_number b (unqueued tile b (held_at (slice_index_or queues tile []) q b bt)) in
      let was = is.rising tile p q a b less at bt in
      omega (arith, ea, eb, was)

  rising_own : (p q a b : ℕ) → p < q → slice_get (own_queue ++ id ∷ []) p ≡ Some a
      → slice_get (own_queue ++ id ∷ []) q ≡ Some b → slice_index_or numbers a 0 < slice_index_or numbers b 0
  rising_own p q a b less at bt = elim (get_cases own_queue id p a at) [
    | inl first ↦ elim (get_cases own_queue id q b bt) [
      | inl second ↦ was_rising task.tile p q a b less first second
      | inr last ↦
          let early = was_early task.tile a (held_at own_queue p a first) in
          subst (λ j. slice_index_or numbers a 0 < slice_index_or numbers j 0) last.1 (subst (λ n. slice_index_or numbers a 0 < n) (sym own_number) early)
    ]
    | inr first ↦
        let past = slice_get_within (own_queue ++ id ∷ []) q b bt in
        let long = length_push own_queue id in
        absurd (omega (arith, past, long, first.0, less))
  ]

  rising_all : (tile p q a b : ℕ) → p < q → slice_get (slice_index_or lists tile []) p ≡ Some a
      → slice_get (slice_index_or lists tile []) q ≡ Some b
      → slice_index_or numbers a 0 < slice_index_or numbers b 0
  rising_all tile p q a b less at bt = elim (cases_eq tile task.tile) [
    | inl same ↦
        let list : slice_index_or lists tile [] ≡ own_queue ++ id ∷ [] = ap (λ n. slice_index_or lists n []) same ∙ own_list in
        rising_own p q a b less (ap (λ ids. slice_get ids p) (sym list) ∙ at) (ap (λ ids. slice_get ids q) (sym list) ∙ bt)
    | inr other ↦
        let list = other_list tile other in
        was_rising tile p q a b less (ap (λ ids. slice_get ids p) (sym list) ∙ at) (ap (λ ids. slice_get ids q) (sym list) ∙ bt)
  ]

  pub entered : IsIndexed after lists numbers (next + 1) (after_insert candidate_cmp own listed)
  entered = record { all = all_in; each = each_is; early = early_all; rising = rising_all }
