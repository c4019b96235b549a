-- Lists of ids, and cores, without one id.
use Rattle.std.proofs.Common.{◌≡◌, ◌≢◌, ◌⊎◌, ◌<◌, ◌+◌, ◌∷◌, ◌==◌, ℕ, zero, suc, Bool, true, false, cond, not, List, []}
use Rattle.std.proofs.Common.{length, map, Option, Some, None, refl, sym, ap, subst, ◌∙◌, inl, inr, arith, slice_get}
use Rattle.std.proofs.Common.{slice_index_or}
use Rattle.std.specs.Prelude.{Contains, slice_set}
use Rattle.std.proofs.lemmas.Bool.{cases_eq, false≢true, ne_eqb}
use Rattle.std.proofs.lemmas.Bool.Decides.{nat_tests}
use Rattle.std.proofs.lemmas.List.{length-map, map-set, get_or-map}
use Rattle.std.proofs.lemmas.List.Edits.{length-remove}
use Rattle.std.proofs.lemmas.List.Elements.{All-filter, All-contains, All-contains_itself, filter_passes}
use Rattle.std.proofs.lemmas.Option.{slice_get_within, get_or_from_slice_get}
use Rattle.tile_queues.specs.Queue.{AreDistinct, ids_but}
use Rattle.tile_queues.proofs.Proved.{remove-distinct}
use Rattle.spec_state.specs.declared.task.Status.{Status}
use Rattle.spec_state.specs.declared.task.Status.TheVariants.{Idle, Running, Trapped, Finished}
use Rattle.spec_state.specs.declared.task.TaskId.{TaskId}
use Rattle.spec_state.specs.Leaving.{freed_of, IsHeldAs}
use Rattle.spec_state.specs.Stored.{HasCore}
use Rattle.spec_state.specs.View.{core_ids}
use Rattle.spec_state.proofs.Entered.{head_or_tail, has_head, in_tail}

-- a number passes the test for itself
pub same_test : (n : ℕ) → (n == n) ≡ true
same_test n = grind (arith, nat_tests)

-- any other number fails it
pub other_test : (k n : ℕ) → k ≢ n → (k == n) ≡ false
other_test k n other = grind (arith, nat_tests)

-- distinct ids are one fewer without one of them
pub one_fewer : (id : ℕ) (ids : List ℕ) → AreDistinct ids → Contains ids id → length (ids_but id ids) + 1 ≡ length ids
one_fewer id ids distinct (k, below, at) =
    let short = length-remove ids k below in
    let same = ap length (remove-distinct id k ids distinct below at) in
    omega (arith, short, same)

-- what is left are the others
pub from_ids : (id k : ℕ) (ids : List ℕ) → Contains (ids_but id ids) k → Contains ids k × (k ≢ id)
from_ids id k ids has = (
  All-contains (Contains ids) (ids_but id ids) k (All-filter (λ other. not (other == id)) (Contains ids) ids (All-contains_itself ids)) has,
  λ same. false≢true (sym (ap not (ap (λ n. n == id) same ∙ same_test id))
      ∙ All-contains (λ other. not (other == id) ≡ true) (ids_but id ids) k (filter_passes (λ other. not (other == id)) ids) has),
)

pub in_ids : (id k : ℕ) (ids : List ℕ) → k ≢ id → Contains ids k → Contains (ids_but id ids) k
in_ids id k [] other has = absurd (omega (arith, has.1))
in_ids id k (x ∷ ids) other has = by_case (x == id) refl (in_ids id k ids other)
  where
    shape : (b : Bool) → (x == id) ≡ b → ids_but id (x ∷ ids) ≡ cond (not b) (x ∷ ids_but id ids) (ids_but id ids)
    shape b is = ap (λ t. cond (not t) (x ∷ ids_but id ids) (ids_but id ids)) is

    by_case : (b : Bool) → (x == id) ≡ b → (Contains ids k → Contains (ids_but id ids) k)
        → Contains (ids_but id (x ∷ ids)) k
    by_case true is more = subst (λ es. Contains es k) (sym (shape true is)) (elim (head_or_tail x ids k has) [
      | inl head ↦ absurd (other (sym head ∙ grind (arith, nat_tests)))
      | inr tail ↦ more tail
    ])
    by_case false is more = subst (λ es. Contains es k) (sym (shape false is)) (elim (head_or_tail x ids k has) [
      | inl head ↦ subst (Contains (x ∷ ids_but id ids)) head (has_head x (ids_but id ids))
      | inr tail ↦ in_tail x (ids_but id ids) k (more tail)
    ])

-- a core that holds another task stays, and one that holds this task is free
pub freed_other : (id : ℕ) (held : Option ℕ) → (held ≡ Some id → ⊥) → freed_of id held ≡ held
freed_other id None other = refl
freed_other id (Some k) other = ap (λ test. cond test None (Some k)) (ne_eqb k id (λ same. other (ap Some same)))

pub freed_own : (id : ℕ) (held : Option ℕ) → held ≡ Some id → freed_of id held ≡ None
freed_own id None own = refl
freed_own id (Some k) own =
    let same : k ≡ id = cc in ap (λ test. cond test None (Some k)) (ap (λ n. n == id) same ∙ same_test id)

pub was_held : (id k : ℕ) (held : Option ℕ) → freed_of id held ≡ Some k → (held ≡ Some k) × (k ≢ id)
was_held id k None is = absurd (cc)
was_held id k (Some n) is = elim (cases_eq n id) [
  | inl same ↦ absurd (cc (freed_own id (Some n) (ap Some same), is))
  | inr other ↦
      let stays : freed_of id (Some n) ≡ Some n = freed_other id (Some n) (λ e. (let same : n ≡ id = cc in other same)) in
      let both : Some n ≡ Some k = sym stays ∙ is in
      let it : n ≡ k = cc in
      (both, λ same. other (it ∙ same))
]

pub freed_back : (id k core : ℕ) (cores : List (Option ℕ)) → slice_get (map (freed_of id) cores) core ≡ Some (Some k)
    → (slice_get cores core ≡ Some (Some k)) × (k ≢ id)
freed_back id k core [] at = absurd (cc)
freed_back id k zero (held ∷ cores) at =
    let is : freed_of id held ≡ Some k = cc in
    let was = was_held id k held is in
    (ap Some was.0, was.1)
freed_back id k (suc core) (held ∷ cores) at = freed_back id k core cores at

pub freed_forth : (id k core : ℕ) (cores : List (Option ℕ)) → k ≢ id → slice_get cores core ≡ Some (Some k)
    → slice_get (map (freed_of id) cores) core ≡ Some (Some k)
freed_forth id k core [] other at = absurd (cc)
freed_forth id k zero (held ∷ cores) other at =
    let is : held ≡ Some k = cc in
    ap Some (freed_other id held (λ own. (let both : Some k ≡ Some id = sym is ∙ own in let same : k ≡ id = cc in other same)) ∙ is)
freed_forth id k (suc core) (held ∷ cores) other at = freed_forth id k core cores other at

pub held_place : (id : ℕ) (cores : List (Option ℕ)) (core : ℕ) → slice_index_or cores core None ≡ Some id
    → slice_get cores core ≡ Some (Some id)
held_place id [] core at = absurd (cc)
held_place id (held ∷ cores) zero at = ap Some at
held_place id (held ∷ cores) (suc core) at = held_place id cores core at

-- a change that leaves each item as it is leaves the list
pub all_same : {X : Type 0} (f : X → X) (xs : List X) (d : X)
    → ((j : ℕ) → f (slice_index_or xs j d) ≡ slice_index_or xs j d) → xs ≡ map f xs
all_same f [] d same = refl
all_same f (x ∷ xs) d same = λ i. sym (same 0) i ∷ all_same f xs d (λ j. same (suc j)) i

-- a change that leaves all items but one as they are changes that one
pub one_changed : {X : Type 0} (f : X → X) (xs : List X) (k : ℕ) (d after : X) → k < length xs
    → after ≡ f (slice_index_or xs k d)
    → ((j : ℕ) → j ≢ k → f (slice_index_or xs j d) ≡ slice_index_or xs j d) → slice_set xs k after ≡ map f xs
one_changed f [] k d after within is same = absurd (omega (arith, within))
one_changed f (x ∷ xs) zero d after within is same =
    λ i. is i ∷ all_same f xs d (λ j. same (suc j) (λ zero_too. absurd (omega (arith, zero_too)))) i
one_changed f (x ∷ xs) (suc k) d after within is same =
    λ i. sym (same 0 (λ e. absurd (omega (arith, e)))) i
    ∷ one_changed f xs k d after (omega (arith, within)) is (λ j other. same (suc j) (λ e. other (omega (arith, e)))) i

-- the same where it is of what is seen of each item
pub one_seen : {X Y : Type 0} (see : X → Y) (f : Y → Y) (xs : List X) (k : ℕ) (x after : X) (d : Y) → k < length xs
    → x ≡ slice_index_or xs k x → see after ≡ f (see x)
    → ((j : ℕ) → j ≢ k → f (slice_index_or (map see xs) j d) ≡ slice_index_or (map see xs) j d)
    → map see (slice_set xs k after) ≡ map f (map see xs)
one_seen see f xs k x after d within is changed same =
    map-set see xs k after
    ∙ one_changed f (map see xs) k d (see after) (omega (arith, length-map xs see, within)) (changed ∙ ap (λ y. f (see y)) is ∙ ap f (sym (get_or-map see xs k x d within))) same

-- what is seen of an item
pub seen_at : {X Y : Type 0} (see : X → Y) (xs : List X) (k : ℕ) (x : X) (e : Y) → k < length xs
    → x ≡ slice_index_or xs k x → slice_index_or (map see xs) k e ≡ see x
seen_at see xs k x e within is = get_or-map see xs k x e within ∙ ap see (sym is)

-- what a map has at a place
pub map_at : {X Y : Type 0} (f : X → Y) (xs : List X) (k : ℕ) (d : X)
    → slice_index_or (map f xs) k (f d) ≡ f (slice_index_or xs k d)
map_at f [] k d = refl
map_at f (x ∷ xs) zero d = refl
map_at f (x ∷ xs) (suc k) d = map_at f xs k d

-- a task keeps one core at most
only_core : (status : Status) (core k : ℕ) → HasCore status core → HasCore status k → k ≡ core
only_core Idle core k own other = absurd own
only_core (Running held) core k own other = sym other ∙ own
only_core (Trapped held cause) core k own other = sym other ∙ own
only_core Finished core k own other = absurd own

pub keeps_core : (status : Status) (core : ℕ) → (status ≡ Running core) ⊎ ((cause : ℕ) × (status ≡ Trapped core cause))
    → HasCore status core
keeps_core status core (inl runs) = subst (λ s. HasCore s core) (sym runs) refl
keeps_core status core (inr trapped) = subst (λ s. HasCore s core) (sym trapped.1) refl

pub keeps_none : (status : Status) → (status ≡ Idle) ⊎ (status ≡ Finished) → (core : ℕ) → HasCore status core → ⊥
keeps_none status (inl idle) core has = subst (λ s. HasCore s core) idle has
keeps_none status (inr finished) core has = subst (λ s. HasCore s core) finished has

module _ (id : ℕ) (status : Status) (cores : List (Option TaskId)) (held : IsHeldAs id status (core_ids cores)) where
  stays_held : (j : ℕ) → (HasCore status j → ⊥)
      → freed_of id (slice_index_or (core_ids cores) j None) ≡ slice_index_or (core_ids cores) j None
  stays_held j none =
      freed_other id (slice_index_or (core_ids cores) j None) (λ own. none ((held j).0 (held_place id (core_ids cores) j own)))

  pub core_within : (core : ℕ) → HasCore status core → core < length cores
  core_within core has =
      let within = slice_get_within (core_ids cores) core (Some id) ((held core).1 has) in
      omega (arith, within, length-map cores (Rattle.std.specs.Prelude.option_map (λ (t : TaskId). t.0)))

  -- the core that it keeps is free then
  pub core_freed : (core : ℕ) → HasCore status core
      → core_ids (slice_set cores core None) ≡ map (freed_of id) (core_ids cores)
  core_freed core has =
      map-set (Rattle.std.specs.Prelude.option_map (λ (t : TaskId). t.0)) cores core None
      ∙ one_changed (freed_of id) (core_ids cores) core None None (slice_get_within (core_ids cores) core (Some id) ((held core).1 has))
      (sym (freed_own id (slice_index_or (core_ids cores) core None) (get_or_from_slice_get (core_ids cores) core (Some id) None ((held core).1 has))))
      (λ j other. stays_held j (λ too. other (only_core status core j has too)))

  -- where it keeps none, nothing changes
  pub none_freed : ((core : ℕ) → HasCore status core → ⊥) → core_ids cores ≡ map (freed_of id) (core_ids cores)
  none_freed none = all_same (freed_of id) (core_ids cores) None (λ j. stays_held j (none j))
