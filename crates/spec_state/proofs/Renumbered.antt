-- The tasks of one queue get their places as arrival numbers, one after another.
use Rattle.std.proofs.Common.{◌≡◌, ◌<◌, ◌≤◌, ◌+◌, ℕ, List, [], length, Option, Some, None, refl, sym, ap, subst, ◌∙◌}
use Rattle.std.proofs.Common.{inl, inr, arith, length-set, slice_get, slice_index_or}
use Rattle.std.specs.Prelude.{Contains, slice_set}
use Rattle.std.proofs.lemmas.Bool.{cases_eq}
use Rattle.std.proofs.lemmas.List.{get_or-set_same, get_or-set_other, get_or_past}
use Rattle.std.proofs.lemmas.Option.{slice_get-get_or}
use Rattle.commit_arbiter.specs.declared.candidate.Candidate.{Candidate}
use Rattle.commit_arbiter.specs.Indexed.{candidate_cmp, without_candidate}
use Rattle.fractal_vt.specs.Sorted.{after_insert}
use Rattle.spec_state.specs.declared.task.Task.{Task}
use Rattle.spec_state.specs.Stored.{IsIndexed, AreTheirs, AreBelow, KeepsOthers}
use Rattle.spec_state.proofs.Entered.{held_at}
use Rattle.tile_queues.specs.Queue.{QueueValue}
use Rattle.std.proofs.Common.{map}
use Rattle.std.proofs.lemmas.List.Elements.{Contains-get_or}
use Rattle.spec_state.proofs.Joined.{ids_at}
use Rattle.spec_state.proofs.Moved.{moved}

-- those at the places before this one have numbers below it, and the numbers of all others stay
pub record IsRenumbered (tasks : List (Option Task)) (lists : List (List ℕ)) (next : ℕ) (ids first numbers : List ℕ) (listed : List Candidate) (place : ℕ) : Type 0 where
  pub indexed : IsIndexed tasks lists numbers next listed
  pub early : (p a : ℕ) → p < place → slice_get ids p ≡ Some a → slice_index_or numbers a 0 < place
  pub others : KeepsOthers ids first numbers
  pub slots : length numbers ≡ length first

pub begun : (tasks : List (Option Task)) (lists : List (List ℕ)) (next : ℕ) (ids numbers : List ℕ) (listed : List Candidate)
    → IsIndexed tasks lists numbers next listed
    → IsRenumbered tasks lists next ids numbers numbers listed 0
begun tasks lists next ids numbers listed is =
    record { indexed = is; early = λ p a less at. absurd (omega (arith, less)); others = λ id not. refl; slots = refl }

-- a task that is there has a slot
pub below_slots : (tasks : List (Option Task)) (id : ℕ) (task : Task) → slice_index_or tasks id None ≡ Some task
    → id < length tasks
below_slots tasks id task at = elim (Rattle.std.proofs.lemmas.Bool.cases_lt id (length tasks)) [
  | inl within ↦ within
  | inr past ↦ absurd (cc (get_or_past tasks id None past, at))
]

module _ (tasks : List (Option Task)) (lists : List (List ℕ)) (next tile : ℕ) (first numbers : List ℕ) (listed : List Candidate) (place id : ℕ) (task : Task)
    (theirs : AreTheirs tasks lists) (was : IsRenumbered tasks lists next (slice_index_or lists tile []) first numbers listed place)
    (at : slice_get (slice_index_or lists tile []) place ≡ Some id) (there : slice_index_or tasks id None ≡ Some task) (below : id < length numbers) where
  abbrev ids : List ℕ
  ids = slice_index_or lists tile []

  early_more : (p a : ℕ) → p < place + 1 → slice_get ids p ≡ Some a
      → slice_index_or (slice_set numbers id place) a 0 < place + 1
  early_more p a less here = elim (cases_eq a id) [
    | inl same ↦ (let own : slice_index_or (slice_set numbers id place) a 0 ≡ place = ap (λ j. slice_index_or (slice_set numbers id place) j 0) same ∙ get_or-set_same numbers id place 0 below in omega (arith, own))
    | inr other ↦
        let stays = get_or-set_other numbers id a place 0 other in
        elim (cases_eq p place) [
          | inl same ↦ (let both : Some a ≡ Some id = sym here ∙ ap (slice_get ids) same ∙ at in let is : a ≡ id = cc in absurd (other is))
          | inr before ↦ (let early = was.early p a (omega (arith, less, before)) here in omega (arith, early, stays))
        ]
  ]

  pub one_more : (after : List ℕ) (now : List Candidate) → after ≡ slice_set numbers id place
      → now ≡ after_insert candidate_cmp (record { key = task.key; tile = task.tile; arrival = place; id = id }) (without_candidate id listed)
      → IsRenumbered tasks lists next ids first after now (place + 1)
  one_more after now is listed_are =
      subst (λ ns. IsRenumbered tasks lists next ids first ns now (place + 1)) (sym is)
      (subst (λ es. IsRenumbered tasks lists next ids first (slice_set numbers id place) es (place + 1)) (sym listed_are)
      (record {
        indexed = moved tasks lists numbers next listed was.indexed theirs tile place id task at there below was.early;
        early = early_more;
        others =
            λ k not. get_or-set_other numbers id k place 0 (λ same. not (subst (Contains ids) (sym same) (held_at ids place id at))) ∙ was.others k not;
        slots = length-set numbers id place ∙ was.slots;
      }))

-- at the end each has a number below their count
pub all_below : (tasks : List (Option Task)) (lists : List (List ℕ)) (next : ℕ) (ids first numbers : List ℕ) (listed : List Candidate) (place : ℕ)
    → IsRenumbered tasks lists next ids first numbers listed place → length ids ≤ place → place ≤ length ids
    → AreBelow numbers ids (length ids)
all_below tasks lists next ids first numbers listed place is end upto id has =
    let less = is.early has.0 id (omega (arith, has.1, end)) (slice_get-get_or ids has.0 id has.1 ∙ ap Some has.2) in
    omega (arith, less, upto)

-- the ids that a queue holds are those of its tile
pub ids_of_tile : (queues : List QueueValue) (tile : ℕ) (queue : QueueValue) (held : List ℕ) → tile < length queues
    → queue ≡ slice_index_or queues tile queue → held ≡ queue.ids
    → slice_index_or (map (λ q. q.ids) queues) tile [] ≡ held
ids_of_tile queues tile queue held within is same =
    ids_at queues tile queue within ∙ ap (λ (q : QueueValue). q.ids) (sym is) ∙ sym same

-- the id at a place of a queue is that of a task of the tile
pub task_at_place : (tasks : List (Option Task)) (queues : List QueueValue) (tile : ℕ) (queue : QueueValue) (held : List ℕ) (place : ℕ)
    → AreTheirs tasks (map (λ q. q.ids) queues)
    → tile < length queues → queue ≡ slice_index_or queues tile queue → held ≡ queue.ids → place < length held
    → (task : Task) × (slice_index_or tasks (slice_index_or held place 0) None ≡ Some task)
    × (slice_get (slice_index_or (map (λ q. q.ids) queues) tile []) place ≡ Some (slice_index_or held place 0))
task_at_place tasks queues tile queue held place theirs within is same below =
    let list = ids_of_tile queues tile queue held within is same in
    let has : Contains (slice_index_or (map (λ (q : QueueValue). q.ids) queues) tile []) (slice_index_or held place 0) =
    subst (λ ids. Contains ids (slice_index_or held place 0)) (sym list) (Contains-get_or held place 0 below) in
    let t = theirs tile (slice_index_or held place 0) has in
    (t.0, t.1, ap (λ ids. slice_get ids place) list ∙ slice_get-get_or held place 0 below)
