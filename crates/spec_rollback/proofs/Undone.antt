-- To undo the logs of some tasks, none of them earlier than one behind it, is to undo the set.
use Rattle.std.proofs.Common.{◌≡◌, ◌≢◌, ℕ, suc, Bool, true, false, List, [], ◌∷◌, Option, Some, None, refl, sym, ap}
use Rattle.std.proofs.Common.{subst, ◌∙◌, inl, inr, arith, length, take, option_map, slice_index_or, if◌then◌else◌}
use Rattle.std.specs.Prelude.{◌==◌, ◌↔◌, AllPairs, Contains}
use Rattle.std.specs.Ordering.{is_lt}
use Rattle.std.specs.Cmp.{both_ways}
use Rattle.std.proofs.lemmas.Bool.{cases_eq}
use Rattle.memory_law.specs.Events.{IsLatestInLogs, without_one}
use Rattle.memory_law.specs.Tasks.{Logged, log_of, In, Earlier, Ascends, IsByKey, undone_set}
use Rattle.memory_law.proofs.Proved.{latest_first, member_dispatched, not_self}
use Rattle.undo_log.specs.Undo.{undone}
use Rattle.spec_state.specs.declared.task.Task.{Task}
use Rattle.spec_state.specs.Groups.{logged_tasks, logged_task}
use Rattle.spec_state.specs.View.{View}
use Rattle.spec_state.specs.Stored.{IsStored}
use Rattle.spec_state.specs.StateValue.{Scratch}
use Rattle.spec_state.specs.Aborts.{is_marked}
use Rattle.spec_rollback.specs.Pulled.{ListsMarked}
use Rattle.spec_state.specs.Tasks.{is_dispatched}
use Rattle.spec_state.proofs.Proved.{head_or_tail, has_head, in_tail, other_test}
use Rattle.std.specs.Option.{option_cmp}
use Rattle.fractal_vt.specs.Keys.{key_cmp}
use Rattle.spec_rollback.specs.Undone.{key_in, ids_cmp, Falls, undone_one, undone_down}
use Rattle.spec_rollback.proofs.Marked.{members_once}
use Rattle.spec_rollback.proofs.TakenBack.{same_id}

-- the id is one of these
abbrev pub among : List ℕ → ℕ → Bool
among [] k = false
among (x ∷ xs) k = if k == x then true else among xs k

pub among_is : (xs : List ℕ) (k : ℕ) → among xs k ≡ true → Contains xs k
among_is [] k is = absurd (cc)
among_is (x ∷ xs) k is = elim (cases_eq k x) [
  | inl same ↦ subst (Contains (x ∷ xs)) (sym same) (has_head x xs)
  | inr other ↦ in_tail x xs k
      (among_is xs k (sym (ap (λ b. if b then true else among xs k) (other_test k x other)) ∙ is))
]

pub is_among : (xs : List ℕ) (k : ℕ) → Contains xs k → among xs k ≡ true
is_among [] k has = absurd (let low = has.1 in omega (arith, low))
is_among (x ∷ xs) k has = elim (head_or_tail x xs k has) [
  | inl same ↦ ap (λ b. if b then true else among xs k) (same_id k x (sym same))
  | inr behind ↦ by_test (k == x) (is_among xs k behind)
]
  where
    by_test : (b : Bool) → among xs k ≡ true → (if b then true else among xs k) ≡ true
    by_test true is = refl
    by_test false is = is

pub not_among : (xs : List ℕ) (k : ℕ) → (Contains xs k → ⊥) → among xs k ≡ false
not_among xs k absent = by_test (among xs k) refl
  where
    by_test : (b : Bool) → among xs k ≡ b → b ≡ false
    by_test true is = absurd (absent (among_is xs k is))
    by_test false is = refl

-- two sets that agree at these ids take back the same
pub same_set : (set other : ℕ → Bool) (tasks : ℕ → Option Logged) (ids memory : List ℕ)
    → ((k : ℕ) → In k ids → set k ≡ other k)
    → undone_set set tasks ids memory ≡ undone_set other tasks ids memory
same_set set other tasks [] memory same = refl
same_set set other tasks (k ∷ ids) memory same =
    let rest = same_set set other tasks ids memory (λ j at. same j (inr at)) in
    ap (λ b. if b then undone (log_of (tasks k)) (undone_set set tasks ids memory) else undone_set set tasks ids
    memory) (same k (inl refl))
    ∙ ap (λ m. if other k then undone (log_of (tasks k)) m else m) rest

-- an empty set takes nothing back
pub nothing_back : (set : ℕ → Bool) (tasks : ℕ → Option Logged) (ids memory : List ℕ) → ((k : ℕ) → set k ≡ false)
    → undone_set set tasks ids memory ≡ memory
nothing_back set tasks [] memory none = refl
nothing_back set tasks (k ∷ ids) memory none =
    ap (λ b. if b then undone (log_of (tasks k)) (undone_set set tasks ids memory) else undone_set set tasks ids
    memory) (none k)
    ∙ nothing_back set tasks ids memory none

-- what holds of each two of a list holds of its first and each behind it
first_of_pairs : (R : ℕ → ℕ → Type 0) (x : ℕ) (xs : List ℕ) → AllPairs R (x ∷ xs) → (k : ℕ) → Contains xs k → R x k
first_of_pairs R x xs pairs k has =
    subst (R x) has.2 (pairs 0 (suc has.0) k (omega arith) (let low = has.1 in omega (arith, low)))

rest_of_pairs : (R : ℕ → ℕ → Type 0) (x : ℕ) (xs : List ℕ) → AllPairs R (x ∷ xs) → AllPairs R xs
rest_of_pairs R x xs pairs i j d less within = pairs (suc i) (suc j) d (omega (arith, less)) (omega (arith, within))

module _ (tasks : List (Option Task)) where
  -- what memory reads of them
  abbrev read : ℕ → Option Logged
  read id = option_map logged_task (slice_index_or tasks id None)

  -- a task that is less by its levels is so by its id
  less_by_id : (x k : ℕ) (t u : Task) → slice_index_or tasks x None ≡ Some t → slice_index_or tasks k None ≡ Some u
      → Earlier (logged_task t) (logged_task u)
      → is_lt (ids_cmp tasks x k) ≡ true
  less_by_id x k t u at_x at_k earlier =
      ap (λ o. is_lt (option_cmp key_cmp o (key_in tasks k))) (ap (option_map (λ (task : Task). task.key)) at_x)
      ∙ ap (λ o. is_lt (option_cmp key_cmp (Some t.key) o)) (ap (option_map (λ (task : Task). task.key)) at_k)
      ∙ ap is_lt earlier

  -- a task by what memory reads of it
  read_back : (k : ℕ) (other : Logged) → read k ≡ Some other → (u : Task) × (slice_index_or tasks k None ≡ Some u)
      × (other ≡ logged_task u)
  read_back k other is = by_slot (slice_index_or tasks k None) refl is
    where
      by_slot : (slot : Option Task) → slice_index_or tasks k None ≡ slot → option_map logged_task slot ≡ Some other
          → (u : Task) × (slice_index_or tasks k None ≡ Some u) × (other ≡ logged_task u)
      by_slot None at is = absurd (cc)
      by_slot (Some u) at is = let same : logged_task u ≡ other = cc in (u, at, sym same)

  module _ (ids : List ℕ) (up : Ascends read ids)
      (complete : (id : ℕ) (task : Logged) → read id ≡ Some task → task.dispatched ≡ true → In id ids) where
    -- an id that is no dispatched task's is none of these
    not_these : (x : ℕ) → ((task : Logged) → read x ≡ Some task → task.dispatched ≡ true → ⊥) → (k : ℕ) → In k ids
        → k ≢ x
    not_these x none k at same =
        let runs = member_dispatched read k ids at up in none runs.0 (ap read (sym same) ∙ runs.1) runs.2

    module _ (x : ℕ) (list : List ℕ) (falls : Falls tasks (x ∷ list)) (once : AllPairs (λ a b. a ≢ b) (x ∷ list)) where
      without_first : (k : ℕ) → without_one x (among (x ∷ list)) k ≡ among list k
      without_first k = elim (cases_eq k x) [
        | inl same ↦
            ap (λ b. if b then false else (if b then true else among list k)) (same_id k x same)
            ∙ sym (not_among list k (λ has. first_of_pairs (λ a b. a ≢ b) x list once k has (sym same)))
        | inr other ↦ ap (λ b. if b then false else (if b then true else among list k)) (other_test k x other)
      ]

      without_other : (k : ℕ) → k ≢ x → among (x ∷ list) k ≡ among list k
      without_other k other = ap (λ b. if b then true else among list k) (other_test k x other)

      skipped : (memory : List ℕ) → ((task : Logged) → read x ≡ Some task → task.dispatched ≡ true → ⊥)
          → undone_set (among list) read ids memory ≡ undone_set (among (x ∷ list)) read ids memory
      skipped memory none = same_set (among list) (among (x ∷ list)) read ids memory
          (λ k at. sym (without_other k (not_these x none k at)))

      is_latest : (t : Task) → slice_index_or tasks x None ≡ Some t → is_dispatched t ≡ true
          → IsLatestInLogs (among (x ∷ list)) read x (logged_task t)
      is_latest t at runs = record {
        there = ap (option_map logged_task) at;
        dispatched = runs;
        member = is_among (x ∷ list) x (has_head x list);
        none_later = λ k other there runs' earlier.
            let back = read_back k other there in
            let earlier' : Earlier (logged_task t) (logged_task back.0) = subst (Earlier (logged_task t)) back.2
            earlier in
            let differs : k ≢ x = λ same. (
            let both : Some back.0 ≡ Some t = sym back.1 ∙ ap (λ n. slice_index_or tasks n None) same ∙ at in
            let eq : back.0 ≡ t = cc in
            not_self (logged_task t) (subst (λ u. Earlier (logged_task t) (logged_task u)) eq earlier')
            ) in
            without_other k differs
            ∙ not_among list k (λ has. (
            let less = less_by_id x k t back.0 at back.1 earlier' in
            let none = first_of_pairs (λ a b. is_lt (ids_cmp tasks a b) ≡ false) x list falls k has in
            absurd (cc (less, none))
            ));
      }

      undone_first : (memory : List ℕ) (t : Task) → slice_index_or tasks x None ≡ Some t → is_dispatched t ≡ true
          → undone_set (among list) read ids (undone t.log memory) ≡ undone_set (among (x ∷ list)) read ids memory
      undone_first memory t at runs =
          same_set (among list) (without_one x (among (x ∷ list))) read ids (undone t.log memory)
          (λ k in'. sym (without_first k))
          ∙ sym (latest_first (among (x ∷ list)) read x (logged_task t) (is_latest t at runs) ids memory up
          (complete x (logged_task t) (ap (option_map logged_task) at) runs))

      one_down : (memory : List ℕ) (slot : Option Task) → slice_index_or tasks x None ≡ slot
          → undone_set (among list) read ids (undone_one slot memory) ≡ undone_set (among (x ∷ list)) read ids memory
      one_down memory None at = skipped memory (λ task is runs. absurd (cc (is, ap (option_map logged_task) at)))
      one_down memory (Some t) at = by_state (is_dispatched t) refl
        where
          by_state : (b : Bool) → is_dispatched t ≡ b
              → undone_set (among list) read ids (undone_one (Some t) memory) ≡ undone_set (among (x ∷ list)) read ids
              memory
          by_state true runs =
              ap (λ b. undone_set (among list) read ids (if b then undone t.log memory else memory)) runs
              ∙ undone_first memory t at runs
          by_state false idle =
              ap (λ b. undone_set (among list) read ids (if b then undone t.log memory else memory)) idle
              ∙ skipped memory (λ task is runs. (
              let both : Some task ≡ Some (logged_task t) = sym is ∙ ap (option_map logged_task) at in
              let same : task ≡ logged_task t = cc in
              absurd (cc (ap (λ (l : Logged). l.dispatched) same, runs, idle))
              ))

    down : (list memory : List ℕ) → Falls tasks list → AllPairs (λ a b. a ≢ b) list
        → undone_down tasks list memory ≡ undone_set (among list) read ids memory
    down [] memory falls once = sym (nothing_back (among []) read ids memory (λ k. refl))
    down (x ∷ list) memory falls once =
        down list (undone_one (slice_index_or tasks x None) memory)
        (rest_of_pairs (λ a b. is_lt (ids_cmp tasks a b) ≡ false) x list falls)
        (rest_of_pairs (λ a b. a ≢ b) x list once)
        ∙ one_down x list falls once memory (slice_index_or tasks x None) refl

  -- for whatever set holds just these
  pub down_is : (list : List ℕ) → Falls tasks list → AllPairs (λ a b. a ≢ b) list → (set : ℕ → Bool)
      → ((k : ℕ) → (set k ≡ true) ↔ Contains list k)
      → (ids : List ℕ) → IsByKey read ids → (memory : List ℕ)
      → undone_down tasks list memory ≡ undone_set set read ids memory
  down_is list falls once set holds ids by_key memory =
      down ids by_key.ascends by_key.complete list memory falls once
      ∙ same_set (among list) set read ids memory
      (λ k at. both_ways (among list k) (set k) (λ is. (holds k).1 (among_is list k is))
      (λ is. is_among list k ((holds k).0 is)))

-- a view of another memory of the same size is stored as well
pub stored_memory : (size : ℕ) (view : View) (memory : List ℕ) → IsStored size view
    → length memory ≡ length view.memory → IsStored size (record view { memory = memory })
stored_memory size view memory stored same = record {
  queued_are = stored.queued_are;
  finished_are = stored.finished_are;
  held_are = stored.held_are;
  tasks = stored.tasks;
  memory = same ∙ stored.memory;
}

-- the marked tasks of a view
pub marked_undone : (view : View) (tasks : List (Option Task)) (memory now : List ℕ) (scratch : Scratch) (found : ℕ)
    (members : List ℕ) → tasks ≡ view.tasks → memory ≡ view.memory
    → ListsMarked (record scratch { members = members }) found → Falls tasks (take found members)
    → now ≡ undone_down tasks (take found members) memory
    → (ids : List ℕ) → IsByKey (logged_tasks view) ids
    → now ≡ undone_set (is_marked scratch.marks) (logged_tasks view) ids view.memory
marked_undone view tasks memory now scratch found members same_tasks same_memory listed falls is ids by_key =
    let once = members_once (record scratch { members = members }) found listed in
    is ∙ ap (undone_down tasks (take found members)) same_memory
    ∙ ap (λ (slots : List (Option Task)). undone_down slots (take found members) view.memory) same_tasks
    ∙ down_is view.tasks (take found members)
    (subst (λ (slots : List (Option Task)). Falls slots (take found members)) same_tasks falls) once
    (is_marked scratch.marks) listed.marked ids by_key view.memory
