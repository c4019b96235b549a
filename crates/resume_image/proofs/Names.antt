-- Names that a run of a saved image can have are told apart by their shifted names.
use Rattle.std.proofs.Common.{◌≡◌, ◌≢◌, refl, ap, ◌∙◌, ℕ, [], ◌+◌, ◌<◌, ◌≤◌, ◌==◌, ◌&&◌, Bool, true, false, List}
use Rattle.std.proofs.Common.{length, map, slice_index_or, get_or, All, AllPairs, if◌then◌else◌, inl, inr, arith}
use Rattle.std.specs.List.{AllByRecursion}
use Rattle.std.proofs.lemmas.Bool.{cases_eq, cases_lt}
use Rattle.std.proofs.lemmas.Bool.Decides.{nat_tests}
use Rattle.std.proofs.lemmas.Grind.{common_steps}
use Rattle.std.proofs.lemmas.List.{get_or-map}
use Rattle.task_desc.specs.declared.desc.Name.{Name}
use Rattle.pending_list.specs.declared.task.PendingTask.{PendingTask}
use Rattle.pending_list.specs.Pending.{name_before}
use Rattle.conflict_book.specs.spec_state.declared.pending.Pending.{Pending}
use Rattle.conflict_book.specs.spec_state.Pendings.{IsBefore}
use Rattle.resume_image.specs.Joined.{shifted_name}

-- whether two names are one
abbrev pub is_one : Name → Name → Bool
is_one a b = (b.creator == a.creator) && (b.index == a.index)

-- a name with the creator 0 is that of a pending task
abbrev pub IsKnown : List Pending → Name → Type 0
IsKnown pendings name = name.creator ≡ 0 → name.index < length pendings

-- each name of these tasks is known
abbrev pub Know : List Pending → List PendingTask → Type 0
Know pendings tasks = AllByRecursion (λ (t : PendingTask). IsKnown pendings t.name) tasks

-- the pending tasks are sorted by their names, and were made by the image or by so many turns
pub record AreSaved (turns : ℕ) (pendings : List Pending) : Type 0 where
  pub sorted : AllPairs IsBefore pendings
  pub made : All (λ p. p.name.creator ≤ turns) pendings

apart : (a b : Name) → name_before a b ≡ true → is_one a b ≡ false
apart a b before = grind (arith, nat_tests, common_steps)

turned : (a b : Name) → is_one b a ≡ is_one a b
turned a b = grind (arith, nat_tests, common_steps)

one_itself : (a b : Name) → a ≡ b → is_one a b ≡ true
one_itself a b same =
    let creator : a.creator ≡ b.creator = ap (λ (n : Name). n.creator) same in
    let index : a.index ≡ b.index = ap (λ (n : Name). n.index) same in
    grind (arith, nat_tests, common_steps)

-- any value of the type, for places past the end
some_task : Pending
some_task = record { name = record { creator = 0; index = 0 }; depth = 0; entry = 0; ts = 0; args = [] }

module _ (turns : ℕ) (pendings : List Pending) (saved : AreSaved turns pendings) where
  -- the name of the pending task at a place
  abbrev stands_at : ℕ → Name
  stands_at k = (get_or pendings k some_task).name

  stands : (k : ℕ) (d : Name) → k < length pendings
      → slice_index_or (map (λ (p : Pending). p.name) pendings) k d ≡ stands_at k
  stands k d inside = get_or-map (λ (p : Pending). p.name) pendings k some_task d inside

  -- two places are told apart by the names there
  places_apart : (i j : ℕ) → i < length pendings → j < length pendings → is_one (stands_at i) (stands_at j) ≡ (j == i)
  places_apart i j first second = elim (cases_eq i j) [
    | inl same ↦
        let one : is_one (stands_at i) (stands_at j) ≡ true = one_itself (stands_at i) (stands_at j) (ap stands_at same) in
        one ∙ grind (arith, nat_tests, common_steps)
    | inr differ ↦ elim (cases_lt i j) [
      | inl before ↦
          apart (stands_at i) (stands_at j) (saved.sorted i j some_task before second)
          ∙ grind (arith, nat_tests, common_steps)
      | inr after ↦
          turned (stands_at j) (stands_at i)
          ∙ apart (stands_at j) (stands_at i) (saved.sorted j i some_task (omega (arith, differ)) first)
          ∙ grind (arith, nat_tests, common_steps)
    ]
  ]

  -- a pending task is told apart from each child of the run that goes on, which was made later
  place_child : (i c k : ℕ) → i < length pendings → c ≢ 0
      → is_one (stands_at i) (record { creator = turns + c; index = k }) ≡ false
  place_child i c k inside some =
      let made : (stands_at i).creator ≤ turns = saved.made i some_task inside in
      grind (arith, nat_tests, common_steps)

  pub same_name : (a b : Name) → IsKnown pendings a → IsKnown pendings b
      → is_one (shifted_name turns pendings a) (shifted_name turns pendings b) ≡ is_one a b
  same_name a b first second = go (a.creator == 0) (b.creator == 0) refl refl
    where
      later : Name → Name
      later name = record { creator = turns + name.creator; index = name.index }

      go : (p q : Bool) → (a.creator == 0) ≡ p → (b.creator == 0) ≡ q
          → is_one
          (if p then slice_index_or (map (λ (t : Pending). t.name) pendings) a.index a else later a)
          (if q then slice_index_or (map (λ (t : Pending). t.name) pendings) b.index b else later b)
          ≡ is_one a b
      go true true e f =
          let zero_a : a.creator ≡ 0 = grind (arith, nat_tests, common_steps) in
          let zero_b : b.creator ≡ 0 = grind (arith, nat_tests, common_steps) in
          let i = first zero_a in
          let j = second zero_b in
          ap (λ n. is_one n (slice_index_or (map (λ (t : Pending). t.name) pendings) b.index b)) (stands a.index a i)
          ∙ ap (is_one (stands_at a.index)) (stands b.index b j)
          ∙ places_apart a.index b.index i j
          ∙ grind (arith, nat_tests, common_steps)
      go true false e f =
          let zero_a : a.creator ≡ 0 = grind (arith, nat_tests, common_steps) in
          let some_b : b.creator ≢ 0 = grind (arith, nat_tests, common_steps) in
          let i = first zero_a in
          ap (λ n. is_one n (later b)) (stands a.index a i)
          ∙ place_child a.index b.creator b.index i some_b
          ∙ grind (arith, nat_tests, common_steps)
      go false true e f =
          let zero_b : b.creator ≡ 0 = grind (arith, nat_tests, common_steps) in
          let some_a : a.creator ≢ 0 = grind (arith, nat_tests, common_steps) in
          let j = second zero_b in
          ap (is_one (later a)) (stands b.index b j)
          ∙ turned (stands_at b.index) (later a)
          ∙ place_child b.index a.creator a.index j some_a
          ∙ grind (arith, nat_tests, common_steps)
      go false false e f = grind (arith, nat_tests, common_steps)
