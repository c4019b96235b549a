-- Marked ids and lists of them: a list of them all is no shorter than they are many, and one no longer has none
-- twice, in any order; and lists that are written back.
use Rattle.std.proofs.Common.{◌≡◌, ◌≢◌, ◌≤◌, ◌+◌, ◌∷◌, ◌++◌, ℕ, suc, Bool, true, false, List, []}
use Rattle.std.proofs.Common.{length, take, drop, Option, Some, None, refl, sym, ap, subst, ◌∙◌, inl, inr, cond, arith}
use Rattle.std.proofs.Common.{slice_index_or, slice_set}
use Rattle.std.specs.Prelude.{◌↔◌, Contains, AllPairs, count_by, is_some, IsSome}
use Rattle.std.proofs.lemmas.List.{get_or-set_same, get_or-set_other, length-set, set-set, set-get_or, get_or_default}
use Rattle.std.proofs.lemmas.List.Kept.{AllPairs-cons}
use Rattle.std.proofs.lemmas.List.{length-take-le}
use Rattle.std.proofs.lemmas.List.Sorted.{IsPermutation-sym, Contains-permutation}
use Rattle.std.specs.List.Sorted.{IsPermutation}
use Rattle.spec_state.specs.StateValue.{Scratch}
use Rattle.spec_rollback.specs.Pulled.{ListsMarked}
use Rattle.std.proofs.lemmas.List.Recursion.{is_count_by}
use Rattle.std.proofs.Math.Seq.{take-append_seam}
use Rattle.abort_cascade.specs.Cascade.{Marked}
use Rattle.abort_cascade.proofs.Proved.{count-mark, marked_within}
use Rattle.spec_state.specs.declared.task.Task.{Task}
use Rattle.spec_state.proofs.Proved.{head_or_tail, has_head, in_tail}

-- how many marks are set
abbrev count : List Bool → ℕ
count marks = count_by (λ mark. mark) marks

-- a list that is written back in its own length
pub put_back : {X : Type 0} (n : ℕ) (new old : List X) → length new ≡ length old → n ≡ length old
    → take n (new ++ drop (length new) old) ≡ new
put_back {X} n new old same is =
    ap (λ m. take m (new ++ drop (length new) old)) (is ∙ sym same) ∙ take-append_seam new (drop (length new) old)

-- taking off a mark that is set leaves one less
one_less : (marks : List Bool) (id : ℕ) → Marked marks id → count marks ≡ count (slice_set marks id false) + 1
one_less marks id marked =
    let within = marked_within marks id marked in
    let off : slice_index_or (slice_set marks id false) id false ≡ false = get_or-set_same marks id false false within
    in
    let same : slice_set (slice_set marks id false) id true ≡ marks =
    set-set marks id false true ∙ ap (slice_set marks id) (sym marked) ∙ set-get_or marks id false
    in
    ap count (sym same) ∙ count-mark (slice_set marks id false) id (omega (arith, within, length-set marks id false))
    off

-- taking off a mark leaves the others
others_stay : (marks : List Bool) (id k : ℕ) → k ≢ id → Marked (slice_set marks id false) k ↔ Marked marks k
others_stay marks id k other =
    let same = get_or-set_other marks id k false false other in (λ m. sym same ∙ m, λ m. same ∙ m)

-- what is marked still is another id
is_off : (marks : List Bool) (id k : ℕ) → Marked (slice_set marks id false) k → k ≢ id
is_off marks id k marked same =
    let within = marked_within (slice_set marks id false) k marked in
    let off : slice_index_or (slice_set marks id false) k false ≡ false =
    ap (λ n. slice_index_or (slice_set marks id false) n false) same
    ∙ get_or-set_same marks id false false (let long = length-set marks id false in omega (arith, within, same, long))
    in
    absurd (cc (marked, off))

-- how many marks are set, by recursion
abbrev marks_in : List Bool → ℕ
marks_in [] = 0
marks_in (mark ∷ marks) = cond mark (1 + marks_in marks) (marks_in marks)

marks_in_is : (marks : List Bool) → marks_in marks ≡ count marks
marks_in_is = is_count_by marks_in (λ mark. mark) refl (λ mark marks. refl)

abbrev tasks_in : List (Option Task) → ℕ
tasks_in [] = 0
tasks_in (task ∷ tasks) = cond (is_some task) (1 + tasks_in tasks) (tasks_in tasks)

tasks_in_is : (tasks : List (Option Task)) → tasks_in tasks ≡ count_by is_some tasks
tasks_in_is = is_count_by tasks_in is_some refl (λ task tasks. refl)

none_in : (marks : List Bool) → ((k : ℕ) → Marked marks k → ⊥) → marks_in marks ≡ 0
none_in [] none = refl
none_in (true ∷ marks) none = absurd (none 0 refl)
none_in (false ∷ marks) none = none_in marks (λ k. none (suc k))

-- where none is marked, none is counted
pub none_counted : (marks : List Bool) → ((k : ℕ) → Marked marks k → ⊥) → count marks ≡ 0
none_counted marks none = sym (marks_in_is marks) ∙ none_in marks none

fewer_in : (marks : List Bool) (tasks : List (Option Task))
    → ((k : ℕ) → Marked marks k → IsSome (slice_index_or tasks k None)) → marks_in marks ≤ tasks_in tasks
fewer_in [] tasks there = omega arith
fewer_in (mark ∷ marks) [] there = let none = none_in (mark ∷ marks) (λ k marked. absurd (cc (there k marked))) in
    omega (arith, none)
fewer_in (true ∷ marks) (None ∷ tasks) there = absurd (cc (there 0 refl))
fewer_in (true ∷ marks) (Some task ∷ tasks) there = let rest = fewer_in marks tasks (λ k. there (suc k)) in omega
    (arith, rest)
fewer_in (false ∷ marks) (task ∷ tasks) there = by_task task (fewer_in marks tasks (λ k. there (suc k)))
  where
    by_task : (task : Option Task) → marks_in marks ≤ tasks_in tasks → marks_in marks ≤ tasks_in (task ∷ tasks)
    by_task None rest = rest
    by_task (Some task) rest = omega (arith, rest)

-- where each marked id is a task's, there are no more marks than tasks
pub fewer : (marks : List Bool) (tasks : List (Option Task))
    → ((k : ℕ) → Marked marks k → IsSome (slice_index_or tasks k None)) → count marks ≤ count_by is_some tasks
fewer marks tasks there =
    let rest = fewer_in marks tasks there in
    omega (arith, rest, marks_in_is marks, tasks_in_is tasks)

-- a list that holds all marked ids is at least as long as they are many
no_more : (xs : List ℕ) (marks : List Bool) → ((k : ℕ) → Marked marks k → Contains xs k) → count marks ≤ length xs
no_more [] marks all = let none = none_counted marks (λ k marked. (let low = (all k marked).1 in omega (arith, low)))
    in omega (arith, none)
no_more (x ∷ xs) marks all = by_mark (no_more xs) (slice_index_or marks x false) refl
  where
    later : (k : ℕ) → k ≢ x → Contains (x ∷ xs) k → Contains xs k
    later k other has = elim (head_or_tail x xs k has) [ inl is ↦ absurd (other (sym is)) | inr behind ↦ behind ]

    by_mark : ((ms : List Bool) → ((k : ℕ) → Marked ms k → Contains xs k) → count ms ≤ length xs) → (mark : Bool)
        → slice_index_or marks x false ≡ mark → count marks ≤ length (x ∷ xs)
    by_mark go true marked =
        let rest = go (slice_set marks x false)
        (λ k at. (let other = is_off marks x k at in later k other (all k ((others_stay marks x k other).0 at))))
        in
        let one = one_less marks x marked in
        omega (arith, rest, one)
    by_mark go false marked =
        let rest = go marks (λ k at. later k
        (λ same. absurd (cc (at, ap (λ n. slice_index_or marks n false) same, marked))) (all k at)) in
        omega (arith, rest)

-- a list of the marked ids that is no longer than they are many has none twice
pub listed_once : (xs : List ℕ) (marks : List Bool) → ((k : ℕ) → Marked marks k ↔ Contains xs k)
    → length xs ≤ count marks → AllPairs (λ a b. a ≢ b) xs
listed_once [] marks all long = λ i j d less within. absurd (omega (arith, within))
listed_once (x ∷ xs) marks all long =
    AllPairs-cons (λ a b. a ≢ b) x xs
    (λ k d within same. absent (k, within, get_or_default xs k x d within ∙ sym same)) (rest (listed_once xs))
  where
    absent : Contains xs x → ⊥
    absent has =
        let all_behind : (k : ℕ) → Marked marks k
        → Contains xs k = λ k marked. elim (head_or_tail x xs k ((all k).0 marked)) [
          | inl is ↦ subst (Contains xs) is has
          | inr behind ↦ behind
        ] in
        let upto = no_more xs marks all_behind in
        omega (arith, upto, long)

    marked : Marked marks x
    marked = (all x).1 (has_head x xs)

    rest : ((ms : List Bool) → ((k : ℕ) → Marked ms k ↔ Contains xs k) → length xs ≤ count ms
        → AllPairs (λ a b. a ≢ b) xs) → AllPairs (λ a b. a ≢ b) xs
    rest go =
        let both : (k : ℕ) → Marked (slice_set marks x false) k ↔ Contains xs k = λ k. (
          λ at. (let other = is_off marks x k at in elim
              (head_or_tail x xs k ((all k).0 ((others_stay marks x k other).0 at)))
              [ inl is ↦ absurd (other (sym is)) | inr behind ↦ behind ]),
          λ has. (others_stay marks x k (λ same. absent (subst (Contains xs) same has))).1
              ((all k).1 (in_tail x xs k has)),
        ) in
        let one = one_less marks x marked in
        go (slice_set marks x false) both (omega (arith, long, one))

-- the members in another order
pub listed_permuted : (marks : List Bool) (old new : List ℕ) (found : ℕ)
    → ListsMarked (record { marks = marks; members = old }) found
    → IsPermutation (take found old) (take found new) → length new ≡ length old
    → ListsMarked (record { marks = marks; members = new }) found
listed_permuted marks old new found listed permuted same = record {
  marked = λ id. (
    λ marked. Contains-permutation (take found old) (take found new) id permuted ((listed.marked id).0 marked),
    λ has. (listed.marked id).1
        (Contains-permutation (take found new) (take found old) id
        (IsPermutation-sym (take found old) (take found new) permuted) has),
  );
  count = listed.count;
  within = (let upto = listed.within in omega (arith, upto, same));
}

-- none of the members stands there twice
pub members_once : (scratch : Scratch) (found : ℕ) → ListsMarked scratch found
    → AllPairs (λ a b. a ≢ b) (take found scratch.members)
members_once scratch found listed =
    let long = length-take-le found scratch.members listed.within in
    let many = listed.count in
    listed_once (take found scratch.members) scratch.marks listed.marked (omega (arith, long, many))
