-- The test of what is taken back with a task.
use Rattle.std.proofs.Common.{◌≡◌, ◌⊎◌, ℕ, Bool, true, List, Option, Some, None, refl, sym, ap, subst, ◌∙◌, inl, inr}
use Rattle.std.specs.Prelude.{◌↔◌, ◌==◌, ◌&&◌, IsSome, is_some, count_by, ◌≤◌}
use Rattle.std.specs.Ordering.{is_lt}
use Rattle.std.proofs.lemmas.Bool.{and_parts, and_from, or_cases, or_left, or_right}
use Rattle.std.proofs.lemmas.Bool.Decides.{nat_tests}
use Rattle.std.proofs.Common.{arith}
use Rattle.abort_cascade.specs.Cascade.{Reached, start, step, IsLeastClosed, Marked}
use Rattle.spec_rollback.proofs.Marked.{fewer}
use Rattle.fractal_vt.specs.Keys.{key_cmp}
use Rattle.fractal_vt.proofs.Proved.{less_from}
use Rattle.spec_state.specs.declared.task.Task.{Task}
use Rattle.spec_state.specs.View.{View, task_at}
use Rattle.spec_state.specs.Tasks.{is_dispatched}
use Rattle.spec_state.specs.Groups.{live_creator}
use Rattle.spec_state.specs.Aborts.{ReadsFrom, PullsInView}
use Rattle.spec_rollback.specs.Pulled.{is_creator, tells_store, reads_from, reads_from_some, pulls_task, pull_in}
use Rattle.spec_rollback.proofs.Stores.{tells_is}

creator_is : (id : ℕ) (creator : Option ℕ) → is_creator id creator ≡ true → creator ≡ Some id
creator_is id None is = absurd (cc)
creator_is id (Some c) is = let same : c ≡ id = grind (arith, nat_tests) in ap Some same

is_the_creator : (id : ℕ) (creator : Option ℕ) → creator ≡ Some id → is_creator id creator ≡ true
is_the_creator id creator is = subst (λ c. is_creator id c ≡ true) (sym is)
    (let same : (id == id) ≡ true = grind (arith, nat_tests) in same)

module _ (view : View) (a b : ℕ) where
  -- the second task's filter tells a store of the first
  abbrev tells : Task → Task → Bool
  tells x y = tells_store view.settings.line x.log y

  -- what the test finds is taken back
  found : (first second : Option Task) → task_at view a ≡ first → task_at view b ≡ second
      → pulls_task view.settings.line a first second ≡ true → PullsInView view a b
  found first None at_a at_b is = absurd (cc)
  found first (Some y) at_a at_b is = by_case
      (or_cases (is_creator a (live_creator y.creator)) (reads_from_some view.settings.line first y) is)
    where
      reads : (writer : Option Task) → task_at view a ≡ writer → reads_from_some view.settings.line writer y ≡ true
          → ReadsFrom view a b
      reads None at is = absurd (cc)
      reads (Some x) at is =
          let one = and_parts (is_dispatched x && is_dispatched y && is_lt (key_cmp x.key y.key)) (tells x y) is in
          let two = and_parts (is_dispatched x && is_dispatched y) (is_lt (key_cmp x.key y.key)) one.0 in
          let three = and_parts (is_dispatched x) (is_dispatched y) two.0 in
          record {
            writer = x;
            there = at;
            dispatched = three.0;
            reader = y;
            later = record { there = at_b; dispatched = three.1; later = less_from (key_cmp x.key y.key) two.1 };
            meets = (tells_is view.settings.line x y).0 one.1;
          }

      by_case : (is_creator a (live_creator y.creator) ≡ true) ⊎ (reads_from_some view.settings.line first y ≡ true)
          → PullsInView view a b
      by_case (inl made) = inl
          (record { child = y; there = at_b; made_by = creator_is a (live_creator y.creator) made })
      by_case (inr later) = inr (reads first at_a later)

  -- what is taken back is found by the test
  finds : PullsInView view a b → pull_in view.settings.line view.tasks a b ≡ true
  finds (inl child) =
      ap (pulls_task view.settings.line a (task_at view a)) child.there
      ∙ or_left (is_creator a (live_creator child.child.creator))
      (reads_from_some view.settings.line (task_at view a) child.child)
      (is_the_creator a (live_creator child.child.creator) child.made_by)
  finds (inr reads) =
      let x = reads.writer in
      let y = reads.reader in
      let read : reads_from view.settings.line x y ≡ true =
      and_from (is_dispatched x && is_dispatched y && is_lt (key_cmp x.key y.key)) (tells x y)
      (and_from (is_dispatched x && is_dispatched y) (is_lt (key_cmp x.key y.key))
      (and_from (is_dispatched x) (is_dispatched y) reads.dispatched reads.later.dispatched)
      (ap is_lt reads.later.later))
      ((tells_is view.settings.line x y).1 reads.meets)
      in
      ap (pulls_task view.settings.line a (task_at view a)) reads.later.there
      ∙ or_right (is_creator a (live_creator y.creator)) (reads_from_some view.settings.line (task_at view a) y)
      (ap (λ o. reads_from_some view.settings.line o y) reads.there ∙ read)

  pub pull_is : (pull_in view.settings.line view.tasks a b ≡ true) ↔ PullsInView view a b
  pull_is = (found (task_at view a) (task_at view b) refl refl, finds)

-- what the test finds is there
found_there : (size a : ℕ) (first second : Option Task)
    → pulls_task size a first second ≡ true → IsSome second
found_there size a first None is = absurd (cc)
found_there size a first (Some y) is = refl

-- where the first tasks are there, so is what is reached from them
pub reached_there : (view : View) (count : ℕ) (firsts : ℕ → Type 0) → ((id : ℕ) → firsts id → IsSome (task_at view id))
    → (id : ℕ) → Reached count (pull_in view.settings.line view.tasks) firsts id → IsSome (task_at view id)
reached_there view count firsts there id (start a is) = there a is
reached_there view count firsts there id (step {a} b before in_a in_b pulled) =
    found_there view.settings.line a (task_at view a) (task_at view b) pulled

-- a cascade of tasks that are there has no more members than there are tasks
pub few_members : (view : View) (size : ℕ) (slots : List (Option Task)) (firsts marks : List Bool)
    (count : ℕ)
    → size ≡ view.settings.line → slots ≡ view.tasks
    → IsLeastClosed count (pull_in size slots) (Marked firsts) marks
    → ((id : ℕ) → Marked firsts id → IsSome (task_at view id)) → count_by (λ mark. mark) marks ≤ count_by is_some slots
few_members view size slots firsts marks count by same least there =
    let least' : IsLeastClosed count (pull_in view.settings.line view.tasks) (Marked firsts) marks =
    subst (λ tasks. IsLeastClosed count (pull_in view.settings.line tasks) (Marked firsts) marks) same
    (subst (λ s. IsLeastClosed count (pull_in s slots) (Marked firsts) marks) by least) in
    subst (λ tasks. count_by (λ mark. mark) marks ≤ count_by is_some tasks) (sym same)
    (fewer marks view.tasks
    (λ id marked. reached_there view count (Marked firsts) there id (least'.reached id marked)))
