-- Marks that grow by the children of a task, and by the tasks that may have seen its stores.
use Rattle.std.proofs.Common.{◌≡◌, ◌⊎◌, ◌+◌, ◌<◌, ◌≤◌, ◌/◌, ◌&&◌, ◌||◌, ℕ, Bool, true, false, List, Option, Some}
use Rattle.std.proofs.Common.{None, refl, sym, ap, subst, ◌∙◌, inl, inr, arith, is_some, length, option_map}
use Rattle.std.proofs.Common.{slice_index, slice_index_or, take}
use Rattle.std.specs.Prelude.{◌↔◌, IsTrue}
use Rattle.std.specs.List.{list_any}
use Rattle.std.specs.Ordering.{is_lt}
use Rattle.std.proofs.lemmas.Bool.{and_parts, and_from, cases_lt, or_cases, or_left, or_right}
use Rattle.std.proofs.lemmas.Bool.Decides.{nat_tests}
use Rattle.std.proofs.lemmas.List.{get_or_past}
use Rattle.std.proofs.lemmas.List.Folds.{list_any_more, Any-from_list_any}
use Rattle.std.proofs.lemmas.Option.{slice_get_within}
use Rattle.abort_cascade.specs.Cascade.{Marked, Reached, start, step}
use Rattle.abort_cascade.specs.Growth.{Spreads, IsListOf}
use Rattle.abort_cascade.proofs.Proved.{marked_within}
use Rattle.fractal_vt.specs.Keys.{key_cmp}
use Rattle.undo_log.specs.declared.access.Access.{Access}
use Rattle.spec_state.specs.declared.task.Creator.{Creator}
use Rattle.spec_state.specs.declared.task.Creator.TheVariants.{Committed, Live}
use Rattle.spec_state.specs.declared.task.Task.{Task}
use Rattle.spec_state.specs.Children.{ChildrenValue, AreNoted, noted_of}
use Rattle.spec_state.specs.Filters.{has_touched}
use Rattle.spec_state.specs.Groups.{live_creator}
use Rattle.spec_state.specs.Tasks.{is_dispatched}
use Rattle.spec_rollback.specs.Marking.{conflicts, IsBelow, IsSeen, StandsIn, IsMarkedIfFound, Finds}
use Rattle.spec_rollback.specs.declared.marking.Dispatched.{Dispatched}
use Rattle.spec_rollback.specs.Pulled.{is_creator, is_made, is_made_by, store_conflicts_at, some_store_conflicts_at}
use Rattle.spec_rollback.specs.Pulled.{is_read_from, is_read_at, reads_from, reads_from_some, tells_store, pulls_task}
use Rattle.spec_rollback.specs.Pulled.{pull_in, KnowsTasks}
use Rattle.spec_rollback.proofs.Stores.{any_told}

-- the same is found by a test that answers alike
pub finds_same : (one two : ℕ → Bool) (these : ℕ → Type 0) (found now : ℕ) (old new : List Bool) (before after : List ℕ)
    → ((k : ℕ) → one k ≡ two k) → Finds one these found old before now new after
    → Finds two these found old before now new after
finds_same one two these found now old new before after same =
    subst (λ test. Finds test these found old before now new after) (λ i k. same k i)

-- and among others, where those that pass are among both
pub finds_among : (test : ℕ → Bool) (these others : ℕ → Type 0) (found now : ℕ) (old new : List Bool)
    (before after : List ℕ) → ((k : ℕ) → test k ≡ true → these k ↔ others k)
    → Finds test these found old before now new after → Finds test others found old before now new after
finds_among test these others found now old new before after both finds = record {
  exact = λ id. (
    λ is. elim ((finds.exact id).0 is) [
      | inl was ↦ inl was
      | inr here ↦ inr ((both id here.1).0 here.0, here.1)
    ],
    λ either. elim either [
      | inl was ↦ (finds.exact id).1 (inl was)
      | inr here ↦ (finds.exact id).1 (inr ((both id here.1).1 here.0, here.1))
    ],
  );
  size = finds.size;
  places = finds.places;
  listed = finds.listed;
  stay = finds.stay;
  more = finds.more;
}

-- one of two tests passes, or the other
pub either_test : (a b : Bool) (here : Type 0)
    → (here × ((a || b) ≡ true)) ↔ ((here × (a ≡ true)) ⊎ (here × (b ≡ true)))
either_test a b here = (
  λ is. elim (or_cases a b is.1) [ inl one ↦ inl (is.0, one) | inr two ↦ inr (is.0, two) ],
  λ either. elim either [ inl one ↦ (one.0, or_left a b one.1) | inr two ↦ (two.0, or_right a b two.1) ],
)

-- one access more of a log may be a store that conflicts
pub store_more : (size : ℕ) (tasks : List (Option Task)) (writer : Task) (log : List Access) (n : ℕ) (access : Access)
    → n < length log → slice_index_or log n access ≡ access → (here : Type 0) (id : ℕ)
    → (here × (some_store_conflicts_at size tasks writer (take (n + 1) log) id ≡ true))
    ↔ ((here × (some_store_conflicts_at size tasks writer (take n log) id ≡ true))
    ⊎ (here × (store_conflicts_at size tasks writer access id ≡ true)))
store_more size tasks writer log n access within at here id =
    subst (λ b. (here × (b ≡ true)) ↔ ((here × (some_store_conflicts_at size tasks writer (take n log) id ≡ true))
    ⊎ (here × (store_conflicts_at size tasks writer access id ≡ true))))
    (sym (list_any_more test log n access within
    ∙ ap (λ a. list_any test (take n log) || test a) at))
    (either_test (list_any test (take n log)) (test access) here)
  where
    test : Access → Bool
    test a = store_conflicts_at size tasks writer a id

and_yes : (b : Bool) → (b && true) ≡ b
and_yes true = refl
and_yes false = refl

-- the test of a child finds what the task made
made_by : (creator : ℕ) (by : Creator) → is_creator creator (live_creator by) ≡ true
    → (index : ℕ) × (by ≡ Live (record { 0 = creator }) index)
made_by creator (Committed turn index) is = absurd (cc)
made_by creator (Live task index) is =
    let same : task.0 ≡ creator = grind (arith, nat_tests) in
    (index, ap (λ id. Live (record { 0 = id }) index) same)

module _ (tasks : List (Option Task)) (children : ChildrenValue) (noted : AreNoted tasks children) (creator : ℕ)
    (complete : IsTrue children.complete) where
  child_seen : (k : ℕ) (slot : Option Task) → slice_index_or tasks k None ≡ slot → is_made creator slot ≡ true
      → IsSeen Some (noted_of children creator) (length (noted_of children creator)) k
  child_seen k None at is = absurd (cc)
  child_seen k (Some task) at is =
      let by = made_by creator task.creator is in
      let stands = noted complete k creator by.0 (record { child = task; there = at; made_by = by.1 }) in
      (by.0, slice_get_within (noted_of children creator) by.0 k stands, ap (option_map (λ (n : ℕ). Some n)) stands)

  pub noted_seen : (k : ℕ) → is_made_by tasks creator k ≡ true
      → IsSeen Some (noted_of children creator) (length (noted_of children creator)) k
  noted_seen k is = child_seen k (slice_index_or tasks k None) refl is

-- what a test of tasks passes is there
made_within : (tasks : List (Option Task)) (creator k : ℕ) → is_made_by tasks creator k ≡ true → k < length tasks
made_within tasks creator k is = elim (cases_lt k (length tasks)) [
  | inl within ↦ within
  | inr past ↦ absurd (cc (is, ap (is_made creator) (get_or_past tasks k None past)))
]

-- among the noted children are all that the test of a child passes
pub children_found : (tasks : List (Option Task)) (children : ChildrenValue) (creator bound : ℕ) (ids : List ℕ)
    → AreNoted tasks children → IsTrue children.complete → ids ≡ noted_of children creator → length tasks ≤ bound
    → (k : ℕ) → is_made_by tasks creator k ≡ true → IsSeen Some ids (length ids) k ↔ IsBelow bound k
children_found tasks children creator bound ids noted complete same few k is = (
  λ seen. (let within = made_within tasks creator k is in omega (arith, within, few)),
  λ below. subst (λ (list : List ℕ). IsSeen Some list (length list) k) (sym same)
      (noted_seen tasks children noted creator complete k is),
)

module _ (size : ℕ) (tasks : List (Option Task)) (a b : ℕ) where
  made_pulled : (second : Option Task) → is_made a second ≡ true
      → pulls_task size a (slice_index_or tasks a None) second ≡ true
  made_pulled None is = absurd (cc)
  made_pulled (Some y) is =
      or_left (is_creator a (live_creator y.creator)) (reads_from_some size (slice_index_or tasks a None) y) is

  -- of one access the test of a reader is that of a conflict
  one_read : (x y : Task) (access : Access) → is_dispatched y ≡ true → is_lt (key_cmp x.key y.key) ≡ true
      → (is_some access.new && has_touched y (access.offset / size))
      ≡ (is_some access.new && conflicts x (access.offset / size) true (Some y))
  one_read x y access runs later =
      ap (λ b. is_some access.new && b)
      (sym (ap (λ b. b && has_touched y (access.offset / size) && is_lt (key_cmp x.key y.key)) runs
      ∙ ap (λ b. has_touched y (access.offset / size) && b) later
      ∙ and_yes (has_touched y (access.offset / size))))

  -- so of a log
  all_read : (x y : Task) → is_dispatched y ≡ true → is_lt (key_cmp x.key y.key) ≡ true
      → tells_store size x.log y
      ≡ list_any (λ (access : Access). is_some access.new && conflicts x (access.offset / size) true (Some y)) x.log
  all_read x y runs later =
      any_told size y x.log
      ∙ ap (λ (test : Access → Bool). list_any test x.log) (λ i access. one_read x y access runs later i)

  -- a conflict of one access tells that the reader is dispatched and later
  is_later : (x y : Task)
      → list_any (λ (access : Access). is_some access.new && conflicts x (access.offset / size) true (Some y)) x.log
      ≡ true
      → (is_dispatched y ≡ true) × (is_lt (key_cmp x.key y.key) ≡ true)
  is_later x y is =
      let one = Any-from_list_any
      (λ (access : Access). is_some access.new && conflicts x (access.offset / size) true (Some y)) x.log is in
      let line = one.1.offset / size in
      let conflict = (and_parts (is_some one.1.new) (conflicts x line true (Some y)) one.4).1 in
      let parts = and_parts (is_dispatched y && has_touched y line) (is_lt (key_cmp x.key y.key)) conflict in
      ((and_parts (is_dispatched y) (has_touched y line) parts.0).0, parts.1)

  read_pulled : (first second : Option Task) → slice_index_or tasks b None ≡ second
      → is_read_from size tasks first b ≡ true → pulls_task size a first second ≡ true
  read_pulled None second at is = absurd (cc)
  read_pulled (Some x) second at is =
      let both = and_parts (is_dispatched x) (some_store_conflicts_at size tasks x x.log b) is in
      let any : list_any (λ (access : Access). is_some access.new && conflicts x (access.offset / size) true second)
      x.log
      ≡ true =
      subst (λ slot. list_any (λ (access : Access). is_some access.new && conflicts x (access.offset / size) true slot)
      x.log ≡ true) at both.1 in
      by_slot second any
    where
      by_slot : (slot : Option Task)
          → list_any (λ (access : Access). is_some access.new && conflicts x (access.offset / size) true slot) x.log
          ≡ true
          → pulls_task size a (Some x) slot ≡ true
      by_slot None any =
          let one = Any-from_list_any (λ (access : Access). is_some access.new && false) x.log any in
          absurd (cc (and_parts (is_some one.1.new) false one.4).1)
      by_slot (Some y) any =
          let later = is_later x y any in
          or_right (is_creator a (live_creator y.creator)) (reads_from size x y)
          (and_from (is_dispatched x && is_dispatched y && is_lt (key_cmp x.key y.key)) (tells_store size x.log y)
          (and_from (is_dispatched x && is_dispatched y) (is_lt (key_cmp x.key y.key))
          (and_from (is_dispatched x) (is_dispatched y) (and_parts (is_dispatched x)
          (some_store_conflicts_at size tasks x x.log b) is).0 later.0) later.1)
          (all_read x y later.0 later.1 ∙ any))

  -- what either test passes is pulled
  pub made_is_pulled : is_made_by tasks a b ≡ true → pull_in size tasks a b ≡ true
  made_is_pulled is = made_pulled (slice_index_or tasks b None) is

  pub read_is_pulled : is_read_at size tasks a b ≡ true → pull_in size tasks a b ≡ true
  read_is_pulled is = read_pulled (slice_index_or tasks a None) (slice_index_or tasks b None) refl is

  -- what is pulled passes one of the tests, and is dispatched where it passes the second
  pub record IsDispatchedReader : Type 0 where
    pub task : Task
    pub there : slice_index_or tasks b None ≡ Some task
    pub dispatched : is_dispatched task ≡ true
    pub read : is_read_at size tasks a b ≡ true

  reader_of : (x y : Task) → slice_index_or tasks a None ≡ Some x → slice_index_or tasks b None ≡ Some y
      → reads_from size x y ≡ true → IsDispatchedReader
  reader_of x y at_a at_b is =
      let one = and_parts (is_dispatched x && is_dispatched y && is_lt (key_cmp x.key y.key)) (tells_store size x.log y)
      is in
      let two = and_parts (is_dispatched x && is_dispatched y) (is_lt (key_cmp x.key y.key)) one.0 in
      let three = and_parts (is_dispatched x) (is_dispatched y) two.0 in
      record {
        task = y;
        there = at_b;
        dispatched = three.1;
        read = ap (λ first. is_read_from size tasks first b) at_a
            ∙ and_from (is_dispatched x) (some_store_conflicts_at size tasks x x.log b) three.0
            (ap (λ slot. list_any
            (λ (access : Access). is_some access.new && conflicts x (access.offset / size) true slot)
            x.log) at_b ∙ sym (all_read x y three.1 two.1) ∙ one.1);
      }

  by_slots : (first second : Option Task) → slice_index_or tasks a None ≡ first → slice_index_or tasks b None ≡ second
      → pulls_task size a first second ≡ true → (is_made_by tasks a b ≡ true) ⊎ IsDispatchedReader
  by_slots first None at_a at_b is = absurd (cc)
  by_slots first (Some y) at_a at_b is =
      elim (or_cases (is_creator a (live_creator y.creator)) (reads_from_some size first y) is) [
        | inl made ↦ inl (ap (is_made a) at_b ∙ made)
        | inr reads ↦ inr (by_writer first at_a reads)
      ]
    where
      by_writer : (writer : Option Task) → slice_index_or tasks a None ≡ writer → reads_from_some size writer y ≡ true
          → IsDispatchedReader
      by_writer None at reads = absurd (cc)
      by_writer (Some x) at reads = reader_of x y at at_b reads

  pub pulled_is : pull_in size tasks a b ≡ true → (is_made_by tasks a b ≡ true) ⊎ IsDispatchedReader
  pulled_is is = by_slots (slice_index_or tasks a None) (slice_index_or tasks b None) refl refl is

-- where the children of a task are found, and the readers of its stores, all is that it pulls
pub record HasSpread (count : ℕ) (pull : ℕ → ℕ → Bool) (node : ℕ) (old : List Bool) (before : List ℕ) (found : ℕ)
    (new : List Bool) (after : List ℕ) (now : ℕ) : Type 0 where
  pub spreads : Spreads count pull old new
  pub all : (b : ℕ) → b < length old → pull node b ≡ true → Marked new b
  pub listed : IsListOf new after now
  pub stay : (k : ℕ) → k < found → slice_index after k ≡ slice_index before k
  pub more : found ≤ now

pub spread_found : (size count node : ℕ) (tasks : List (Option Task)) (children : ChildrenValue)
    (tiles : Dispatched) → KnowsTasks tasks children tiles
    → (found mid now : ℕ) (old between new : List Bool) (before amid after : List ℕ) → length old ≡ count
    → Marked old node → IsListOf old before found
    → Finds (is_made_by tasks node) (IsBelow (length old)) found old before mid between amid
    → Finds (is_read_at size tasks node) (StandsIn tiles) mid between amid now new after
    → HasSpread count (pull_in size tasks) node old before found new after now
spread_found size count node tasks children tiles knows found mid now old between new before amid after same
    marked listed made read = record {
      spreads = record { stay = λ b at. (kept b at).1; reached = reached; size = read.size ∙ made.size };
      all = all;
      listed = read.listed (omega (arith, some, made.more, read.more));
      stay = λ k below. read.stay k (omega (arith, below, made.more)) ∙ made.stay k below;
      more = omega (arith, made.more, read.more);
    }
  where
    some : 0 < found
    some = (let place = listed.all node marked in let low = place.1 in omega (arith, low))

    kept : (b : ℕ) → Marked old b → IsMarkedIfFound now new b
    kept b at = (read.exact b).1 (inl ((made.exact b).1 (inl (some, at))))

    here : node < count
    here = (let within = marked_within old node marked in omega (arith, within, same))

    from_old : (b : ℕ) → Marked old b → Reached count (pull_in size tasks) (Marked old) b
    from_old b at = start b at

    pulled : (b : ℕ) → b < count → pull_in size tasks node b ≡ true
        → Reached count (pull_in size tasks) (Marked old) b
    pulled b within is = step b (start node marked) here within is

    within_new : (b : ℕ) → Marked new b → b < count
    within_new b at = (let within = marked_within new b at in omega (arith, within, same, read.size, made.size))

    reached : (b : ℕ) → Marked new b → Reached count (pull_in size tasks) (Marked old) b
    reached b at =
        let more : 0 < now = omega (arith, some, made.more, read.more) in
        elim ((read.exact b).0 (more, at)) [
          | inl was ↦ elim ((made.exact b).0 was) [
            | inl first ↦ start b first.1
            | inr child ↦ pulled b (within_new b at) (made_is_pulled size tasks node b child.1)
          ]
          | inr reader ↦ pulled b (within_new b at) (read_is_pulled size tasks node b reader.1)
        ]

    all : (b : ℕ) → b < length old → pull_in size tasks node b ≡ true → Marked new b
    all b below is = elim (pulled_is size tasks node b is) [
      | inl child ↦ ((read.exact b).1 (inl ((made.exact b).1 (inr (below, child))))).1
      | inr reader ↦ ((read.exact b).1
          (inr (knows.dispatched b reader.task reader.there reader.dispatched, reader.read))).1
    ]
