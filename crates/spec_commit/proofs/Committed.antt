-- The least task leaves by a commit, and its children have a committed creator.
use Rattle.std.proofs.Common.{◌≡◌, ◌≢◌, ◌⊎◌, ◌<◌, ◌≤◌, ◌+◌, ◌∷◌, ◌++◌, ◌==◌, ℕ, Bool, true, false, cond, List, []}
use Rattle.std.proofs.Common.{length, Option, Some, None, refl, sym, ap, subst, ◌∙◌, inl, inr, arith, slice_get}
use Rattle.std.proofs.Common.{slice_index_or}
use Rattle.std.specs.Prelude.{IsTrue, count_by, is_some, if◌then◌else◌}
use Rattle.std.proofs.lemmas.Bool.{cases_eq, ne_eqb}
use Rattle.std.proofs.lemmas.Bool.Decides.{nat_tests}
use Rattle.std.proofs.lemmas.List.{length_push}
use Rattle.commit_arbiter.specs.declared.candidate.Candidate.{Candidate}
use Rattle.fractal_vt.specs.declared.level.Level.{Level}
use Rattle.run_journal.specs.declared.journal.Entry.{Entry}
use Rattle.tile_queues.specs.Queue.{QueueValue}
use Rattle.spec_state.specs.declared.settings.Settings.{Settings}
use Rattle.spec_state.specs.declared.task.Creator.{Creator}
use Rattle.spec_state.specs.declared.task.Creator.TheVariants.{Committed, Live}
use Rattle.spec_state.specs.declared.task.Status.TheVariants.{Finished}
use Rattle.spec_state.specs.declared.task.Task.{Task}
use Rattle.spec_state.specs.Changes.{Commits, creator_after, after_commit}
use Rattle.spec_state.specs.Children.{AreNoted, ChildrenValue, IsChildAt, noted_of}
use Rattle.spec_state.specs.Fits.{HasSlots, SlotCounts}
use Rattle.spec_state.specs.Least.{IsLeastTask}
use Rattle.spec_state.specs.Leaving.{TaskLeaves}
use Rattle.spec_state.specs.Stored.{IsStored, IsWellFormed, IsIndexed}
use Rattle.spec_state.specs.Tasks.{depth_of, own_level}
use Rattle.spec_state.specs.View.{View, task_at}
use Rattle.spec_state.proofs.Proved.{AreKept, formed_later, indexed_kept, keeps_none, KeepsKey, KeepsPlace, kept_all}
use Rattle.spec_state.proofs.Proved.{same_place, slots_kept, stored_kept}
use Rattle.spec_commit.specs.Committing.{IsAdoptedOrSame, after_adoption}
use Rattle.spec_commit.proofs.Moving.{cores_stay}

-- with more in the journal what is stored is stored still
pub stored_longer : (size : ℕ) (view : View) (history : List Entry) (output : List ℕ) (path : List Level)
    → IsStored size view → length view.history ≤ length history
    → IsStored size (record view { history = history; output = output; path = path })
stored_longer size view history output path stored longer =
    stored_kept size view (record view { history = history; output = output; path = path }) stored
    (kept_all KeepsPlace (λ t. same_place t t refl refl) view.tasks) refl refl refl stored.memory
    (λ id task at. formed_later size (length view.history) (length history) task longer (stored.tasks id task at))

-- a task, once the children of the one of this id are adopted
abbrev child_of : ℕ → ℕ → Task → Task
child_of id n task = record task { creator = creator_after id n task.creator }

was_adopted : (id n : ℕ) (o : Option Task) (t : Task) → after_adoption id n o ≡ Some t
    → (x : Task) × (o ≡ Some x) × (child_of id n x ≡ t)
was_adopted id n None t is = absurd (cc (is))
was_adopted id n (Some x) t is = (x, refl, (let same : child_of id n x ≡ t = cc in same))

adopted_turn : (id n bound turn index : ℕ) (creator : Creator) → n ≤ bound
    → ((t i : ℕ) → creator ≡ Committed t i → t ≤ bound) → creator_after id n creator ≡ Committed turn index
    → turn ≤ bound
adopted_turn id n bound turn index (Committed t i) upto was is = was turn index is
adopted_turn id n bound turn index (Live task i) upto was is = go (task.0 == id) is
  where
    go : (b : Bool) → (if b then Committed n i else Live task i) ≡ Committed turn index → turn ≤ bound
    go true is = (let same : n ≡ turn = cc in omega (arith, same, upto))
    go false is = absurd (cc (is))

-- a child is adopted once
once : (id n : ℕ) (creator : Creator) → creator_after id n (creator_after id n creator) ≡ creator_after id n creator
once id n (Committed turn index) = refl
once id n (Live task index) = go (task.0 == id) refl
  where
    go : (b : Bool) → (task.0 == id) ≡ b
        → creator_after id n (if b then Committed n index else Live task index) ≡ (if b then Committed n index else Live task index)
    go true is = refl
    go false is = ap (λ t. cond t (Committed n index) (Live task index)) is

pub adopted_once : (id n : ℕ) (o : Option Task) → after_adoption id n (after_adoption id n o) ≡ after_adoption id n o
adopted_once id n None = refl
adopted_once id n (Some t) = ap (λ creator. Some (record t { creator = creator })) (once id n t.creator)

-- what is adopted is no child any more
pub adopted_is_no_child : (id n place : ℕ) (o : Option Task) → IsChildAt id place (after_adoption id n o) → ⊥
adopted_is_no_child id n place None is = absurd (cc (is.there))
adopted_is_no_child id n place (Some t) is =
    let same : child_of id n t ≡ is.child = cc (is.there) in
    by_creator t.creator (ap (λ (x : Task). x.creator) same ∙ is.made_by)
  where
    by_creator : (creator : Creator) → creator_after id n creator ≡ Live (record { 0 = id }) place → ⊥
    by_creator (Committed turn index) at = absurd (cc (at))
    by_creator (Live task index) at = go (task.0 == id) refl at
      where
        go : (b : Bool) → (task.0 == id) ≡ b
            → (if b then Committed n index else Live task index) ≡ Live (record { 0 = id }) place → ⊥
        go true was at = absurd (cc (at))
        go false was at =
            let own : task.0 ≡ id = cc in
            let is : (task.0 == id) ≡ true = grind (arith, nat_tests) in
            absurd (cc (was, is))

-- a task is a child of this one, at some place, or it is the same once it is adopted
pub child_or_same : (id n : ℕ) (o : Option Task) → ((place : ℕ) × IsChildAt id place o) ⊎ (after_adoption id n o ≡ o)
child_or_same id n None = inr refl
child_or_same id n (Some t) = by_creator t.creator refl
  where
    by_creator : (creator : Creator) → t.creator ≡ creator
        → ((place : ℕ) × IsChildAt id place (Some t)) ⊎ (Some (child_of id n t) ≡ Some t)
    by_creator (Committed turn index) is =
        inr (ap (λ c. Some (record t { creator = c })) (ap (creator_after id n) is ∙ sym is))
    by_creator (Live task index) is = elim (cases_eq task.0 id) [
      | inl own ↦ inl (index, record { child = t; there = refl; made_by = is ∙ ap (λ k. Live (record { 0 = k }) index) own })
      | inr other ↦
          let stays : creator_after id n (Live task index) ≡ Live task index = ap (λ b. cond b (Committed n index) (Live task index)) (ne_eqb task.0 id other) in
          inr (ap (λ c. Some (record t { creator = c })) (ap (creator_after id n) is ∙ stays ∙ sym is))
    ]

-- where all that is noted for the task was adopted, all its children are
pub all_adopted : (id n : ℕ) (tasks now : List (Option Task)) (children : ChildrenValue) (keys : List ℕ)
    → AreNoted tasks children
    → IsTrue children.complete → keys ≡ noted_of children id
    → ((k : ℕ) → IsAdoptedOrSame id n (slice_index_or tasks k None) (slice_index_or now k None))
    → ((place k : ℕ) → slice_get keys place ≡ Some k → slice_index_or now k None ≡ after_adoption id n (slice_index_or tasks k None))
    → (k : ℕ) → slice_index_or now k None ≡ after_adoption id n (slice_index_or tasks k None)
all_adopted id n tasks now children keys noted complete are each found k = elim (each k) [
  | inr is ↦ is
  | inl same ↦ elim (child_or_same id n (slice_index_or tasks k None)) [
    | inr stays ↦ same ∙ sym stays
    | inl child ↦ found child.0 k (ap (λ ids. slice_get ids child.0) are ∙ noted complete k id child.0 child.1)
  ]
]

-- what is a child once others are adopted was one before
was_child : (id n c place : ℕ) (o : Option Task) → IsChildAt c place (after_adoption id n o) → IsChildAt c place o
was_child id n c place None is = is
was_child id n c place (Some t) is =
    let same : child_of id n t ≡ is.child = cc (is.there) in
    record { child = t; there = refl; made_by = by_creator t.creator (ap (λ (x : Task). x.creator) same ∙ is.made_by) }
  where
    by_creator : (creator : Creator) → creator_after id n creator ≡ Live (record { 0 = c }) place
        → creator ≡ Live (record { 0 = c }) place
    by_creator (Committed turn index) at = absurd (cc (at))
    by_creator (Live task index) at = go (task.0 == id) at
      where
        go : (b : Bool) → (if b then Committed n index else Live task index) ≡ Live (record { 0 = c }) place
            → Live task index ≡ Live (record { 0 = c }) place
        go true at = absurd (cc (at))
        go false at = at

-- the children of all others are noted as before
pub noted_adopted : (id n : ℕ) (tasks now : List (Option Task)) (children after : ChildrenValue)
    → ((k : ℕ) → slice_index_or now k None ≡ after_adoption id n (slice_index_or tasks k None))
    → after.complete ≡ children.complete → ((k : ℕ) → k ≢ id → noted_of after k ≡ noted_of children k)
    → AreNoted tasks children → AreNoted now after
noted_adopted id n tasks now children after each same others noted complete k c place is =
    let here : IsChildAt c place (after_adoption id n (slice_index_or tasks k None)) =
    subst (IsChildAt c place) (each k) is in
    elim (cases_eq c id) [
      | inl own ↦ absurd (adopted_is_no_child id n place (slice_index_or tasks k None) (subst (λ j. IsChildAt j place (after_adoption id n (slice_index_or tasks k None))) own here))
      | inr other ↦
          ap (λ ids. slice_get ids place) (others c other)
          ∙ noted (subst IsTrue same complete) k c place (was_child id n c place (slice_index_or tasks k None) here)
    ]

-- the children that were adopted so far, and then all: all are
pub then_all : (id n : ℕ) (old mid new : Option Task) → IsAdoptedOrSame id n old mid → new ≡ after_adoption id n mid
    → new ≡ after_adoption id n old
then_all id n old mid new (inl same) is = is ∙ ap (after_adoption id n) same
then_all id n old mid new (inr was) is = is ∙ ap (after_adoption id n) was ∙ adopted_once id n old

-- what was done to the slots of a state is done to the tasks of its view
pub adopts_seen : (slots now : List (Option Task)) (view : View) (id n : ℕ) → slots ≡ view.tasks
    → n ≡ length view.history
    → ((k : ℕ) → slice_index_or now k None ≡ after_adoption id n (slice_index_or slots k None))
    → (k : ℕ) → slice_index_or now k None ≡ after_adoption id (length view.history) (task_at view k)
adopts_seen slots now view id n same turn adopts k =
    adopts k
    ∙ ap (λ t. after_adoption id t (slice_index_or slots k None)) turn
    ∙ ap (λ tasks. after_adoption id (length view.history) (slice_index_or tasks k None)) same

-- what stands under one more id is adopted
module _ (id n place key : ℕ) (keys : List ℕ) (old now new : ℕ → Option Task) (here : slice_get keys place ≡ Some key)
    (each : (k : ℕ) → IsAdoptedOrSame id n (old k) (now k))
    (noted : (p k : ℕ) → p < place → slice_get keys p ≡ Some k → now k ≡ after_adoption id n (old k))
    (changed : new key ≡ after_adoption id n (now key)) (others : (k : ℕ) → k ≢ key → new k ≡ now k) where
  own : new key ≡ after_adoption id n (old key)
  own = then_all id n (old key) (now key) (new key) (each key) changed

  pub each_more : (k : ℕ) → IsAdoptedOrSame id n (old k) (new k)
  each_more k = elim (cases_eq k key) [
    | inl same ↦ subst (λ j. IsAdoptedOrSame id n (old j) (new j)) (sym same) (inr own)
    | inr other ↦ subst (IsAdoptedOrSame id n (old k)) (sym (others k other)) (each k)
  ]

  pub noted_more : (p k : ℕ) → p < place + 1 → slice_get keys p ≡ Some k → new k ≡ after_adoption id n (old k)
  noted_more p k below at = elim (cases_eq k key) [
    | inl same ↦ subst (λ j. new j ≡ after_adoption id n (old j)) (sym same) own
    | inr other ↦ elim (cases_eq p place) [
      | inl last ↦
          let both : Some k ≡ Some key = sym at ∙ ap (slice_get keys) last ∙ here in
          let one : k ≡ key = cc in
          absurd (other one)
      | inr before ↦ others k other ∙ noted p k (grind arith) at
    ]
  ]

module _ (id n : ℕ) (tasks now : List (Option Task)) (each : (k : ℕ) → IsAdoptedOrSame id n (slice_index_or tasks k None) (slice_index_or now k None)) where
  adopted_kept : (stands : Task → Task → Type 0) → ((x : Task) → stands x x) → ((x : Task) → stands x (child_of id n x))
      → AreKept stands tasks now
  adopted_kept stands stays so = record {
    forth = λ k t at. elim (each k) [
      | inl same ↦ (t, same ∙ at, stays t)
      | inr is ↦ (child_of id n t, is ∙ ap (after_adoption id n) at, so t)
    ];
    back = λ k m at. elim (each k) [
      | inl same ↦ (m, sym same ∙ at, stays m)
      | inr is ↦ (let was = was_adopted id n (slice_index_or tasks k None) m (sym is ∙ at) in (was.0, was.1, subst (stands was.0) was.2 (so was.0)))
    ];
  }

  pub indexed_adopted : (queues : List (List ℕ)) (arrivals : List ℕ) (next : ℕ) (listed : List Candidate)
      → IsIndexed tasks queues arrivals next listed → IsIndexed now queues arrivals next listed
  indexed_adopted queues arrivals next listed =
      indexed_kept tasks now queues arrivals next listed (adopted_kept KeepsKey (λ x. record { tile = refl; key = refl }) (λ x. record { tile = refl; key = refl }))

pub stored_adopted : (size id n : ℕ) (old : View) (now : List (Option Task))
    → ((k : ℕ) → IsAdoptedOrSame id n (task_at old k) (slice_index_or now k None))
    → n ≤ length old.history → IsStored size old → IsStored size (record old { tasks = now })
stored_adopted size id n old now each upto stored =
    stored_kept size old (record old { tasks = now }) stored
    (adopted_kept id n old.tasks now each KeepsPlace (λ x. same_place x x refl refl) (λ x. same_place x (child_of id n x) refl refl)) refl refl refl stored.memory
    (λ k t at. elim (each k) [
      | inl same ↦ stored.tasks k t (sym same ∙ at)
      | inr is ↦ (let was = was_adopted id n (task_at old k) t (sym is ∙ at) in
          subst (IsWellFormed size (length old.history)) was.2 (formed was.0 (stored.tasks k was.0 was.1)))
    ])
  where
    formed : (x : Task) → IsWellFormed size (length old.history) x
        → IsWellFormed size (length old.history) (child_of id n x)
    formed x is = record {
      depth = is.depth;
      kinds = is.kinds;
      inner = is.inner;
      children = is.children;
      accesses = is.accesses;
      dispatched = is.dispatched;
      turn = λ turn index same. adopted_turn id n (length old.history) turn index x.creator upto is.turn same;
    }

-- slots and candidates are as many as they should be
pub slots_adopted : (settings : Settings) (tasks now : List (Option Task)) (queues : List QueueValue)
    (counts : SlotCounts) (slots_now : ℕ) → HasSlots settings tasks queues counts
    → count_by is_some now ≡ count_by is_some tasks → slots_now ≡ counts.slots
    → HasSlots settings now queues (record counts { slots = slots_now })
slots_adopted settings tasks now queues counts slots_now has same same_slots =
    subst (λ n. HasSlots settings now queues (record counts { slots = n })) (sym same_slots)
    (slots_kept settings tasks now queues counts counts.indexed counts.capacity has same (omega arith) refl)

after_others : (id n k : ℕ) (o : Option Task) → k ≢ id → after_commit id n k o ≡ after_adoption id n o
after_others id n k None other = refl
after_others id n k (Some t) other = ap (λ b. cond b None (Some (child_of id n t))) (ne_eqb k id other)

after_own : (id n k : ℕ) (o : Option Task) → k ≡ id → after_commit id n k o ≡ None
after_own id n k None same = refl
after_own id n k (Some t) same =
    (let is : (k == id) ≡ true = grind (arith, nat_tests) in ap (λ b. cond b None (Some (child_of id n t))) is)

module _ (size id : ℕ) (old left noted new : View) (task : Task) (entry : Entry) (stored : IsStored size old) (there : task_at old id ≡ Some task) (leaves : TaskLeaves id old left)
    (noted_is : noted ≡ record left { history = left.history ++ entry ∷ []; output = left.output ++ task.bytes; path = task.key.domain ++ own_level task ∷ [] })
    (adopts : (k : ℕ) → task_at new k ≡ after_adoption id (length noted.history) (task_at noted k))
    (rest : new ≡ record noted { tasks = new.tasks })
    (named : (turn index : ℕ) → task.creator ≡ Committed turn index → entry ≡ record { name = record { creator = turn; index = index }; depth = depth_of task; ts = task.key.ts }) where
  noted_at : (k : ℕ) → task_at noted k ≡ task_at left k
  noted_at k = ap (λ v. task_at v k) noted_is

  count : length noted.history ≡ length old.history + 1
  count =
      ap (λ (v : View). length v.history) noted_is ∙ length_push left.history entry
      ∙ ap (λ (v : View). length v.history + 1) leaves.frame

  each : (k : ℕ) → task_at new k ≡ after_commit id (length old.history + 1) k (task_at old k)
  each k =
      adopts k
      ∙ ap (λ n. after_adoption id n (task_at noted k)) count
      ∙ ap (after_adoption id (length old.history + 1)) (noted_at k)
      ∙ go (cases_eq k id)
    where
      go : (k ≡ id) ⊎ (k ≢ id)
          → after_adoption id (length old.history + 1) (task_at left k) ≡ after_commit id (length old.history + 1) k (task_at old k)
      go (inl same) =
          ap (after_adoption id (length old.history + 1)) (ap (task_at left) same ∙ leaves.changes.changed)
          ∙ sym (after_own id (length old.history + 1) k (task_at old k) same)
      go (inr other) =
          ap (after_adoption id (length old.history + 1)) (leaves.changes.others k other)
          ∙ sym (after_others id (length old.history + 1) k (task_at old k) other)

  history : new.history ≡ old.history ++ entry ∷ []
  history =
      ap (λ (v : View). v.history) rest ∙ ap (λ (v : View). v.history) noted_is
      ∙ ap (λ (v : View). v.history ++ entry ∷ []) leaves.frame

  output : new.output ≡ old.output ++ task.bytes
  output =
      ap (λ (v : View). v.output) rest ∙ ap (λ (v : View). v.output) noted_is
      ∙ ap (λ (v : View). v.output ++ task.bytes) leaves.frame

  path : new.path ≡ task.key.domain ++ own_level task ∷ []
  path = ap (λ (v : View). v.path) rest ∙ ap (λ (v : View). v.path) noted_is

  queues : new.queues ≡ left.queues
  queues = ap (λ (v : View). v.queues) rest ∙ ap (λ (v : View). v.queues) noted_is

  finished : new.finished ≡ left.finished
  finished = ap (λ (v : View). v.finished) rest ∙ ap (λ (v : View). v.finished) noted_is

  committed_task : IsLeastTask old id task → task.status ≡ Finished → (turn index : ℕ)
      → task.creator ≡ Committed turn index
      → Commits old new × (new.history ≡ old.history ++ entry ∷ [])
  committed_task least done turn index creator =
      let cores : left.cores ≡ old.cores = leaves.cores ∙ cores_stay size old stored id task there (keeps_none task.status (inr done)) in (
        record {
          id = id;
          task = task;
          least = least;
          finished_is = done;
          turn = turn;
          index = index;
          creator = creator;
          each = each;
          history = history ∙ ap (λ e. old.history ++ e ∷ []) (named turn index creator);
          output = output;
          path = path;
          queues = queues ∙ leaves.queues;
          finished = finished ∙ leaves.finished;
          frame =
              ap (λ (v : View). record v { tasks = new.tasks; history = new.history; output = new.output; path = new.path; queues = new.queues; finished = new.finished }) rest
              ∙ ap (λ (v : View). record v { tasks = new.tasks; history = new.history; output = new.output; path = new.path; queues = new.queues; finished = new.finished }) noted_is
              ∙ ap (λ (v : View). record v { tasks = new.tasks; history = new.history; output = new.output; path = new.path; queues = new.queues; finished = new.finished }) leaves.frame
              ∙ ap (λ cores. record old { tasks = new.tasks; history = new.history; output = new.output; path = new.path; queues = new.queues; finished = new.finished; cores = cores }) cores;
        },
        history,
      )

-- a commit by its parts
pub commits : (size id : ℕ) (old made left noted new : View) (task : Task) (entry : Entry) → made ≡ old
    → IsStored size made → task_at made id ≡ Some task → TaskLeaves id made left
    → noted ≡ record left { history = left.history ++ entry ∷ []; output = left.output ++ task.bytes; path = task.key.domain ++ own_level task ∷ [] }
    → ((k : ℕ) → task_at new k ≡ after_adoption id (length noted.history) (task_at noted k))
    → new ≡ record noted { tasks = new.tasks }
    → ((turn index : ℕ) → task.creator ≡ Committed turn index → entry ≡ record { name = record { creator = turn; index = index }; depth = depth_of task; ts = task.key.ts })
    → (t : Task) × IsLeastTask old id t × (t.status ≡ Finished) × ((turn : ℕ) × (index : ℕ) × (t.creator ≡ Committed turn index))
    → Commits old new × (new.history ≡ old.history ++ entry ∷ [])
commits size id old made left noted new task entry same stored there leaves noted_is adopts rest named least =
    let there_old : task_at old id ≡ Some task = subst (λ v. task_at v id ≡ Some task) same there in
    let both : Some least.0 ≡ Some task = sym least.1.queued_at.there ∙ there_old in
    let one : least.0 ≡ task = cc in
    committed_task size id old left noted new task entry (subst (IsStored size) same stored) there_old (subst (λ v. TaskLeaves id v left) same leaves) noted_is adopts rest named
    (subst (IsLeastTask old id) one least.1) (ap (λ (t : Task). t.status) (sym one) ∙ least.2) least.3.0 least.3.1 (ap (λ (t : Task). t.creator) (sym one) ∙ least.3.2)

-- a commit whose entry joins the journal before its task leaves
pub commits_entered : (size id : ℕ) (old made recorded left new : View) (task : Task) (entry : Entry) → made ≡ old
    → IsStored size made → task_at made id ≡ Some task
    → recorded ≡ record made { history = made.history ++ entry ∷ []; output = made.output ++ task.bytes; path = task.key.domain ++ own_level task ∷ [] }
    → TaskLeaves id recorded left
    → ((k : ℕ) → task_at new k ≡ after_adoption id (length left.history) (task_at left k))
    → new ≡ record left { tasks = new.tasks }
    → ((turn index : ℕ) → task.creator ≡ Committed turn index → entry ≡ record { name = record { creator = turn; index = index }; depth = depth_of task; ts = task.key.ts })
    → (t : Task) × IsLeastTask old id t × (t.status ≡ Finished) × ((turn : ℕ) × (index : ℕ) × (t.creator ≡ Committed turn index))
    → Commits old new × (new.history ≡ old.history ++ entry ∷ [])
commits_entered size id old made recorded left new task entry same stored there recorded_is leaves adopts rest named least =
    let noted = record made { history = made.history ++ entry ∷ []; output = made.output ++ task.bytes; path = task.key.domain ++ own_level task ∷ [] } in
    let goes : TaskLeaves id noted left = subst (λ v. TaskLeaves id v left) recorded_is leaves in
    let before : View = record left { history = made.history; output = made.output; path = made.path } in
    let gone : TaskLeaves id made before = record {
      changes = record { changed = goes.changes.changed; others = goes.changes.others };
      queues = goes.queues;
      finished = goes.finished;
      cores = goes.cores;
      frame = ap (λ (v : View). record v { history = made.history; output = made.output; path = made.path }) goes.frame;
    } in
    let after : left ≡ record before { history = before.history ++ entry ∷ []; output = before.output ++ task.bytes; path = task.key.domain ++ own_level task ∷ [] } =
    goes.frame
    ∙ sym (ap (λ (v : View). record v { history = made.history ++ entry ∷ []; output = made.output ++ task.bytes; path = task.key.domain ++ own_level task ∷ [] }) goes.frame) in
    commits size id old made before left new task entry same stored there gone after adopts rest named least
