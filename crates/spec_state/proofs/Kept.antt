-- What a change of tasks leaves as it is: where each task keeps its tile and its place, the lists still hold what they
-- should, and where each keeps its tile and its key, so does the index.
use Rattle.std.proofs.Common.{cond, ◌≡◌, ◌≢◌, ◌⊎◌, ◌<◌, ◌≤◌, ◌+◌, ◌^◌, ℕ, List, [], length, Option, Some, None, refl}
use Rattle.std.proofs.Common.{sym, ap, subst, ◌∙◌, inl, inr, arith, slice_get, slice_index_or}
use Rattle.std.specs.Prelude.{◌↔◌, Contains, IsSome, slice_set, is_some, count_by}
use Rattle.std.proofs.lemmas.Bool.{cases_eq}
use Rattle.std.proofs.lemmas.List.{get_or-set_same, get_or-set_other}
use Rattle.std.proofs.lemmas.List.Sums.{sum_by-set}
use Rattle.commit_arbiter.specs.declared.candidate.Candidate.{Candidate}
use Rattle.fractal_vt.specs.declared.key.Key.{Key}
use Rattle.rv_core.specs.declared.state.Core.{Core}
use Rattle.task_desc.specs.declared.calls.TheConstants.{MAX_CHILDREN, MAX_DEPTH}
use Rattle.tile_queues.specs.Queue.{QueueValue}
use Rattle.undo_log.specs.Undo.{AllAccessible}
use Rattle.spec_state.specs.declared.settings.Settings.{Settings}
use Rattle.spec_state.specs.declared.task.Status.{Status}
use Rattle.spec_state.specs.declared.task.Status.TheVariants.{Idle, Running, Trapped, Finished}
use Rattle.spec_state.specs.declared.task.Task.{Task}
use Rattle.spec_state.specs.Fits.{HasSlots, SlotCounts}
use Rattle.spec_state.specs.Stored.{HasCore, HasTask, IsWellFormed, IsStored, IsIndexed, candidate_of}
use Rattle.spec_state.specs.Tasks.{depth_of, kept_core}
use Rattle.spec_state.specs.View.{View, task_at, ChangesTask}
use Rattle.spec_state.proofs.Renumbered.{below_slots}

-- the second task stands where the first did: in the same tile, and on the same core or among the finished ones
pub record KeepsPlace (was now : Task) : Type 0 where
  pub tile : now.tile ≡ was.tile
  pub core : (core : ℕ) → HasCore was.status core ↔ HasCore now.status core
  pub finished : (was.status ≡ Finished) ↔ (now.status ≡ Finished)

-- the second task stands in the index as the first did
pub record KeepsKey (was now : Task) : Type 0 where
  pub tile : now.tile ≡ was.tile
  pub key : now.key ≡ was.key

-- each task is there still, as one that stands so to it, and no other is
pub record AreKept (stands : Task → Task → Type 0) (old now : List (Option Task)) : Type 0 where
  pub forth : (k : ℕ) (t : Task) → slice_index_or old k None ≡ Some t
      → (n : Task) × (slice_index_or now k None ≡ Some n) × stands t n
  pub back : (k : ℕ) (n : Task) → slice_index_or now k None ≡ Some n
      → (t : Task) × (slice_index_or old k None ≡ Some t) × stands t n

pub same_place : (was now : Task) → now.tile ≡ was.tile → now.status ≡ was.status → KeepsPlace was now
same_place was now tile status = record {
  tile = tile;
  core = λ core. (subst (λ s. HasCore s core) (sym status), subst (λ s. HasCore s core) status);
  finished = (λ has. status ∙ has, λ has. sym status ∙ has);
}

-- what runs on a core and is then trapped there keeps its place
pub trapped_place : (was now : Task) (core cause : ℕ) → now.tile ≡ was.tile → was.status ≡ Running core
    → now.status ≡ Trapped core cause → KeepsPlace was now
trapped_place was now core cause tile runs trapped = record {
  tile = tile;
  core = λ k. (
    λ has. subst (λ s. HasCore s k) (sym trapped) (subst (λ s. HasCore s k) runs has),
    λ has. subst (λ s. HasCore s k) (sym runs) (subst (λ s. HasCore s k) trapped has),
  );
  finished = (λ has. absurd (cc (runs, has)), λ has. absurd (cc (trapped, has)));
}

-- one task is another, and all others stay
pub kept_but_one : (stands : Task → Task → Type 0) → ((t : Task) → stands t t)
    → (old now : List (Option Task)) (id : ℕ) (task changed : Task) → slice_index_or old id None ≡ Some task
    → slice_index_or now id None ≡ Some changed
    → ((k : ℕ) → k ≢ id → slice_index_or now k None ≡ slice_index_or old k None) → stands task changed
    → AreKept stands old now
kept_but_one stands same old now id task changed there here others so =
    record { forth = λ k t at. forth k t at (cases_eq k id); back = λ k n at. back k n at (cases_eq k id) }
  where
    forth : (k : ℕ) (t : Task) → slice_index_or old k None ≡ Some t → (k ≡ id) ⊎ (k ≢ id)
        → (n : Task) × (slice_index_or now k None ≡ Some n) × stands t n
    forth k t at (inr other) = (t, others k other ∙ at, same t)
    forth k t at (inl own) =
        let both : Some t ≡ Some task = sym at ∙ ap (λ j. slice_index_or old j None) own ∙ there in
        let one : t ≡ task = cc in
        (changed, ap (λ j. slice_index_or now j None) own ∙ here, subst (λ x. stands x changed) (sym one) so)

    back : (k : ℕ) (n : Task) → slice_index_or now k None ≡ Some n → (k ≡ id) ⊎ (k ≢ id)
        → (t : Task) × (slice_index_or old k None ≡ Some t) × stands t n
    back k n at (inr other) = (n, sym (others k other) ∙ at, same n)
    back k n at (inl own) =
        let both : Some n ≡ Some changed = sym at ∙ ap (λ j. slice_index_or now j None) own ∙ here in
        let one : n ≡ changed = cc in
        (task, ap (λ j. slice_index_or old j None) own ∙ there, subst (stands task) (sym one) so)

-- all tasks stay
pub kept_all : (stands : Task → Task → Type 0) → ((t : Task) → stands t t) → (tasks : List (Option Task))
    → AreKept stands tasks tasks
kept_all stands same tasks = record { forth = λ k t at. (t, at, same t); back = λ k n at. (n, at, same n) }

-- the lists still hold what they should
module _ (size : ℕ) (old now : View) (stored : IsStored size old) (kept : AreKept KeepsPlace old.tasks now.tasks) (queues : now.queues ≡ old.queues) (finished : now.finished ≡ old.finished)
    (cores : now.cores ≡ old.cores) where
  there_forth : (was is : Status → Type 0) → ((t n : Task) → KeepsPlace t n → was t.status → is n.status)
      → (tile id : ℕ) → HasTask old tile id was → HasTask now tile id is
  there_forth was is stays tile id (t, at, own, kind) =
      let n = kept.forth id t at in
      (n.0, n.1, n.2.tile ∙ own, stays t n.0 n.2 kind)

  there_back : (was is : Status → Type 0) → ((t n : Task) → KeepsPlace t n → is n.status → was t.status) → (tile id : ℕ)
      → HasTask now tile id is → HasTask old tile id was
  there_back was is stays tile id (n, at, own, kind) =
      let t = kept.back id n at in
      (t.0, t.1, sym t.2.tile ∙ own, stays t.0 n t.2 kind)

  pub stored_kept : length now.memory ≡ size
      → ((id : ℕ) (task : Task) → task_at now id ≡ Some task → IsWellFormed size (length now.history) task)
      → IsStored size now
  stored_kept memory formed = record {
    queued_are = λ tile id. (
      λ has. there_forth (λ status. Unit {0}) (λ status. Unit {0}) (λ t n keeps any. tt) tile id
          ((stored.queued_are tile id).0 (subst (λ lists. Contains (slice_index_or lists tile []) id) queues has)),
      λ is. subst (λ lists. Contains (slice_index_or lists tile []) id) (sym queues)
          ((stored.queued_are tile id).1 (there_back (λ status. Unit {0}) (λ status. Unit {0}) (λ t n keeps any. tt) tile id is)),
    );
    finished_are = λ tile id. (
      λ has. there_forth (λ status. status ≡ Finished) (λ status. status ≡ Finished) (λ t n keeps. keeps.finished.0) tile id
          ((stored.finished_are tile id).0 (subst (λ lists. Contains (slice_index_or lists tile []) id) finished has)),
      λ is. subst (λ lists. Contains (slice_index_or lists tile []) id) (sym finished)
          ((stored.finished_are tile id).1 (there_back (λ status. status ≡ Finished) (λ status. status ≡ Finished) (λ t n keeps. keeps.finished.1) tile id is)),
    );
    held_are = λ tile core id. (
      λ at. there_forth (λ status. HasCore status core) (λ status. HasCore status core) (λ t n keeps. (keeps.core core).0) tile id
          ((stored.held_are tile core id).0 (subst (λ lists. slice_get (slice_index_or lists tile []) core ≡ Some (Some id)) cores at)),
      λ is. subst (λ lists. slice_get (slice_index_or lists tile []) core ≡ Some (Some id)) (sym cores)
          ((stored.held_are tile core id).1 (there_back (λ status. HasCore status core) (λ status. HasCore status core) (λ t n keeps. (keeps.core core).1) tile id is)),
    );
    tasks = formed;
    memory = memory;
  }

-- where one task is another in its place, which is well formed
pub stored_but_one : (size : ℕ) (old now : View) (id : ℕ) (task changed : Task) → IsStored size old
    → task_at old id ≡ Some task → ChangesTask old now id (Some changed)
    → now.queues ≡ old.queues → now.finished ≡ old.finished → now.cores ≡ old.cores
    → length now.history ≡ length old.history → length now.memory ≡ length old.memory
    → KeepsPlace task changed → IsWellFormed size (length old.history) changed → IsStored size now
stored_but_one size old now id task changed stored there changes queues finished cores history memory keeps formed =
    stored_kept size old now stored
    (kept_but_one KeepsPlace (λ t. same_place t t refl refl) old.tasks now.tasks id task changed there changes.changed changes.others keeps) queues finished cores (memory ∙ stored.memory)
    (λ k t at. subst (λ commits. IsWellFormed size commits t) (sym history) (by_id k t at (cases_eq k id)))
  where
    by_id : (k : ℕ) (t : Task) → task_at now k ≡ Some t → (k ≡ id) ⊎ (k ≢ id) → IsWellFormed size (length old.history) t
    by_id k t at (inr other) = stored.tasks k t (sym (changes.others k other) ∙ at)
    by_id k t at (inl own) =
        let both : Some t ≡ Some changed = sym at ∙ ap (task_at now) own ∙ changes.changed in
        let one : t ≡ changed = cc in
        subst (IsWellFormed size (length old.history)) (sym one) formed

-- the index still holds what it should
pub indexed_kept : (old now : List (Option Task)) (queues : List (List ℕ)) (arrivals : List ℕ) (next : ℕ) (listed : List Candidate)
    → AreKept KeepsKey old now
    → IsIndexed old queues arrivals next listed → IsIndexed now queues arrivals next listed
indexed_kept old now queues arrivals next listed kept is = record {
  all =
      λ id n at. (let t = kept.back id n at in subst (Contains listed) (sym (same_candidate id t.0 n t.2)) (is.all id t.0 t.1));
  each =
      λ e has. (let was = is.each e has in let n = kept.forth e.id was.0 was.1 in (n.0, n.1, was.2 ∙ sym (same_candidate e.id was.0 n.0 n.2)));
  early = is.early;
  rising = is.rising;
}
  where
    same_candidate : (id : ℕ) (t n : Task) → KeepsKey t n → candidate_of arrivals id n ≡ candidate_of arrivals id t
    same_candidate id t n keeps =
        λ i. record { key = keeps.key i; tile = keeps.tile i; arrival = slice_index_or arrivals id 0; id = id }

-- where one task is another with its key, in its tile
pub indexed_but_one : (old now : List (Option Task)) (queues : List (List ℕ)) (arrivals : List ℕ) (next : ℕ) (listed : List Candidate) (id : ℕ) (task changed : Task)
    → slice_index_or old id None ≡ Some task → slice_index_or now id None ≡ Some changed
    → ((k : ℕ) → k ≢ id → slice_index_or now k None ≡ slice_index_or old k None)
    → changed.tile ≡ task.tile → changed.key ≡ task.key → IsIndexed old queues arrivals next listed
    → IsIndexed now queues arrivals next listed
indexed_but_one old now queues arrivals next listed id task changed there here others tile key =
    indexed_kept old now queues arrivals next listed
    (kept_but_one KeepsKey (λ t. record { tile = refl; key = refl }) old now id task changed there here others (record { tile = tile; key = key }))

-- another task in a slot that is in use
pub same_count : (tasks : List (Option Task)) (id : ℕ) (task changed : Task) → slice_index_or tasks id None ≡ Some task
    → count_by is_some (slice_set tasks id (Some changed)) ≡ count_by is_some tasks
same_count tasks id task changed there =
    let set = sum_by-set (λ slot. cond (is_some slot) 1 0) tasks id (Some changed) None (below_slots tasks id task there) in
    let was : ◌≡◌ {A = ℕ} (cond (is_some (slice_index_or tasks id None)) 1 0) 1 = ap (λ slot. cond (is_some slot) 1 0) there in
    omega (arith, set, was)

-- slots and candidates are as many as they should be
pub slots_kept : (settings : Settings) (tasks now : List (Option Task)) (queues : List QueueValue)
    (counts : SlotCounts) (indexed_now capacity_now : ℕ) → HasSlots settings tasks queues counts
    → count_by is_some now ≡ count_by is_some tasks → indexed_now ≤ counts.indexed → capacity_now ≡ counts.capacity
    → HasSlots settings now queues (record counts { indexed = indexed_now; capacity = capacity_now })
slots_kept settings tasks now queues counts indexed_now capacity_now has same upto same_capacity = record {
  enough = has.enough;
  used = same ∙ has.used;
  short = has.short;
  index = same_capacity ∙ has.index;
  indexed_are = omega (arith, has.indexed_are, upto);
  marks = has.marks;
  members = has.members;
  arrivals = has.arrivals;
  numbers = has.numbers;
}

-- a task is written over: it stands there now,
pub task_set : (tasks : List (Option Task)) (id : ℕ) (task now : Task) → slice_index_or tasks id None ≡ Some task
    → slice_index_or (slice_set tasks id (Some now)) id None ≡ Some now
task_set tasks id task now there = get_or-set_same tasks id (Some now) None (below_slots tasks id task there)

-- and all others stay,
pub others_set : (tasks : List (Option Task)) (id : ℕ) (now : Task) (k : ℕ) → k ≢ id
    → slice_index_or (slice_set tasks id (Some now)) k None ≡ slice_index_or tasks k None
others_set tasks id now k other = get_or-set_other tasks id k (Some now) None other

-- so slots and candidates are as many,
pub slots_set : (settings : Settings) (tasks : List (Option Task)) (queues : List QueueValue) (counts : SlotCounts)
    (id : ℕ) (task now : Task) → HasSlots settings tasks queues counts → slice_index_or tasks id None ≡ Some task
    → HasSlots settings (slice_set tasks id (Some now)) queues counts
slots_set settings tasks queues counts id task now has there =
    slots_kept settings tasks (slice_set tasks id (Some now)) queues counts counts.indexed counts.capacity has
    (same_count tasks id task now there) (omega arith) refl

-- the lists hold what they should, where it keeps its place,
pub stored_set : (size : ℕ) (old : View) (id : ℕ) (task now : Task) (memory : List ℕ) → IsStored size old
    → task_at old id ≡ Some task → KeepsPlace task now
    → IsWellFormed size (length old.history) now → length memory ≡ size
    → IsStored size (record old { tasks = slice_set old.tasks id (Some now); memory = memory })
stored_set size old id task now memory stored there keeps formed long =
    stored_but_one size old (record old { tasks = slice_set old.tasks id (Some now); memory = memory }) id task now stored there
    (record { changed = task_set old.tasks id task now there; others = others_set old.tasks id now }) refl refl refl refl (long ∙ sym stored.memory) keeps formed

-- and so does the index, where it keeps its key
pub indexed_set : (tasks : List (Option Task)) (queues : List (List ℕ)) (arrivals : List ℕ) (next : ℕ) (listed : List Candidate) (id : ℕ) (task now : Task)
    → IsIndexed tasks queues arrivals next listed → slice_index_or tasks id None ≡ Some task → now.key ≡ task.key
    → now.tile ≡ task.tile
    → IsIndexed (slice_set tasks id (Some now)) queues arrivals next listed
indexed_set tasks queues arrivals next listed id task now is there key tile =
    indexed_but_one tasks (slice_set tasks id (Some now)) queues arrivals next listed id task now there (task_set tasks id task now there) (others_set tasks id now) tile key is

-- whether a task keeps a core doesn't depend on which core it is
pub keeps_some : (status : Status) (a b : Core) → is_some (kept_core status a) ≡ is_some (kept_core status b)
keeps_some Idle a b = refl
keeps_some (Running core) a b = refl
keeps_some (Trapped core cause) a b = refl
keeps_some Finished a b = refl

-- a task that differs in what its instructions change is well formed where its children are few, its accesses lie in the data, and its
-- subdomain is within the bound
pub formed_kept : (size commits : ℕ) (task changed : Task) → IsWellFormed size commits task → changed.key ≡ task.key
    → changed.kinds ≡ task.kinds → changed.creator ≡ task.creator
    → is_some (kept_core changed.status changed.core) ≡ is_some (kept_core task.status task.core)
    → (IsSome changed.sub → depth_of task < MAX_DEPTH)
    → length changed.spawns ≤ MAX_CHILDREN → AllAccessible size changed.log → IsWellFormed size commits changed
formed_kept size commits task changed is key kinds creator status inner children accesses = record {
  depth = subst (λ (k : Key). length k.domain + 1 ≤ MAX_DEPTH) (sym key) is.depth;
  kinds =
      subst (λ (n : ℕ). n < 2 ^ depth_of changed) (sym kinds) (subst (λ (k : Key). task.kinds < 2 ^ (length k.domain + 1)) (sym key) is.kinds);
  inner = λ some. subst (λ (k : Key). length k.domain + 1 < MAX_DEPTH) (sym key) (inner some);
  children = children;
  accesses = accesses;
  dispatched = ap (λ (k : Key). is_some k.tb) key ∙ is.dispatched ∙ sym status;
  turn = λ turn index made. is.turn turn index (sym creator ∙ made);
}

-- and so is a task after more commits
pub formed_later : (size commits more : ℕ) (task : Task) → commits ≤ more → IsWellFormed size commits task
    → IsWellFormed size more task
formed_later size commits more task upto is = record {
  depth = is.depth;
  kinds = is.kinds;
  inner = is.inner;
  children = is.children;
  accesses = is.accesses;
  dispatched = is.dispatched;
  turn = λ turn index made. (let less = is.turn turn index made in omega (arith, less, upto));
}
