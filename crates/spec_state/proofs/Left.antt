-- A task that leaves slab, queue and index, or is idle again in them, by the parts of a state.
use Rattle.std.proofs.Common.{◌≡◌, ◌≢◌, ◌⊎◌, ◌<◌, ◌≤◌, ◌+◌, ◌∷◌, ℕ, List, [], length, map, Option, Some, None, refl}
use Rattle.std.proofs.Common.{sym, ap, subst, ◌∙◌, inl, inr, arith, slice_get, slice_index_or}
use Rattle.std.specs.Prelude.{All, AllPairs, Contains, slice_set, is_some, count_by, not, ◌==◌}
use Rattle.std.specs.List.Sorted.{IsPermutation}
use Rattle.std.proofs.lemmas.Bool.{cases_eq}
use Rattle.std.proofs.lemmas.List.{length-map, length-set}
use Rattle.std.proofs.lemmas.List.Elements.{All-get_or, All-set}
use Rattle.std.proofs.lemmas.List.Kept.{AllPairs-filter}
use Rattle.std.proofs.lemmas.List.Sorted.{Contains-permutation, IsPermutation-sym}
use Rattle.std.proofs.lemmas.List.Sums.{sum_by-set}
use Rattle.std.proofs.lemmas.Option.{slice_get_within, slice_get-get_or, get_or_from_slice_get}
use Rattle.commit_arbiter.specs.declared.candidate.Candidate.{Candidate}
use Rattle.commit_arbiter.specs.Indexed.{candidate_cmp, without_candidate}
use Rattle.fractal_vt.specs.Sorted.{after_insert}
use Rattle.fractal_vt.proofs.Proved.{after_insert-permutes}
use Rattle.tile_queues.specs.Queue.{QueueValue, ids_but}
use Rattle.spec_state.specs.declared.settings.Settings.{Settings}
use Rattle.spec_state.specs.declared.task.Task.{Task}
use Rattle.fractal_vt.specs.declared.level.Level.{Level}
use Rattle.run_journal.specs.declared.journal.Entry.{Entry as Committed}
use Rattle.spill_store.specs.SpilledTasks.{Spilled}
use Rattle.spec_state.specs.Fits.{ids_in, view_of_parts, queued_count, HasTiles, HasSlots, SlotCounts}
use Rattle.spec_state.specs.Leaving.{freed_of, TaskLeaves, SetsBack}
use Rattle.spec_state.specs.Stored.{IsIndexed, IsStored, candidate_of}
use Rattle.spec_state.specs.Tasks.{idle_again}
use Rattle.spec_state.specs.View.{View, task_at}
use Rattle.spec_state.proofs.Entered.{head_or_tail, has_head, in_tail}
use Rattle.spec_state.proofs.Joined.{within_lists}
use Rattle.spec_state.proofs.Moved.{in_without, from_without}
use Rattle.spec_state.proofs.Vacated.{own_queued, others_without, others_finished, others_held}
use Rattle.spec_state.proofs.Without.{from_ids, map_at, one_seen}

-- the tile whose queue holds an id is one of the machine's
pub own_tile_within : (settings : Settings) (queues finished : List QueueValue) (core_lists block_lists : ℕ)
    → HasTiles settings queues finished core_lists block_lists
    → (tile id : ℕ) → Contains (slice_index_or (map (λ q. q.ids) queues) tile []) id → tile < settings.tiles
own_tile_within settings queues finished core_lists block_lists tiles tile id has =
    let within = within_lists (map (λ (q : QueueValue). q.ids) queues) tile id has in
    omega (arith, within, length-map queues (λ (q : QueueValue). q.ids), tiles.queue_count)

-- so is the tile of each task
pub task_within : (size : ℕ) (view : View) → IsStored size view → (id : ℕ) (task : Task) → task_at view id ≡ Some task
    → (settings : Settings) (queues finished : List QueueValue)
    (core_lists block_lists : ℕ) → HasTiles settings queues finished core_lists block_lists → ids_in queues ≡ view.queues → task.tile < settings.tiles
task_within size view stored id task there settings queues finished core_lists block_lists tiles same =
    own_tile_within settings queues finished core_lists block_lists tiles task.tile id
    (subst (λ lists. Contains (slice_index_or lists task.tile []) id) (sym same) (own_queued size view stored id task there))

-- the parts of a state from whose lists a task has gone: the queues, the commit queues and the cores of its tile have changed
module _ (size version : ℕ) (settings : Settings) (tasks now : List (Option Task)) (memory : List ℕ) (history : List Committed) (output : List ℕ) (next : ℕ) (path : List Level)
    (queues finished : List QueueValue) (V : Type 0) (see : V → List (Option ℕ)) (cores : List V) (blocks : List (List Spilled)) (id : ℕ) (task : Task)
    (stored : IsStored size (view_of_parts version settings tasks memory history output next path queues finished (map see cores) blocks)) (there : slice_index_or tasks id None ≡ Some task)
    (others : (k : ℕ) → k ≢ id → slice_index_or now k None ≡ slice_index_or tasks k None) where
  abbrev before : View
  before = view_of_parts version settings tasks memory history output next path queues finished (map see cores) blocks

  queues_left : (queue after : QueueValue) → task.tile < length queues → queue ≡ slice_index_or queues task.tile queue
      → after ≡ record queue { ids = ids_but id queue.ids }
      → ids_in (slice_set queues task.tile after) ≡ map (ids_but id) (ids_in queues)
  queues_left queue after within is taken =
      one_seen (λ (q : QueueValue). q.ids) (ids_but id) queues task.tile queue after [] within is (ap (λ (q : QueueValue). q.ids) taken) (others_without size before stored id task there)

  finished_left : (queue after : QueueValue) → task.tile < length finished
      → queue ≡ slice_index_or finished task.tile queue → after ≡ record queue { ids = ids_but id queue.ids }
      → ids_in (slice_set finished task.tile after) ≡ map (ids_but id) (ids_in finished)
  finished_left queue after within is taken =
      one_seen (λ (q : QueueValue). q.ids) (ids_but id) finished task.tile queue after [] within is (ap (λ (q : QueueValue). q.ids) taken) (others_finished size before stored id task there)

  cores_left : (held after : V) → task.tile < length cores → held ≡ slice_index_or cores task.tile held
      → see after ≡ map (freed_of id) (see held)
      → map see (slice_set cores task.tile after) ≡ map (map (freed_of id)) (map see cores)
  cores_left held after within is freed =
      one_seen see (map (freed_of id)) cores task.tile held after [] within is freed (others_held size before stored id task there)

  pub leaves_seen : slice_index_or now id None ≡ None
      → (queue queue_now waits waits_now : QueueValue) (held held_now : V)
      → task.tile < length queues → queue ≡ slice_index_or queues task.tile queue
      → queue_now ≡ record queue { ids = ids_but id queue.ids }
      → task.tile < length finished → waits ≡ slice_index_or finished task.tile waits
      → waits_now ≡ record waits { ids = ids_but id waits.ids }
      → task.tile < length cores → held ≡ slice_index_or cores task.tile held
      → see held_now ≡ map (freed_of id) (see held)
      → TaskLeaves id before (view_of_parts version settings now memory history output next path (slice_set queues task.tile queue_now) (slice_set finished task.tile waits_now)
      (map see (slice_set cores task.tile held_now)) blocks)
  leaves_seen vacant queue queue_now waits waits_now held held_now in_queues is_queue taken in_finished is_waits waits_taken in_cores is_held freed = record {
    changes = record { changed = vacant; others = others };
    queues = queues_left queue queue_now in_queues is_queue taken;
    finished = finished_left waits waits_now in_finished is_waits waits_taken;
    cores = cores_left held held_now in_cores is_held freed;
    frame = refl;
  }

  pub back_seen : slice_index_or now id None ≡ Some (idle_again version task)
      → (waits waits_now : QueueValue) (held held_now : V)
      → task.tile < length finished → waits ≡ slice_index_or finished task.tile waits
      → waits_now ≡ record waits { ids = ids_but id waits.ids }
      → task.tile < length cores → held ≡ slice_index_or cores task.tile held
      → see held_now ≡ map (freed_of id) (see held)
      → SetsBack id before (view_of_parts version settings now memory history output next path queues (slice_set finished task.tile waits_now) (map see (slice_set cores task.tile held_now)) blocks)
  back_seen again waits waits_now held held_now in_finished is_waits waits_taken in_cores is_held freed = record {
    task = task;
    there = there;
    changes = record { changed = again; others = others };
    finished = finished_left waits waits_now in_finished is_waits waits_taken;
    cores = cores_left held held_now in_cores is_held freed;
    frame = refl;
  }

-- what is said of the parts is said of the view that they are
pub leaves_in : (id : ℕ) (parts view new : View) → parts ≡ view → TaskLeaves id parts new → TaskLeaves id view new
leaves_in id parts view new same leaves = subst (λ v. TaskLeaves id v new) same leaves

pub back_in : (id : ℕ) (parts view new : View) → parts ≡ view → SetsBack id parts new → SetsBack id view new
back_in id parts view new same back = subst (λ v. SetsBack id v new) same back

-- one item of a list changes, and keeps what all of them have
pub all_but_one : {X : Type 0} (P : X → Type 0) (xs : List X) (k : ℕ) (was now : X) → All P xs → k < length xs
    → was ≡ slice_index_or xs k was → (P was → P now) → All P (slice_set xs k now)
all_but_one P xs k was now all within is keeps =
    All-set P xs k now (keeps (subst P (sym is) (All-get_or P xs k was within all))) all

-- a task queue and a commit queue of a tile change, and keep their capacities
pub tiles_left : (settings : Settings) (queues finished : List QueueValue) (cores cores_now blocks tile : ℕ) (queue after waiting later : QueueValue)
    → HasTiles settings queues finished cores blocks
    → tile < length queues → queue ≡ slice_index_or queues tile queue → after.capacity ≡ queue.capacity
    → tile < length finished → waiting ≡ slice_index_or finished tile waiting → later.capacity ≡ waiting.capacity
    → cores_now ≡ cores
    → HasTiles settings (slice_set queues tile after) (slice_set finished tile later) cores_now blocks
tiles_left settings queues finished cores cores_now blocks tile queue after waiting later tiles in_queues is same in_finished waits same_waiting same_cores = record {
  queue_count = length-set queues tile after ∙ tiles.queue_count;
  finished_count = length-set finished tile later ∙ tiles.finished_count;
  core_lists = same_cores ∙ tiles.core_lists;
  block_count = tiles.block_count;
  task_queues =
      all_but_one (λ q. q.capacity ≡ settings.task_queue) queues tile queue after tiles.task_queues in_queues is (λ was. same ∙ was);
  commit_queues =
      all_but_one (λ q. q.capacity ≡ settings.commit_queue) finished tile waiting later tiles.commit_queues in_finished waits (λ was. same_waiting ∙ was);
}

-- slots and candidates are as many as they should be without one task
pub slots_left : (settings : Settings) (tasks now : List (Option Task)) (queues : List QueueValue)
    (counts : SlotCounts) (slots_now indexed_now capacity_now tile : ℕ) (queue after : QueueValue)
    → HasSlots settings tasks queues counts → tile < length queues → queue ≡ slice_index_or queues tile queue
    → length after.ids + 1 ≡ length queue.ids → count_by is_some now + 1 ≡ count_by is_some tasks
    → slots_now ≡ counts.slots → indexed_now < counts.indexed → capacity_now ≡ counts.capacity
    → HasSlots settings now (slice_set queues tile after)
    (record counts { slots = slots_now; indexed = indexed_now; capacity = capacity_now })
slots_left settings tasks now queues counts slots_now indexed_now capacity_now tile queue after has within is one less
    same_slots fewer same_capacity =
    let set = sum_by-set (λ (q : QueueValue). length q.ids) queues tile after queue within in
    let was : length (slice_index_or queues tile queue).ids ≡ length queue.ids = ap (λ (q : QueueValue). length q.ids) (sym is) in
    let count : queued_count (slice_set queues tile after) + 1 ≡ queued_count queues = omega (arith, set, was, one) in
    let long : length queue.ids ≤ settings.task_queue = subst (λ n. n ≤ settings.task_queue) was (has.short tile queue within) in
    record {
      enough = omega (arith, has.enough, same_slots);
      used = omega (arith, has.used, less, count);
      short = All-set (λ q. length q.ids ≤ settings.task_queue) queues tile after (omega (arith, one, long)) has.short;
      index = same_capacity ∙ has.index;
      indexed_are = omega (arith, count, has.indexed_are, fewer);
      marks = has.marks ∙ sym same_slots;
      members = has.members ∙ sym same_slots;
      arrivals = has.arrivals ∙ sym same_slots;
      numbers = has.numbers;
    }

module _ (tasks after : List (Option Task)) (queues : List (List ℕ)) (arrivals : List ℕ) (next : ℕ) (listed : List Candidate) (id : ℕ)
    (is : IsIndexed tasks queues arrivals next listed) (others : (k : ℕ) → k ≢ id → slice_index_or after k None ≡ slice_index_or tasks k None) where
  -- the candidate is that of the task of its id
  abbrev Has : Candidate → Type 0
  Has e = (t : Task) × (slice_index_or after e.id None ≡ Some t) × (e ≡ candidate_of arrivals e.id t)

  other_candidate : (e : Candidate) → Contains (without_candidate id listed) e → Has e
  other_candidate e has =
      let more = from_without id listed e has in
      let was = is.each e more.0 in
      (was.0, others e.id more.1 ∙ was.1, was.2)

  other_in : (k : ℕ) (t : Task) → k ≢ id → slice_index_or after k None ≡ Some t
      → Contains (without_candidate id listed) (candidate_of arrivals k t)
  other_in k t other at =
      in_without id listed (candidate_of arrivals k t) other (is.all k t (sym (others k other) ∙ at))

  -- the index without a task that has left
  module _ (vacant : slice_index_or after id None ≡ None) where
    abbrev Earlier : ℕ → ℕ → Type 0
    Earlier a b = slice_index_or arrivals a 0 < slice_index_or arrivals b 0

    queue_left : (tile : ℕ)
        → slice_index_or (map (ids_but id) queues) tile [] ≡ ids_but id (slice_index_or queues tile [])
    queue_left tile = map_at (ids_but id) queues tile []

    pairs : (tile : ℕ) → AllPairs Earlier (slice_index_or queues tile [])
    pairs tile i j d before below =
        let ids = slice_index_or queues tile [] in
        is.rising tile i j (slice_index_or ids i d) (slice_index_or ids j d) before (slice_get-get_or ids i d (omega (arith, before, below))) (slice_get-get_or ids j d below)

    rising_left : (tile p q a b : ℕ) → p < q → slice_get (ids_but id (slice_index_or queues tile [])) p ≡ Some a
        → slice_get (ids_but id (slice_index_or queues tile [])) q ≡ Some b → Earlier a b
    rising_left tile p q a b less at bt =
        let ids = ids_but id (slice_index_or queues tile []) in
        let kept = AllPairs-filter Earlier (λ other. not (other == id)) (slice_index_or queues tile []) (pairs tile) p q a less (slice_get_within ids q b bt) in
        subst (λ n. Earlier n b) (get_or_from_slice_get ids p a a at)
        (subst (λ n. Earlier (slice_index_or ids p a) n) (get_or_from_slice_get ids q b a bt) kept)

    indexed_left : IsIndexed after (map (ids_but id) queues) arrivals next (without_candidate id listed)
    indexed_left = record {
      all = λ k t at. other_in k t (λ same. cc (at, ap (λ j. slice_index_or after j None) same, vacant)) at;
      each = other_candidate;
      early =
          λ tile k has. is.early tile k (from_ids id k (slice_index_or queues tile []) (subst (λ ids. Contains ids k) (queue_left tile) has)).0;
      rising = λ tile p q a b less at bt.
          rising_left tile p q a b less (ap (λ ids. slice_get ids p) (sym (queue_left tile)) ∙ at) (ap (λ ids. slice_get ids q) (sym (queue_left tile)) ∙ bt);
    }

    pub indexed_gone : (queues_now : List (List ℕ)) (listed_now : List Candidate) → queues_now ≡ map (ids_but id) queues
        → listed_now ≡ without_candidate id listed
        → IsIndexed after queues_now arrivals next listed_now
    indexed_gone queues_now listed_now queues_are listed_are =
        subst (λ lists. IsIndexed after lists arrivals next listed_now) (sym queues_are)
        (subst (IsIndexed after (map (ids_but id) queues) arrivals next) (sym listed_are) indexed_left)

  -- the index with another key of a task, under its number
  module _ (now : Task) (changed : slice_index_or after id None ≡ Some now) where
    abbrev own : Candidate
    own = candidate_of arrivals id now

    permutes : IsPermutation (own ∷ without_candidate id listed) (after_insert candidate_cmp own (without_candidate id listed))
    permutes = after_insert-permutes candidate_cmp own (without_candidate id listed)

    all_again : (k : ℕ) (t : Task) → slice_index_or after k None ≡ Some t
        → Contains (after_insert candidate_cmp own (without_candidate id listed)) (candidate_of arrivals k t)
    all_again k t at =
        Contains-permutation (own ∷ without_candidate id listed) (after_insert candidate_cmp own (without_candidate id listed)) (candidate_of arrivals k t) permutes (by_id (cases_eq k id))
      where
        by_id : (k ≡ id) ⊎ (k ≢ id) → Contains (own ∷ without_candidate id listed) (candidate_of arrivals k t)
        by_id (inr other) =
            in_tail own (without_candidate id listed) (candidate_of arrivals k t) (other_in k t other at)
        by_id (inl same) =
            let both : Some t ≡ Some now = sym at ∙ ap (λ j. slice_index_or after j None) same ∙ changed in
            let it : t ≡ now = cc in
            subst (Contains (own ∷ without_candidate id listed)) (sym (ap (λ j. candidate_of arrivals j t) same ∙ ap (candidate_of arrivals id) it)) (has_head own (without_candidate id listed))

    each_again : (e : Candidate) → Contains (after_insert candidate_cmp own (without_candidate id listed)) e → Has e
    each_again e has =
        elim (head_or_tail own (without_candidate id listed) e
        (Contains-permutation (after_insert candidate_cmp own (without_candidate id listed)) (own ∷ without_candidate id listed) e (IsPermutation-sym (own ∷ without_candidate id listed) (after_insert candidate_cmp own (without_candidate id listed)) permutes) has)) [
          | inl head ↦ subst Has head (now, changed, refl)
          | inr tail ↦ other_candidate e tail
        ]

    pub indexed_again : (listed_now : List Candidate)
        → listed_now ≡ after_insert candidate_cmp own (without_candidate id listed)
        → IsIndexed after queues arrivals next listed_now
    indexed_again listed_now listed_are =
        subst (IsIndexed after queues arrivals next) (sym listed_are) (record { all = all_again; each = each_again; early = is.early; rising = is.rising })

    pub again_put : (kept : Task) (arrival : ℕ) (listed_now : List Candidate) → slice_index_or after id None ≡ Some kept
        → arrival ≡ slice_index_or arrivals id 0
        → listed_now ≡ after_insert candidate_cmp (record { key = kept.key; tile = kept.tile; arrival = arrival; id = id }) (without_candidate id listed)
        → IsIndexed after queues arrivals next listed_now
    again_put kept arrival listed_now found same_arrival listed_are =
        let both : Some kept ≡ Some now = sym found ∙ changed in
        let same : kept ≡ now = cc in
        indexed_again listed_now (listed_are
        ∙ λ i. after_insert candidate_cmp (record { key = (same i).key; tile = (same i).tile; arrival = same_arrival i; id = id }) (without_candidate id listed))
