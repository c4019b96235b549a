-- A task that is put into slab, queue and index, by the parts of a state.
use Rattle.std.proofs.Common.{◌≡◌, ◌≢◌, ◌<◌, ◌≤◌, ◌+◌, ◌*◌, ◌∷◌, ◌++◌, ℕ, List, [], length, map, Option, Some, None}
use Rattle.std.proofs.Common.{refl, sym, ap, subst, ◌∙◌, arith, slice_index_or}
use Rattle.std.specs.Prelude.{Contains, slice_set, is_some, count_by}
use Rattle.std.proofs.lemmas.List.{length-map, get_or_default}
use Rattle.std.proofs.lemmas.List.Sums.{sum_by-le}
use Rattle.fractal_vt.specs.declared.level.Level.{Level}
use Rattle.run_journal.specs.declared.journal.Entry.{Entry}
use Rattle.spill_store.specs.SpilledTasks.{Spilled}
use Rattle.tile_queues.specs.Queue.{QueueValue}
use Rattle.commit_arbiter.specs.Indexed.{candidate_cmp}
use Rattle.commit_arbiter.specs.declared.candidate.Candidate.{Candidate}
use Rattle.fractal_vt.specs.Sorted.{after_insert}
use Rattle.std.proofs.lemmas.Option.{same_Some}
use Rattle.spec_state.specs.declared.settings.Settings.{Settings}
use Rattle.spec_state.specs.declared.task.Task.{Task}
use Rattle.spec_state.specs.View.{View}
use Rattle.spec_state.specs.Fits.{view_of_parts, queued_count, HasTiles, HasSlots, SlotCounts}
use Rattle.spec_state.specs.Stored.{IsIndexed, IsWellFormed}
use Rattle.fractal_vt.proofs.Proved.{length-after_insert}
use Rattle.task_desc.specs.declared.desc.Desc.{Desc}
use Rattle.spec_state.specs.declared.task.Creator.TheVariants.{Committed}
use Rattle.spec_state.specs.Tasks.{idle_task, root_descriptor}
use Rattle.spec_state.specs.Opening.{Adds, DescIsOfImage}
use Rattle.spec_state.proofs.Joined.{ids_at, queued}
use Rattle.spec_state.proofs.Counted.{still_short, one_more, has_room}
use Rattle.spec_state.proofs.Entered.{entered}

module _ (settings : Settings) (queues finished : List QueueValue) (core_lists block_lists : ℕ) (tiles : HasTiles settings queues finished core_lists block_lists)
    (tile : ℕ) (in_range : tile < settings.tiles) (queue : QueueValue) (is : queue ≡ slice_index_or queues tile queue)
    (free : length (slice_index_or (map (λ q. q.ids) queues) tile []) < settings.task_queue) where
  pub in_tiles : tile < length queues
  in_tiles = omega (arith, tiles.queue_count)

  pub in_lists : tile < length (map (λ q. q.ids) queues)
  in_lists = omega (arith, length-map queues (λ (q : QueueValue). q.ids), in_tiles)

  -- the queue has a free place
  pub is_free : length queue.ids < settings.task_queue
  is_free =
      let same : length (slice_index_or (map (λ q. q.ids) queues) tile []) ≡ length queue.ids = ap length (ids_at queues tile queue in_tiles ∙ ap (λ q. q.ids) (sym is)) in
      omega (arith, same, free)

  module _ (tasks : List (Option Task)) (counts : SlotCounts) (has : HasSlots settings tasks queues counts) (id : ℕ) where
    fits : queued_count queues + 1 ≤ settings.tiles * settings.task_queue
    fits = subst (λ n. queued_count queues + 1 ≤ n * settings.task_queue) tiles.queue_count
        (has_room queues tile settings.task_queue id queue (record queue { ids = queue.ids ++ id ∷ [] }) has.short in_tiles is is_free refl)

    -- the slab has a free slot, and the index a free place
    pub both_have_places : (count_by is_some tasks + 1 ≤ counts.slots) × (counts.indexed < counts.capacity)
    both_have_places = (omega (arith, fits, has.used, has.enough), omega (arith, fits, has.indexed_are, has.index))

    -- slots and candidates are as many as they should be
    pub slots_after : (after : QueueValue) → after.ids ≡ queue.ids ++ id ∷ []
        → (now : List (Option Task)) (slots_now indexed_now capacity_now arrivals_now : ℕ)
        → count_by is_some now ≡ count_by is_some tasks + 1 → slots_now ≡ counts.slots
        → indexed_now ≤ counts.indexed + 1 → capacity_now ≡ counts.capacity → arrivals_now ≡ counts.arrivals
        → HasSlots settings now (slice_set queues tile after)
        (record counts { slots = slots_now; indexed = indexed_now; capacity = capacity_now; arrivals = arrivals_now })
    slots_after after ids now slots_now indexed_now capacity_now arrivals_now more same_slots one_indexed same_capacity
        same_arrivals =
        let one = one_more queues tile settings.task_queue id queue after has.short in_tiles is is_free ids in
        record {
          enough = omega (arith, has.enough, same_slots);
          used = omega (arith, more, one, has.used);
          short = still_short queues tile settings.task_queue id queue after has.short in_tiles is is_free ids;
          index = same_capacity ∙ has.index;
          indexed_are = omega (arith, one, has.indexed_are, one_indexed);
          marks = has.marks ∙ sym same_slots;
          members = has.members ∙ sym same_slots;
          arrivals = same_arrivals ∙ has.arrivals ∙ sym same_slots;
          numbers = has.numbers;
        }

-- the task comes to be
pub adds_seen : (version : ℕ) (settings : Settings) (tasks : List (Option Task)) (memory : List ℕ) (history : List Entry) (output : List ℕ) (next : ℕ) (path : List Level)
    (queues finished : List QueueValue) (cores : List (List (Option ℕ))) (blocks : List (List Spilled)) (now : List (Option Task)) (id : ℕ) (task : Task) (queue after : QueueValue)
    → task.tile < length queues → queue ≡ slice_index_or queues task.tile queue → after.ids ≡ queue.ids ++ id ∷ []
    → slice_index_or tasks id None ≡ None → slice_index_or now id None ≡ Some task
    → ((k : ℕ) → k ≢ id → slice_index_or now k None ≡ slice_index_or tasks k None)
    → (view : View)
    → view_of_parts version settings tasks memory history output next path queues finished cores blocks ≡ view
    → Adds id task view (view_of_parts version settings now memory history output next path (slice_set queues task.tile after) finished cores blocks)
adds_seen version settings tasks memory history output next path queues finished cores blocks now id task queue after within is ids vacant changed others view same =
    subst (λ v. Adds id task v (view_of_parts version settings now memory history output next path (slice_set queues task.tile after) finished cores blocks)) same
    (record {
      vacant = vacant;
      changes = record { changed = changed; others = others };
      queues = queued queues task.tile id queue after within is ids;
      frame = refl;
    })

-- it enters the index
pub entered_put : (tasks now : List (Option Task)) (queues : List QueueValue) (arrivals : List ℕ) (arrival : ℕ) (listed listed_now : List Candidate) (id : ℕ) (task kept : Task) (queue after : QueueValue)
    → IsIndexed tasks (map (λ q. q.ids) queues) arrivals arrival listed → task.tile < length queues
    → queue ≡ slice_index_or queues task.tile queue → after.ids ≡ queue.ids ++ id ∷ []
    → slice_index_or tasks id None ≡ None → slice_index_or now id None ≡ Some task
    → ((k : ℕ) → k ≢ id → slice_index_or now k None ≡ slice_index_or tasks k None) → id < length arrivals
    → ((tile k : ℕ) → Contains (slice_index_or (map (λ q. q.ids) queues) tile []) k → k ≢ id)
    → slice_index_or now id None ≡ Some kept
    → listed_now
    ≡ after_insert candidate_cmp (record { key = kept.key; tile = task.tile; arrival = arrival; id = id }) listed
    → IsIndexed now (map (λ q. q.ids) (slice_set queues task.tile after)) (slice_set arrivals id arrival) (arrival + 1) listed_now
entered_put tasks now queues arrivals arrival listed listed_now id task kept queue after is within there ids vacant changed others below unqueued found listed_are =
    let same : kept ≡ task = same_Some kept task (sym found ∙ changed) in
    let in_map : task.tile < length (map (λ q. q.ids) queues) = omega (arith, length-map queues (λ (q : QueueValue). q.ids), within) in
    let listed_is : after_insert candidate_cmp (record { key = task.key; tile = task.tile; arrival = arrival; id = id }) listed ≡ listed_now =
    sym (listed_are ∙ ap (λ (t : Task). after_insert candidate_cmp (record { key = t.key; tile = task.tile; arrival = arrival; id = id }) listed) same) in
    subst (λ lists. IsIndexed now lists (slice_set arrivals id arrival) (arrival + 1) listed_now) (sym (queued queues task.tile id queue after within there ids))
    (subst (IsIndexed now (slice_set (map (λ q. q.ids) queues) task.tile (slice_index_or (map (λ q. q.ids) queues) task.tile [] ++ id ∷ [])) (slice_set arrivals id arrival) (arrival + 1)) listed_is
    (entered tasks now (map (λ q. q.ids) queues) arrivals arrival listed id task is vacant changed others below in_map unqueued))

-- where a queue has a free place, the slab has a free slot, and the index a free place
pub has_slot : (settings : Settings) (queues finished : List QueueValue) (core_lists block_lists : ℕ)
    → HasTiles settings queues finished core_lists block_lists
    → (tile : ℕ) → tile < settings.tiles
    → length (slice_index_or (map (λ q. q.ids) queues) tile []) < settings.task_queue
    → (tasks : List (Option Task)) (counts : SlotCounts) → HasSlots settings tasks queues counts
    → (count_by is_some tasks + 1 ≤ counts.slots) × (counts.indexed < counts.capacity)
has_slot settings queues finished core_lists block_lists tiles tile in_range free tasks counts has =
    let nothing : QueueValue = record { capacity = 0; ids = [] } in
    let queue : QueueValue = slice_index_or queues tile nothing in
    let within : tile < length queues = omega (arith, tiles.queue_count) in
    both_have_places settings queues finished core_lists block_lists tiles tile in_range queue (sym (get_or_default queues tile queue nothing within)) free tasks counts has 0

-- no more are indexed than the index has places for
pub few_indexed : (settings : Settings) (tasks : List (Option Task)) (queues finished : List QueueValue)
    (core_lists block_lists : ℕ) (counts : SlotCounts) → HasTiles settings queues finished core_lists block_lists
    → HasSlots settings tasks queues counts → counts.indexed ≤ counts.capacity
few_indexed settings tasks queues finished core_lists block_lists counts tiles has =
    let fits : queued_count queues ≤ length queues * settings.task_queue = sum_by-le (λ q. length q.ids) settings.task_queue queues has.short in
    let fits' : queued_count queues ≤ settings.tiles * settings.task_queue = subst (λ n. queued_count queues ≤ n * settings.task_queue) tiles.queue_count fits in
    omega (arith, fits', has.indexed_are, has.index)

-- the index has at most one candidate more
pub few_more : (old fresh now : List Candidate) (e : Candidate) → now ≡ after_insert candidate_cmp e fresh
    → length fresh ≤ length old → length now ≤ length old + 1
few_more old fresh now e is upto =
    let more = ap length is ∙ length-after_insert candidate_cmp e fresh in omega (arith, more, upto)

-- a task of the image is well formed
pub root_formed : (version : ℕ) (desc : Desc) (size commits tile : ℕ) (task : Task)
    → task ≡ idle_task version (root_descriptor desc) (Committed desc.name.creator desc.name.index) tile
    → DescIsOfImage desc
    → IsWellFormed size commits task
root_formed version desc size commits tile task made is = subst (IsWellFormed size commits) (sym made)
    (record {
      depth = omega arith;
      kinds = is.kinds;
      inner = λ some. absurd (cc (some));
      children = omega arith;
      accesses = λ k d within. absurd (omega (arith, within));
      dispatched = refl;
      turn = λ turn index same. (let by : desc.name.creator ≡ turn = cc in omega (arith, by, is.by_image));
    })

-- the same where the tile is given by itself
pub adds_seen_at : (version : ℕ) (settings : Settings) (tasks : List (Option Task)) (memory : List ℕ) (history : List Entry) (output : List ℕ) (next : ℕ) (path : List Level)
    (queues finished : List QueueValue) (cores : List (List (Option ℕ))) (blocks : List (List Spilled)) (now : List (Option Task)) (id : ℕ) (task : Task) (queue after : QueueValue)
    (tile : ℕ) → tile ≡ task.tile → tile < length queues → queue ≡ slice_index_or queues tile queue → after.ids ≡ queue.ids ++ id ∷ []
    → slice_index_or tasks id None ≡ None → slice_index_or now id None ≡ Some task
    → ((k : ℕ) → k ≢ id → slice_index_or now k None ≡ slice_index_or tasks k None)
    → (view : View)
    → view_of_parts version settings tasks memory history output next path queues finished cores blocks ≡ view
    → Adds id task view (view_of_parts version settings now memory history output next path (slice_set queues tile after) finished cores blocks)
adds_seen_at version settings tasks memory history output next path queues finished cores blocks now id task queue after tile is_tile within is ids vacant changed others view same =
    subst (λ (t : ℕ). Adds id task view (view_of_parts version settings now memory history output next path (slice_set queues t after) finished cores blocks)) (sym is_tile)
    (adds_seen version settings tasks memory history output next path queues finished cores blocks now id task queue after (subst (λ (t : ℕ). t < length queues) is_tile within)
    (subst (λ (t : ℕ). queue ≡ slice_index_or queues t queue) is_tile is) ids vacant changed others view same)

pub entered_put_at : (tasks now : List (Option Task)) (queues : List QueueValue) (arrivals : List ℕ) (arrival : ℕ) (listed listed_now : List Candidate) (id : ℕ) (task kept : Task) (queue after : QueueValue)
    (tile : ℕ) → tile ≡ task.tile → IsIndexed tasks (map (λ q. q.ids) queues) arrivals arrival listed → tile < length queues → queue ≡ slice_index_or queues tile queue → after.ids ≡ queue.ids ++ id ∷ []
    → slice_index_or tasks id None ≡ None → slice_index_or now id None ≡ Some task
    → ((k : ℕ) → k ≢ id → slice_index_or now k None ≡ slice_index_or tasks k None) → id < length arrivals
    → ((tile k : ℕ) → Contains (slice_index_or (map (λ q. q.ids) queues) tile []) k → k ≢ id)
    → slice_index_or now id None ≡ Some kept
    → listed_now
    ≡ after_insert candidate_cmp (record { key = kept.key; tile = tile; arrival = arrival; id = id }) listed
    → IsIndexed now (map (λ q. q.ids) (slice_set queues tile after)) (slice_set arrivals id arrival) (arrival + 1) listed_now
entered_put_at tasks now queues arrivals arrival listed listed_now id task kept queue after tile is_tile is within there ids vacant changed others below unqueued found listed_are =
    subst (λ (t : ℕ). IsIndexed now (map (λ q. q.ids) (slice_set queues t after)) (slice_set arrivals id arrival) (arrival + 1) listed_now) (sym is_tile)
    (entered_put tasks now queues arrivals arrival listed listed_now id task kept queue after is (subst (λ (t : ℕ). t < length queues) is_tile within)
    (subst (λ (t : ℕ). queue ≡ slice_index_or queues t queue) is_tile there) ids vacant changed others below unqueued found
    (listed_are ∙ ap (λ (t : ℕ). after_insert candidate_cmp (record { key = kept.key; tile = t; arrival = arrival; id = id }) listed) is_tile))
