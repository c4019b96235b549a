-- A renumbering, by the parts of a state.
use Rattle.std.proofs.Common.{◌≡◌, ◌<◌, ◌≤◌, ◌+◌, ◌^◌, ◌∷◌, ℕ, zero, suc, cond, List, [], length, map, Option, Some}
use Rattle.std.proofs.Common.{None, refl, sym, ap, subst, ◌∙◌, inl, inr, arith, option_map, slice_index_or}
use Rattle.std.specs.Prelude.{All, Contains, ◌↔◌, is_some, count_by, flat_map}
use Rattle.std.specs.List.Sorted.{IsStrictlyIncreasing}
use Rattle.std.proofs.lemmas.List.{length-map, get_or_default}
use Rattle.std.proofs.lemmas.List.Elements.{All-nil, All-cons, Contains-append_left, Contains-append_right}
use Rattle.std.proofs.lemmas.List.Sums.{sum_by-cons}
use Rattle.commit_arbiter.specs.declared.candidate.Candidate.{Candidate}
use Rattle.commit_arbiter.specs.Indexed.{HoldsCandidates, renumbered_candidate}
use Rattle.fractal_vt.proofs.Proved.{is_some_mapped, mapped_some}
use Rattle.fractal_vt.specs.declared.level.Level.{Level}
use Rattle.run_journal.specs.declared.journal.Entry.{Entry}
use Rattle.fractal_vt.specs.Renumbered.{place_in, renumbered_levels, renumbered_level, HoldsKey}
use Rattle.spill_store.specs.SpilledTasks.{Spilled, HoldsSpilled, open_key, renumbered_spilled}
use Rattle.slab.specs.Slab.{Slab}
use Rattle.tile_queues.specs.Queue.{QueueValue}
use Rattle.spec_state.specs.declared.settings.Settings.{Settings}
use Rattle.spec_state.specs.declared.task.Status.{Status}
use Rattle.spec_state.specs.declared.task.Status.TheVariants.{Finished}
use Rattle.spec_state.specs.declared.task.Task.{Task}
use Rattle.spec_state.specs.View.{View, task_at}
use Rattle.spec_state.specs.Tasks.{depth_of}
use Rattle.spec_state.specs.Fits.{view_of_parts, HasSlots, SlotCounts}
use Rattle.spec_state.specs.Children.{AreNoted, ChildrenValue, IsChildAt}
use Rattle.spec_state.specs.Numbers.{IsInUse, IsPathsOrTasks, IsNumberTable, Renumbers, renumbered_task, on_path}
use Rattle.spec_state.specs.Numbers.{of_task}
use Rattle.spec_state.specs.Stored.{HasCore, HasTask, IsWellFormed, IsStored, IsIndexed, candidate_of}
use Rattle.spec_state.proofs.Proved.{noted_back, table_holds_spilled, table_holds_task, map_at}
use Rattle.spec_dispatch.specs.Table.{held_numbers}
use Rattle.spec_dispatch.proofs.Tabled.{held_are}

-- as many slots are in use
pub as_many_mapped : (f : Task → Task) (tasks : List (Option Task))
    → count_by is_some (map (option_map f) tasks) ≡ count_by is_some tasks
as_many_mapped f [] = refl
as_many_mapped f (t ∷ tasks) =
    let weight : Option Task → ℕ = λ slot. cond (is_some slot) 1 0 in
    let now = sum_by-cons weight (option_map f t) (map (option_map f) tasks) in
    let was = sum_by-cons weight t tasks in
    let same : weight (option_map f t) ≡ weight t = ap (λ b. cond b 1 0) (is_some_mapped f t) in
    let rest = as_many_mapped f tasks in
    omega (arith, now, was, same, rest)

-- a table of the path's and the tasks' numbers has all that are in use
is_table : (view : View) (table : List ℕ) (tasks : Slab Task) → view.tasks ≡ tasks.slots → IsStrictlyIncreasing table
    → ((n : ℕ) → Contains table n ↔ Contains (held_numbers view.path tasks) n)
    → ((n : ℕ) → IsInUse view n → IsPathsOrTasks view n) → IsNumberTable view table
is_table view table tasks same rising exact held = record {
  rising = rising;
  exact = λ n. (
    λ has. used n ((held_are view tasks n same).0 ((exact n).0 has)),
    λ it. (exact n).1 ((held_are view tasks n same).1 (held n it)),
  );
}
  where
    used : (n : ℕ) → IsPathsOrTasks view n → IsInUse view n
    used n (inl on) = on_path on
    used n (inr one) = of_task one.0 one.1 one.2 one.3

-- and so has the table that a state keeps
pub is_table_here : (view now : View) (tasks : Slab Task) (table filled : List ℕ) → view ≡ now
    → view.tasks ≡ tasks.slots → table ≡ filled → IsStrictlyIncreasing filled
    → ((n : ℕ) → Contains filled n ↔ Contains (held_numbers view.path tasks) n)
    → ((n : ℕ) → IsInUse now n → IsPathsOrTasks now n) → IsNumberTable view table
is_table_here view now tasks table filled same slots is rising exact held =
    subst (IsNumberTable view) (sym is) (is_table view filled tasks slots rising exact (subst (λ v. (n : ℕ) → IsInUse v n → IsPathsOrTasks v n) (sym same) held))

-- slots and candidates are as many as they should be
pub slots_renumbered : (settings : Settings) (tasks : List (Option Task)) (queues : List QueueValue)
    (counts : SlotCounts) → HasSlots settings tasks queues counts
    → (table : List ℕ) (now : List (Option Task)) (slots_now indexed_now capacity_now numbers_now : ℕ)
    → now ≡ map (option_map (renumbered_task table)) tasks → slots_now ≡ counts.slots → indexed_now ≡ counts.indexed
    → capacity_now ≡ counts.capacity → counts.numbers ≤ numbers_now
    → HasSlots settings now queues
    (record counts { slots = slots_now; indexed = indexed_now; capacity = capacity_now; numbers = numbers_now })
slots_renumbered settings tasks queues counts has table now slots_now indexed_now capacity_now numbers_now is same_slots
    same_indexed same_capacity upto = record {
      enough = omega (arith, has.enough, same_slots);
      used = ap (count_by is_some) is ∙ as_many_mapped (renumbered_task table) tasks ∙ has.used;
      short = has.short;
      index = same_capacity ∙ has.index;
      indexed_are = omega (arith, has.indexed_are, same_indexed);
      marks = has.marks ∙ sym same_slots;
      members = has.members ∙ sym same_slots;
      arrivals = has.arrivals ∙ sym same_slots;
      numbers = omega (arith, has.numbers, upto);
    }

-- the renumbering, by the parts
pub renumbers_seen : (version : ℕ) (settings : Settings) (tasks : List (Option Task)) (memory : List ℕ) (history : List Entry) (output : List ℕ) (next : ℕ) (path : List Level)
    (queues finished : List QueueValue) (cores : List (List (Option ℕ))) (blocks : List (List Spilled)) (table : List ℕ) (tasks_now : List (Option Task)) (path_now : List Level)
    (blocks_now : List (List Spilled)) (next_now : ℕ)
    → tasks_now ≡ map (option_map (renumbered_task table)) tasks → path_now ≡ renumbered_levels table path
    → blocks_now ≡ map (map (renumbered_spilled table)) blocks → next_now ≡ length table
    → (view : View)
    → view_of_parts version settings tasks memory history output next path queues finished cores blocks ≡ view
    → IsNumberTable (view_of_parts version settings tasks memory history output next path queues finished cores blocks) table
    → Renumbers view (view_of_parts version settings tasks_now memory history output next_now path_now queues finished cores blocks_now)
renumbers_seen version settings tasks memory history output next path queues finished cores blocks table tasks_now path_now blocks_now next_now tasks_are path_is blocks_are next_is view same is =
    subst (λ v. Renumbers v (view_of_parts version settings tasks_now memory history output next_now path_now queues finished cores blocks_now)) same
    (record { table = table; is_table = is; tasks = tasks_are; blocks = blocks_are; path = path_is; next = next_is; frame = refl })

module _ (view : View) (table : List ℕ) (is : IsNumberTable view table) where
  -- it holds the numbers of the index
  pub index_held : (arrivals : List ℕ) (next : ℕ) (listed : List Candidate)
      → IsIndexed view.tasks view.queues arrivals next listed → HoldsCandidates table listed
  index_held arrivals next listed indexed = λ k d within.
      (let one = indexed.each (slice_index_or listed k d) (k, within, get_or_default listed k _ d within) in
      subst (HoldsKey table) (sym (ap (λ (e : Candidate). e.key) one.2)) (table_holds_task view table is (slice_index_or listed k d).id one.0 one.1))

  -- and those of all blocks
  pub blocks_held : All (HoldsSpilled table) view.blocks
  blocks_held = among view.blocks (λ s has. table_holds_spilled view table is s has)
    where
      among : (blocks : List (List Spilled))
          → ((s : Spilled) → Contains (flat_map (λ b. b) blocks) s → HoldsKey table (open_key s))
          → All (HoldsSpilled table) blocks
      among [] each = All-nil (HoldsSpilled table)
      among (b ∷ blocks) each =
          All-cons (HoldsSpilled table) b blocks
          (λ k d within. each (slice_index_or b k d) (Contains-append_left b (flat_map (λ c. c) blocks) (slice_index_or b k d) (k, within, get_or_default b k _ d within)))
          (among blocks (λ s has. each s (Contains-append_right b (flat_map (λ c. c) blocks) s has)))

module _ (old new : View) (r : Renumbers old new) where
  each : (id : ℕ) → task_at new id ≡ option_map (renumbered_task r.table) (task_at old id)
  each id =
      ap (λ tasks. slice_index_or tasks id None) r.tasks
      ∙ map_at (option_map (renumbered_task r.table)) old.tasks id None

  pub now : (id : ℕ) (t : Task) → task_at old id ≡ Some t → task_at new id ≡ Some (renumbered_task r.table t)
  now id t there = each id ∙ ap (option_map (renumbered_task r.table)) there

  pub was : (id : ℕ) (t : Task) → task_at new id ≡ Some t
      → (w : Task) × (task_at old id ≡ Some w) × (t ≡ renumbered_task r.table w)
  was id t there = mapped_some (renumbered_task r.table) (task_at old id) t (sym (each id) ∙ there)

  forth : (kind : Status → Type 0) (tile id : ℕ) → HasTask old tile id kind → HasTask new tile id kind
  forth kind tile id has = (renumbered_task r.table has.0, now id has.0 has.1, has.2, has.3)

  back : (kind : Status → Type 0) (tile id : ℕ) → HasTask new tile id kind → HasTask old tile id kind
  back kind tile id has =
      let one = was id has.0 has.1 in
      (one.0, one.1, sym (ap (λ t. t.tile) one.2) ∙ has.2, subst (λ t. kind t.status) one.2 has.3)

  formed : (size : ℕ) (id : ℕ) (t : Task) → IsWellFormed size (length old.history) t
      → IsWellFormed size (length old.history) (renumbered_task r.table t)
  formed size id t is =
      let deep : depth_of (renumbered_task r.table t) ≡ depth_of t = ap (λ n. n + 1) (length-map t.key.domain (renumbered_level r.table)) in
      record {
        depth = omega (arith, deep, is.depth);
        kinds = subst (λ n. t.kinds < 2 ^ n) (sym deep) is.kinds;
        inner = λ sub. (let less = is.inner sub in omega (arith, deep, less));
        children = is.children;
        accesses = is.accesses;
        dispatched = is_some_mapped (place_in r.table) t.key.tb ∙ is.dispatched;
        turn = is.turn;
      }

  -- the lists hold what they should
  pub stored_renumbered : (size : ℕ) → IsStored size old → IsStored size new
  stored_renumbered size stored = subst (IsStored size) (sym r.frame)
      (record {
        queued_are = λ tile id. (
          λ has. forth (λ status. Unit {0}) tile id ((stored.queued_are tile id).0 has),
          λ has. (stored.queued_are tile id).1 (back (λ status. Unit {0}) tile id has),
        );
        finished_are = λ tile id. (
          λ has. forth (λ status. status ≡ Finished) tile id ((stored.finished_are tile id).0 has),
          λ has. (stored.finished_are tile id).1 (back (λ status. status ≡ Finished) tile id has),
        );
        held_are = λ tile core id. (
          λ held. forth (λ status. HasCore status core) tile id ((stored.held_are tile core id).0 held),
          λ has. (stored.held_are tile core id).1 (back (λ status. HasCore status core) tile id has),
        );
        tasks = λ id t there.
            (let one = was id t there in subst (IsWellFormed size (length old.history)) (sym one.2) (formed size id one.0 (stored.tasks id one.0 one.1)));
        memory = stored.memory;
      })

-- the index holds the renumbered tasks
pub indexed_renumbered : (table : List ℕ) (tasks : List (Option Task)) (lists : List (List ℕ)) (arrivals : List ℕ) (next : ℕ) (listed : List Candidate)
    → IsIndexed tasks lists arrivals next listed
    → IsIndexed (map (option_map (renumbered_task table)) tasks) lists arrivals next (map (renumbered_candidate table) listed)
indexed_renumbered table tasks lists arrivals next listed is = record {
  all = λ id t there.
      (let one = mapped_some (renumbered_task table) (slice_index_or tasks id None) t (sym (map_at (option_map (renumbered_task table)) tasks id None) ∙ there) in
      subst (λ x. Contains (map (renumbered_candidate table) listed) (candidate_of arrivals id x)) (sym one.2) (into listed (candidate_of arrivals id one.0) (is.all id one.0 one.1)));
  each = λ e has.
      (let one = from listed e has in
      let task = is.each one.0 one.1 in
      let ids : e.id ≡ one.0.id = ap (λ (x : Candidate). x.id) one.2 in (
        renumbered_task table task.0,
        map_at (option_map (renumbered_task table)) tasks e.id None
            ∙ ap (λ j. option_map (renumbered_task table) (slice_index_or tasks j None)) ids
            ∙ ap (option_map (renumbered_task table)) task.1,
        one.2 ∙ ap (renumbered_candidate table) task.2
            ∙ ap (λ j. candidate_of arrivals j (renumbered_task table task.0)) (sym ids),
      ));
  early = is.early;
  rising = is.rising;
}
  where
    into : (es : List Candidate) (e : Candidate) → Contains es e
        → Contains (map (renumbered_candidate table) es) (renumbered_candidate table e)
    into [] e has = absurd (omega (arith, has.1))
    into (x ∷ es) e (zero, low, at) = (zero, omega arith, ap (renumbered_candidate table) at)
    into (x ∷ es) e (suc k, low, at) =
        (let more = into es e (k, omega (arith, low), at) in (suc more.0, (let below = more.1 in omega (arith, below)), more.2))

    from : (es : List Candidate) (e : Candidate) → Contains (map (renumbered_candidate table) es) e
        → (x : Candidate) × Contains es x × (e ≡ renumbered_candidate table x)
    from [] e has = absurd (omega (arith, has.1))
    from (x ∷ es) e (zero, low, at) = (x, (zero, omega arith, refl), sym at)
    from (x ∷ es) e (suc k, low, at) =
        (let more = from es e (k, omega (arith, low), at) in (more.0, (suc more.1.0, (let below = more.1.1 in omega (arith, below)), more.1.2), more.2))

pub indexed_after : (table : List ℕ) (tasks now : List (Option Task)) (lists : List (List ℕ)) (arrivals : List ℕ) (next : ℕ) (listed listed_now : List Candidate)
    → IsIndexed tasks lists arrivals next listed → now ≡ map (option_map (renumbered_task table)) tasks
    → listed_now ≡ map (renumbered_candidate table) listed
    → IsIndexed now lists arrivals next listed_now
indexed_after table tasks now lists arrivals next listed listed_now is tasks_are listed_are =
    subst (λ ts. IsIndexed ts lists arrivals next listed_now) (sym tasks_are)
    (subst (IsIndexed (map (option_map (renumbered_task table)) tasks) lists arrivals next) (sym listed_are) (indexed_renumbered table tasks lists arrivals next listed is))

-- children stay noted
pub noted_after : (table : List ℕ) (tasks now : List (Option Task)) (children : ChildrenValue)
    → now ≡ map (option_map (renumbered_task table)) tasks → AreNoted tasks children → AreNoted now children
noted_after table tasks now children is = noted_back tasks now children back
  where
    back : (k id place : ℕ) → IsChildAt id place (slice_index_or now k None)
        → IsChildAt id place (slice_index_or tasks k None)
    back k id place one =
        let each : slice_index_or now k None ≡ option_map (renumbered_task table) (slice_index_or tasks k None) =
        ap (λ ts. slice_index_or ts k None) is ∙ map_at (option_map (renumbered_task table)) tasks k None in
        let was = mapped_some (renumbered_task table) (slice_index_or tasks k None) one.child (sym each ∙ one.there) in
        record { child = was.0; there = was.1; made_by = ap (λ (t : Task). t.creator) (sym was.2) ∙ one.made_by }
