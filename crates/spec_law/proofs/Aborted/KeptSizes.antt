-- An abort keeps the group of sizes.
use Rattle.std.proofs.Common.{◌≡◌, ◌≢◌, ◌≤◌, ◌<◌, ◌^◌, ℕ, Bool, true, false, List, length, not, Option, Some, None}
use Rattle.std.proofs.Common.{refl, sym, ap, subst, ◌∙◌, arith, map, option_map, slice_get, is_some, if◌then◌else◌}
use Rattle.std.specs.Prelude.{Contains, filter, All}
use Rattle.std.proofs.lemmas.List.{length-map}
use Rattle.std.proofs.lemmas.List.Elements.{All-map, All-weaker}
use Rattle.std.proofs.lemmas.List.Kept.{AllPairs-filter}
use Rattle.tile_queues.specs.Queue.{AreDistinct}
use Rattle.spec_state.specs.declared.emitted.TheConstants.{MAX_EMITTED}
use Rattle.spec_state.specs.declared.task.Status.{Status}
use Rattle.spec_state.specs.declared.task.Status.TheVariants.{Finished}
use Rattle.spec_state.specs.declared.task.Task.{Task}
use Rattle.spec_state.specs.View.{View, task_at, queue_at, finished_at, cores_at}
use Rattle.spec_state.specs.Tasks.{depth_of, idle_again}
use Rattle.spec_state.specs.Groups.{room_tasks, room_task}
use Rattle.spec_state.specs.Aborts.{Aborts, is_marked, freed_core}
use Rattle.spec_state.specs.Queries.{IsQueued}
use Rattle.spec_state.specs.Stored.{HasCore, HasTask}
use Rattle.spec_law.specs.Sound.{SoundSizes}
use Rattle.spec_law.proofs.Aborted.Taken.{unmarked_stays}
use Rattle.spec_law.proofs.Aborted.KeptTasks.{each_now}
use Rattle.spec_law.proofs.Tasks.Filtered.{filter_shorter, filter_was, filter_is, filter_leaves, queue_filtered}
use Rattle.spec_law.proofs.Tasks.Filtered.{list_mapped, got_mapped, get_mapped}

-- bounded lists of distinct ids stay so
pub bounded_filtered : (p : ℕ → Bool) (bound : ℕ) (lists : List (List ℕ))
    → All (λ ids. (length ids ≤ bound) × AreDistinct ids) lists
    → All (λ ids. (length ids ≤ bound) × AreDistinct ids) (map (filter p) lists)
bounded_filtered p bound lists each =
    All-map (λ ids. (length ids ≤ bound) × AreDistinct ids) (filter p) lists
    (All-weaker (λ ids. (length ids ≤ bound) × AreDistinct ids) (λ ids. (length (filter p ids) ≤ bound) × AreDistinct (filter p ids))
    (λ ids is. (let shorter = filter_shorter p ids in (omega (arith, shorter, is.0), AllPairs-filter (λ a b. a ≢ b) p ids is.1))) lists each)

-- a core that is held afterwards was held by that task, which is unmarked
still_held : (marks : List Bool) (holder : Option ℕ) (id : ℕ) → Some id ≡ freed_core marks holder
    → (holder ≡ Some id) × (is_marked marks id ≡ false)
still_held marks None id is = absurd (cc)
still_held marks (Some held) id is = by_mark (is_marked marks held) refl
  where
    by_mark : (b : Bool) → is_marked marks held ≡ b → (Some held ≡ Some id) × (is_marked marks id ≡ false)
    by_mark true taken = absurd (cc (is ∙ ap (λ b. if b then None else Some held) taken))
    by_mark false out =
        let both : Some id ≡ Some held = is ∙ ap (λ b. if b then None else Some held) out in
        let same : held ≡ id = cc in
        (ap Some same, sym (ap (is_marked marks) same) ∙ out)

unmarked_of : (b : Bool) → not b ≡ true → b ≡ false
unmarked_of true is = absurd (cc)
unmarked_of false is = refl

module _ {firsts : ℕ → Type 0} {old : View} {aborted : ℕ} {new : View} (abort : Aborts firsts old aborted new)
    (sizes : SoundSizes old) where
  -- the task of this id is there
  abbrev here : ℕ → Bool
  here id = is_some (room_tasks new id)

  abbrev unmarked : ℕ → Bool
  unmarked id = not (is_marked abort.marks id)

  -- the view after the abort, with its lists written out
  abbrev listed : View
  listed = record old {
    tasks = new.tasks;
    memory = new.memory;
    queues = map (filter here) old.queues;
    finished = map (filter unmarked) old.finished;
    cores = map (map (freed_core abort.marks)) old.cores;
  }

  new_is : new ≡ listed
  new_is =
      let queues : new.queues ≡ map (filter here) old.queues = abort.queues ∙ ap (λ f. map f old.queues) (λ i ids. queue_filtered (room_tasks new) ids i) in
      abort.frame
      ∙ (λ i. record old { tasks = new.tasks; memory = new.memory; queues = queues i; finished = abort.finished i; cores = abort.cores i })

  -- each task was there, in the same tile
  pub was_in_tile : (id : ℕ) (now : Task) → task_at new id ≡ Some now
      → (was : Task) × (task_at old id ≡ Some was) × (now.tile ≡ was.tile)
  was_in_tile =
      each_now abort (λ id now. (was : Task) × (task_at old id ≡ Some was) × (now.tile ≡ was.tile))
      (λ id t there out. (t, there, refl)) (λ id now back. (back.was, back.there, refl))

  -- a task that is there stands so
  is_here : (id : ℕ) → here id ≡ true → (now : Task) × (task_at new id ≡ Some now)
  is_here id is = by_task (task_at new id) refl
    where
      by_task : (now : Option Task) → task_at new id ≡ now → (t : Task) × (task_at new id ≡ Some t)
      by_task None none = absurd (cc (sym (ap (λ o. is_some (option_map room_task o)) none) ∙ is))
      by_task (Some now) at = (now, at)

  queued_forth : (tile id : ℕ) → IsQueued listed tile id → HasTask listed tile id (λ status. Unit {0})
  queued_forth tile id has =
      let left : Contains (filter here (queue_at old tile)) id = subst (λ ids. Contains ids id) (list_mapped (filter here) refl old.queues tile) has in
      let was = (sizes.queued_are tile id).0 (filter_was here (queue_at old tile) id left) in
      let now = is_here id (filter_is here (queue_at old tile) id left) in
      let before = was_in_tile id now.0 now.1 in
      let both : Some before.0 ≡ Some was.0 = sym before.1 ∙ was.1 in
      let same : before.0 ≡ was.0 = cc in
      (now.0, now.1, before.2 ∙ ap (λ t. t.tile) same ∙ was.2, tt)

  queued_back : (tile id : ℕ) → HasTask listed tile id (λ status. Unit {0}) → IsQueued listed tile id
  queued_back tile id now =
      let before = was_in_tile id now.0 now.1 in
      let was = (sizes.queued_are tile id).1 (before.0, before.1, sym before.2 ∙ now.2, tt) in
      subst (λ ids. Contains ids id) (sym (list_mapped (filter here) refl old.queues tile))
      (filter_leaves here (queue_at old tile) id was (ap (λ o. is_some (option_map room_task o)) now.1))

  finished_forth : (tile id : ℕ) → Contains (finished_at listed tile) id
      → HasTask listed tile id (λ status. status ≡ Finished)
  finished_forth tile id has =
      let left : Contains (filter unmarked (finished_at old tile)) id = subst (λ ids. Contains ids id) (list_mapped (filter unmarked) refl old.finished tile) has in
      let was = (sizes.finished_are tile id).0 (filter_was unmarked (finished_at old tile) id left) in
      let out = unmarked_of (is_marked abort.marks id) (filter_is unmarked (finished_at old tile) id left) in
      (was.0, unmarked_stays abort id out ∙ was.1, was.2, was.3)

  -- a task whose status is none of an idle one is unmarked, and was the same before
  not_idle : (kind : Status → Type 0) → ((t : Task) → kind (idle_again old.version t).status → ⊥)
      → (id : ℕ) (now : Task) → task_at new id ≡ Some now → kind now.status
      → (is_marked abort.marks id ≡ false) × (task_at old id ≡ Some now)
  not_idle kind none =
      each_now abort (λ id now. kind now.status → (is_marked abort.marks id ≡ false) × (task_at old id ≡ Some now))
      (λ id t there out is. (out, there)) (λ id now back is. absurd (none back.was is))

  finished_back : (tile id : ℕ) → HasTask listed tile id (λ status. status ≡ Finished)
      → Contains (finished_at listed tile) id
  finished_back tile id now =
      let was = not_idle (λ status. status ≡ Finished) (λ t is. absurd (cc)) id now.0 now.1 now.3 in
      let has = (sizes.finished_are tile id).1 (now.0, was.1, now.2, now.3) in
      subst (λ ids. Contains ids id) (sym (list_mapped (filter unmarked) refl old.finished tile))
      (filter_leaves unmarked (finished_at old tile) id has (ap not was.0))

  held_forth : (tile core id : ℕ) → slice_get (cores_at listed tile) core ≡ Some (Some id)
      → HasTask listed tile id (λ status. HasCore status core)
  held_forth tile core id held =
      let got : slice_get (map (freed_core abort.marks) (cores_at old tile)) core ≡ Some (Some id) =
      ap (λ cores. slice_get cores core) (sym (list_mapped (map (freed_core abort.marks)) refl old.cores tile)) ∙ held
      in
      let from = got_mapped (freed_core abort.marks) (cores_at old tile) core (Some id) got in
      let still = still_held abort.marks from.0 id from.2 in
      let was = (sizes.held_are tile core id).0 (from.1 ∙ ap Some still.0) in
      (was.0, unmarked_stays abort id still.1 ∙ was.1, was.2, was.3)

  held_back : (tile core id : ℕ) → HasTask listed tile id (λ status. HasCore status core)
      → slice_get (cores_at listed tile) core ≡ Some (Some id)
  held_back tile core id now =
      let was = not_idle (λ status. HasCore status core) (λ t is. is) id now.0 now.1 now.3 in
      let got = (sizes.held_are tile core id).1 (now.0, was.1, now.2, now.3) in
      ap (λ cores. slice_get cores core) (list_mapped (map (freed_core abort.marks)) refl old.cores tile)
      ∙ get_mapped (freed_core abort.marks) (cores_at old tile) core (Some id) got
      ∙ ap (λ b. Some (if b then None else Some id)) was.0

  listed_sizes : SoundSizes listed
  listed_sizes =
      record {
        settings = sizes.settings;
        queues = length-map old.queues (filter here) ∙ sizes.queues;
        finished = length-map old.finished (filter unmarked) ∙ sizes.finished;
        cores = length-map old.cores (map (freed_core abort.marks)) ∙ sizes.cores;
        blocks = sizes.blocks;
        task_queues = bounded_filtered here old.settings.task_queue old.queues sizes.task_queues;
        commit_queues = bounded_filtered unmarked old.settings.commit_queue old.finished sizes.commit_queues;
        core_counts = All-map (λ held. length held ≡ old.settings.cores) (map (freed_core abort.marks)) old.cores
            (All-weaker (λ held. length held ≡ old.settings.cores) (λ held. length (map (freed_core abort.marks) held) ≡ old.settings.cores)
            (λ held is. length-map held (freed_core abort.marks) ∙ is) old.cores sizes.core_counts);
        queued_are = λ tile id. (queued_forth tile id, queued_back tile id);
        finished_are = λ tile id. (finished_forth tile id, finished_back tile id);
        held_are = λ tile core id. (held_forth tile core id, held_back tile core id);
        kinds =
            each_now abort (λ id t. t.kinds < 2 ^ depth_of t) (λ id t there out. sizes.kinds id t there) (λ id now back. sizes.kinds id back.was back.there);
        bytes =
            each_now abort (λ id t. length t.bytes ≤ MAX_EMITTED) (λ id t there out. sizes.bytes id t there) (λ id now back. omega arith);
        spilled = sizes.spilled;
      }

  pub abort_keeps_sizes : SoundSizes new
  abort_keeps_sizes = subst SoundSizes (sym new_is) listed_sizes
