-- A task that leaves its core for its commit queue: the lists still hold what they should.
use Rattle.std.proofs.Common.{◌≡◌, ◌≢◌, ◌<◌, ◌∷◌, ◌++◌, ℕ, List, [], length, map, Option, Some, None, refl}
use Rattle.std.proofs.Common.{sym, ap, subst, ◌∙◌, inl, inr, slice_get, slice_index_or, option_map}
use Rattle.std.specs.Prelude.{All, Contains, slice_set}
use Rattle.std.proofs.lemmas.Bool.{cases_eq}
use Rattle.std.proofs.lemmas.List.{get_or-set_same, get_or-set_other, get_or-map, map-set}
use Rattle.std.proofs.lemmas.List.Elements.{Contains-push, Contains-push_cases, Contains-append_left}
use Rattle.std.proofs.lemmas.Option.{same_Some, slice_get_within}
use Rattle.spec_dispatch.specs.spec_state.declared.task.Status.TheVariants.{Running, Finished}
use Rattle.spec_dispatch.specs.spec_state.declared.task.Task.{Task}
use Rattle.spec_dispatch.specs.spec_state.declared.task.TaskId.{TaskId}
use Rattle.tile_queues.specs.Queue.{QueueValue}
use Rattle.spec_dispatch.specs.spec_state.declared.settings.Settings.{Settings}
use Rattle.spec_dispatch.specs.spec_state.Fits.{HasTiles}
use Rattle.spec_dispatch.specs.spec_state.View.{View, task_at, core_ids, finished_at, cores_at, ChangesTask}
use Rattle.spec_dispatch.specs.spec_state.Stored.{HasCore, HasTask, IsWellFormed, IsStored}
use Rattle.spec_dispatch.specs.spec_state.Changes.{with_core, TakesLeg, Finishes}
use Rattle.rv_core.specs.declared.state.Core.{Core}
use Rattle.rv_core.specs.LegValue.{LegValue}
use Rattle.rv_core.specs.Legs.{after_other_of}
use Rattle.spec_dispatch.proofs.Below.spec_state.Proved.{others_set, set_here, set_there, task_set, within_lists}
use Rattle.spec_access.specs.Asking.{CommitQueueHasRoom}
use Rattle.spec_access.proofs.Kept.{place_forth, place_back, formed_all}

module _ (size : ℕ) (old : View) (id tile core : ℕ) (task now : Task) (stored : IsStored size old)
    (there : task_at old id ≡ Some task)
    (here : task.tile ≡ tile) (runs : task.status ≡ Running core) (in_finished : tile < length old.finished)
    (in_cores : tile < length old.cores) where
  abbrev new : View
  new = record old {
    tasks = slice_set old.tasks id (Some now);
    finished = slice_set old.finished tile (finished_at old tile ++ id ∷ []);
    cores = with_core old tile core None;
  }

  changes : ChangesTask old new id (Some now)
  changes = record { changed = task_set old.tasks id task now there; others = others_set old.tasks id now }

  -- it was on its core
  was_held : slice_get (cores_at old tile) core ≡ Some (Some id)
  was_held = (stored.held_are tile core id).1 (task, there, here, subst (λ s. HasCore s core) (sym runs) refl)

  own_finished : finished_at new tile ≡ finished_at old tile ++ id ∷ []
  own_finished = get_or-set_same old.finished tile (finished_at old tile ++ id ∷ []) [] in_finished

  other_finished : (t : ℕ) → t ≢ tile → finished_at new t ≡ finished_at old t
  other_finished t other = get_or-set_other old.finished tile t (finished_at old tile ++ id ∷ []) [] other

  own_cores : cores_at new tile ≡ slice_set (cores_at old tile) core None
  own_cores = get_or-set_same old.cores tile (slice_set (cores_at old tile) core None) [] in_cores

  own_core : slice_get (cores_at new tile) core ≡ Some None
  own_core = ap (λ held. slice_get held core) own_cores
      ∙ set_here (cores_at old tile) core None (slice_get_within (cores_at old tile) core (Some id) was_held)

  -- each other core holds what it held
  other_core : (t c : ℕ) → ((t ≡ tile) × (c ≡ core) → ⊥) → slice_get (cores_at new t) c ≡ slice_get (cores_at old t) c
  other_core t c apart = elim (cases_eq t tile) [
    | inl own ↦
        ap (λ n. slice_get (cores_at new n) c) own ∙ ap (λ held. slice_get held c) own_cores
        ∙ set_there (cores_at old tile) core c None (λ same. apart (own, same))
        ∙ ap (λ n. slice_get (cores_at old n) c) (sym own)
    | inr other ↦ ap (λ held. slice_get held c)
        (get_or-set_other old.cores tile t (slice_set (cores_at old tile) core None) [] other)
  ]

  module _ (same : now.tile ≡ task.tile) (ended : now.status ≡ Finished)
      (formed : IsWellFormed size (length old.history) now) where
    finished_forth : (t k : ℕ) → Contains (finished_at new t) k → HasTask new t k (λ status. status ≡ Finished)
    finished_forth t k has = elim (cases_eq t tile) [
      | inl own ↦ elim (Contains-push_cases (finished_at old tile) id k
          (subst (λ ids. Contains ids k) own_finished (subst (λ n. Contains (finished_at new n) k) own has))) [
            | inl was ↦
                place_forth id old new task now there changes (λ status. status ≡ Finished) t k same (λ is. ended)
                ((stored.finished_are t k).0 (subst (λ n. Contains (finished_at old n) k) (sym own) was))
            | inr last ↦ (now, ap (task_at new) (sym last) ∙ changes.changed, same ∙ here ∙ sym own, ended)
          ]
      | inr other ↦
          place_forth id old new task now there changes (λ status. status ≡ Finished) t k same (λ is. ended)
          ((stored.finished_are t k).0 (subst (λ ids. Contains ids k) (other_finished t other) has))
    ]

    -- who stood in a commit queue stands there
    stays_finished : (t k : ℕ) → Contains (finished_at old t) k → Contains (finished_at new t) k
    stays_finished t k has = elim (cases_eq t tile) [
      | inl own ↦
          subst (λ n. Contains (finished_at new n) k) (sym own)
          (subst (λ ids. Contains ids k) (sym own_finished)
          (Contains-append_left (finished_at old tile) (id ∷ []) k
          (subst (λ n. Contains (finished_at old n) k) own has)))
      | inr other ↦ subst (λ ids. Contains ids k) (sym (other_finished t other)) has
    ]

    finished_back : (t k : ℕ) → HasTask new t k (λ status. status ≡ Finished) → Contains (finished_at new t) k
    finished_back t k has = elim (cases_eq k id) [
      | inl own ↦
          let it : has.0 ≡ now = same_Some has.0 now (sym has.1 ∙ ap (task_at new) own ∙ changes.changed) in
          let at : tile ≡ t = sym here ∙ sym same ∙ ap (λ x. x.tile) (sym it) ∙ has.2 in
          subst (λ n. Contains (finished_at new n) k) at
          (subst (λ ids. Contains ids k) (sym own_finished)
          (subst (Contains (finished_at old tile ++ id ∷ [])) (sym own) (Contains-push (finished_at old tile) id)))
      | inr other ↦ stays_finished t k
          ((stored.finished_are t k).1 (has.0, sym (changes.others k other) ∙ has.1, has.2, has.3))
    ]

    -- what a core holds is a task with that core; the one on which it ran holds none
    held_forth : (t c k : ℕ) → slice_get (cores_at new t) c ≡ Some (Some k)
        → HasTask new t k (λ status. HasCore status c)
    held_forth t c k held =
        let apart : (t ≡ tile) × (c ≡ core) → ⊥ = λ own. (
        let at : slice_get (cores_at new tile) core ≡ Some (Some k) = ap (λ n. slice_get (cores_at new n) core)
        (sym own.0) ∙ ap (slice_get (cores_at new t)) (sym own.1) ∙ held in
        absurd (cc (at, own_core))
        ) in
        let was = (stored.held_are t c k).0 (sym (other_core t c apart) ∙ held) in
        elim (cases_eq k id) [
          | inl own ↦
              let it : was.0 ≡ task = same_Some was.0 task (sym was.1 ∙ ap (task_at old) own ∙ there) in
              let core_is : core ≡ c = subst (λ s. HasCore s c) (ap (λ x. x.status) it ∙ runs) was.3 in
              let tile_is : t ≡ tile = sym was.2 ∙ ap (λ x. x.tile) it ∙ here in
              absurd (apart (tile_is, sym core_is))
          | inr other ↦ (was.0, changes.others k other ∙ was.1, was.2, was.3)
        ]

    held_back : (t c k : ℕ) → HasTask new t k (λ status. HasCore status c)
        → slice_get (cores_at new t) c ≡ Some (Some k)
    held_back t c k has = elim (cases_eq k id) [
      | inl own ↦
          let it : has.0 ≡ now = same_Some has.0 now (sym has.1 ∙ ap (task_at new) own ∙ changes.changed) in
          absurd (subst (λ s. HasCore s c) (ap (λ x. x.status) it ∙ ended) has.3)
      | inr other ↦
          let held = (stored.held_are t c k).1 (has.0, sym (changes.others k other) ∙ has.1, has.2, has.3) in
          let apart : (t ≡ tile) × (c ≡ core) → ⊥ = λ own. (
          let at : slice_get (cores_at old t) c ≡ Some (Some id) =
          ap (λ n. slice_get (cores_at old n) c) own.0 ∙ ap (slice_get (cores_at old tile)) own.1 ∙ was_held in
          other (cc (at, held))
          ) in
          other_core t c apart ∙ held
    ]

    pub stored_finished : IsStored size new
    stored_finished = record {
      queued_are = λ t k. (
        λ has. place_forth id old new task now there changes (λ status. Unit {0}) t k same (λ all. tt)
            ((stored.queued_are t k).0 has),
        λ has. (stored.queued_are t k).1
            (place_back id old new task now there changes (λ status. Unit {0}) t k same (λ all. tt) has),
      );
      finished_are = λ t k. (finished_forth t k, finished_back t k);
      held_are = λ t c k. (held_forth t c k, held_back t c k);
      tasks = formed_all id old new task now there changes size stored formed;
      memory = stored.memory;
    }

-- the same, where the lists are told by their equations
pub stored_ended : (size : ℕ) (old : View) (id core : ℕ) (task now : Task) (finished : List (List ℕ))
    (cores : List (List (Option ℕ))) → IsStored size old
    → task_at old id ≡ Some task → task.status ≡ Running core → task.tile < length old.finished
    → task.tile < length old.cores
    → now.tile ≡ task.tile → now.status ≡ Finished → IsWellFormed size (length old.history) now
    → finished ≡ slice_set old.finished task.tile (finished_at old task.tile ++ id ∷ [])
    → cores ≡ with_core old task.tile core None
    → IsStored size (record old { tasks = slice_set old.tasks id (Some now); finished = finished; cores = cores })
stored_ended size old id core task now finished cores stored there runs in_finished in_cores same ended formed
    finished_is cores_is =
    subst (λ lists. IsStored size
    (record old { tasks = slice_set old.tasks id (Some now); finished = lists; cores = cores })) (sym finished_is)
    (subst (λ held. IsStored size (record old {
      tasks = slice_set old.tasks id (Some now);
      finished = slice_set old.finished task.tile (finished_at old task.tile ++ id ∷ []);
      cores = held;
    })) (sym cores_is)
    (stored_finished size old id task.tile core task now stored there refl runs in_finished in_cores same ended formed))

module _ (size : ℕ) (view : View) (id : ℕ) (task : Task) (stored : IsStored size view)
    (there : task_at view id ≡ Some task) where
  -- a task is in a tile
  pub in_queues : task.tile < length view.queues
  in_queues = within_lists view.queues task.tile id ((stored.queued_are task.tile id).1 (task, there, refl, tt))

  -- a running task is on its core
  pub on_core : (core : ℕ) → task.status ≡ Running core → slice_get (cores_at view task.tile) core ≡ Some (Some id)
  on_core core runs = (stored.held_are task.tile core id).1
      (task, there, refl, subst (λ s. HasCore s core) (sym runs) refl)

  pub is_core : (core : ℕ) → task.status ≡ Running core → core < length (cores_at view task.tile)
  is_core core runs = slice_get_within (cores_at view task.tile) core (Some id) (on_core core runs)

  -- and not in the commit queue of its tile
  pub not_finished : (core : ℕ) → task.status ≡ Running core → Contains (finished_at view task.tile) id → ⊥
  not_finished core runs has =
      let was = (stored.finished_are task.tile id).0 has in
      let it : was.0 ≡ task = same_Some was.0 task (sym was.1 ∙ there) in
      absurd (cc (was.3, ap (λ x. x.status) it, runs))

  -- the core that holds it is in its tile
  tile_is : (tile core : ℕ) → slice_get (cores_at view tile) core ≡ Some (Some id) → tile ≡ task.tile
  tile_is tile core held =
      let was = (stored.held_are tile core id).0 held in
      sym was.2 ∙ ap (λ x. x.tile) (same_Some was.0 task (sym was.1 ∙ there))

  pub has_place : (old : View) → view ≡ old → CommitQueueHasRoom old id
      → length (finished_at view task.tile) < view.settings.commit_queue
  has_place old same free = at (subst (λ v. CommitQueueHasRoom v id) (sym same) free)
    where
      at : CommitQueueHasRoom view id → length (finished_at view task.tile) < view.settings.commit_queue
      at entry = subst (λ tile. length (finished_at view tile) < view.settings.commit_queue)
          (tile_is entry.0 entry.1 entry.3.held) entry.4

-- an end call
pub ends : (size : ℕ) (old seen : View) (id core held tile : ℕ) (found task : Task) (leg : LegValue) (at : Core)
    (finished : List (List ℕ)) (cores : List (List (Option ℕ)))
    → seen ≡ old → IsStored size seen → task_at seen id ≡ Some found → found.status ≡ Running held
    → TakesLeg old tile core leg id task
    → at ≡ after_other_of leg.to
    → finished ≡ slice_set seen.finished found.tile (finished_at seen found.tile ++ id ∷ [])
    → cores ≡ with_core seen found.tile held None
    → Finishes tile core id task leg old
    (record seen {
      tasks = slice_set seen.tasks id
          (Some (record found { core = at; status = Finished }));
      finished = finished;
      cores = cores;
    })
ends size old seen id core held tile found task leg at finished cores same stored there runs takes at_is finished_is
    cores_is =
    subst (λ v. Finishes tile core id task leg v
    (record seen {
      tasks = slice_set seen.tasks id
          (Some (record found { core = at; status = Finished }));
      finished = finished;
      cores = cores;
    })) same
    (record {
      changes = record {
        changed = task_set seen.tasks id found now there
            ∙ (λ i. Some (record (it i) { core = at_is i; status = Finished }));
        others = others_set seen.tasks id now;
      };
      finished = finished_is ∙ ap (λ t. slice_set seen.finished t (finished_at seen t ++ id ∷ [])) on_tile;
      cores = cores_is ∙ ap (λ t. with_core seen t held None) on_tile ∙ ap (λ c. with_core seen tile c None) on;
      frame = refl;
    })
  where
    now : Task
    now = record found { core = at; status = Finished }

    it : found ≡ task
    it = same_Some found task (sym there ∙ ap (λ v. task_at v id) same ∙ takes.runs.on.there)

    on : held ≡ core
    on = let both : Running held ≡ Running core = sym runs ∙ ap (λ t. t.status) it ∙ takes.runs.running in cc

    on_tile : found.tile ≡ tile
    on_tile = sym (tile_is size seen id found stored there tile core
        (ap (λ v. slice_get (cores_at v tile) core) same ∙ takes.runs.on.held))

-- the commit queues are as many and as large as before, and the lists of cores are as many
pub tiles_kept : (settings : Settings) (queues finished now : List QueueValue) (cores cores_now blocks : ℕ)
    → HasTiles settings queues finished cores blocks
    → length now ≡ length finished → All (λ queue. queue.capacity ≡ settings.commit_queue) now → cores_now ≡ cores
    → HasTiles settings queues now cores_now blocks
tiles_kept settings queues finished now cores cores_now blocks tiles count capacities same =
    record {
      queue_count = tiles.queue_count;
      finished_count = count ∙ tiles.finished_count;
      core_lists = same ∙ tiles.core_lists;
      block_count = tiles.block_count;
      task_queues = tiles.task_queues;
      commit_queues = capacities;
    }

-- the holders of the cores, where one core is free now
pub freed : {V : Type 0} (items : V → List (Option TaskId)) (cores : List V) (tile core : ℕ) (d after : V)
    → tile < length cores
    → items after ≡ slice_set (items (slice_index_or cores tile d)) core None
    → map (λ v. core_ids (items v)) (slice_set cores tile after)
    ≡ slice_set (map (λ v. core_ids (items v)) cores) tile
    (slice_set (slice_index_or (map (λ v. core_ids (items v)) cores) tile []) core None)
freed items cores tile core d after within is =
    let id_of : Option TaskId → Option ℕ = option_map (λ id. id.0) in
    let held : core_ids (items after) ≡ slice_set (core_ids (items (slice_index_or cores tile d))) core None =
    ap core_ids is ∙ map-set id_of (items (slice_index_or cores tile d)) core None in
    map-set (λ v. core_ids (items v)) cores tile after
    ∙ ap (slice_set (map (λ v. core_ids (items v)) cores) tile)
    (held ∙ ap (λ ids. slice_set ids core None) (sym (get_or-map (λ v. core_ids (items v)) cores tile d [] within)))
