-- A task that ends leaves its core for the commit queue of its tile.
use Rattle.std.proofs.Common.{◌≡◌, ◌≢◌, ◌≤◌, ◌<◌, ◌∷◌, ◌++◌, ℕ, [], length, Some, None, refl, sym, ap, subst, ◌∙◌, inl}
use Rattle.std.proofs.Common.{inr, arith, slice_get, slice_index_or, slice_set}
use Rattle.std.specs.Prelude.{All, Contains}
use Rattle.std.proofs.lemmas.Bool.{cases_eq, cases_lt}
use Rattle.std.proofs.lemmas.List.{get_or-set_other, get_or-set_same, get_or_past, length-append, length-set}
use Rattle.std.proofs.lemmas.List.Elements.{All-set, Contains-append_cases, Contains-append_left, Contains-append_right}
use Rattle.rv_core.specs.Legs.{after_other_of}
use Rattle.rv_core.specs.LegValue.{LegValue}
use Rattle.tile_queues.specs.Queue.{AreDistinct}
use Rattle.spec_state.specs.declared.task.Status.TheVariants.{Finished}
use Rattle.spec_state.specs.declared.task.Task.{Task}
use Rattle.spec_state.specs.View.{View, task_at, finished_at, cores_at}
use Rattle.spec_state.specs.Queries.{IsRunning}
use Rattle.spec_state.specs.Changes.{Finishes}
use Rattle.spec_state.specs.Stored.{HasCore, HasTask}
use Rattle.spec_state.proofs.Proved.{set_there}
use Rattle.spec_law.specs.Sound.{SoundSizes}
use Rattle.spec_law.proofs.Steps.One.{StepsOne, each_stepped, stepped_to}
use Rattle.spec_law.proofs.Steps.Sizes.{FitsLists, has_forth}
use Rattle.spec_law.proofs.Steps.Lists.{distinct_more, get_put, only_one}

module _ (old new : View) (sizes : SoundSizes old) (tile core id : ℕ) (task : Task) (leg : LegValue) (runs : IsRunning old tile core id task) (few : length (finished_at old tile) < old.settings.commit_queue) (ends : Finishes tile core id task leg old new) where
  -- the task at its end
  abbrev ended : Task
  ended = record task { core = after_other_of leg.to; status = Finished }

  -- its end is a step of it
  pub end_steps : StepsOne old new id task ended
  end_steps =
      record {
        there = runs.on.there;
        changes = ends.changes;
        rest = ends.frame
            ∙ (λ i. record old { tasks = new.tasks; memory = ap (λ v. v.memory) (sym ends.frame) i; finished = new.finished; cores = new.cores });
      }

  -- the view after it, whose lists are those of the new one
  abbrev now : View
  now = stepped_to old new

  -- a task of this id is this one
  is_task : (x : Task) → task_at old id ≡ Some x → x ≡ task
  is_task x at = let both : Some x ≡ Some task = sym at ∙ runs.on.there in cc

  -- it is one of the tile
  in_tile : task.tile ≡ tile
  in_tile =
      let has = (sizes.held_are tile core id).0 runs.on.held in
      ap (λ t. t.tile) (sym (is_task has.0 has.1)) ∙ has.2

  -- the tile is one of those that have cores
  low_core : tile < length old.cores
  low_core = elim (cases_lt tile (length old.cores)) [
    | inl low ↦ low
    | inr past ↦ absurd (cc (ap (λ held. slice_get held core) (get_or_past old.cores tile [] past), runs.on.held))
  ]

  -- and one of those that have commit queues
  low_finished : tile < length old.finished
  low_finished = omega (arith, low_core, sizes.cores, sizes.finished)

  -- the commit queue of the tile has one more, and those of others are as they were
  finished_here : finished_at now tile ≡ finished_at old tile ++ id ∷ []
  finished_here =
      ap (λ lists. slice_index_or lists tile []) ends.finished
      ∙ get_or-set_same old.finished tile (finished_at old tile ++ id ∷ []) [] low_finished

  finished_beside : (other : ℕ) → other ≢ tile → finished_at now other ≡ finished_at old other
  finished_beside other is_other =
      ap (λ lists. slice_index_or lists other []) ends.finished
      ∙ get_or-set_other old.finished tile other (finished_at old tile ++ id ∷ []) [] is_other

  -- the cores of the tile are those of before, but for one
  cores_here : cores_at now tile ≡ slice_set (cores_at old tile) core None
  cores_here =
      ap (λ lists. slice_index_or lists tile []) ends.cores
      ∙ get_or-set_same old.cores tile (slice_set (cores_at old tile) core None) [] low_core

  -- the core is free
  core_free : slice_get (cores_at now tile) core ≡ Some None
  core_free = ap (λ held. slice_get held core) cores_here ∙ get_put (cores_at old tile) core None (Some id) runs.on.held

  -- each other core holds what it held
  cores_beside : (other c : ℕ) → (other ≡ tile → c ≡ core → ⊥)
      → slice_get (cores_at now other) c ≡ slice_get (cores_at old other) c
  cores_beside other c beside = elim (cases_eq other tile) [
    | inl same ↦
        ap (λ n. slice_get (cores_at now n) c) same ∙ ap (λ held. slice_get held c) cores_here
        ∙ set_there (cores_at old tile) core c None (beside same) ∙ ap (λ n. slice_get (cores_at old n) c) (sym same)
    | inr is_other ↦
        ap (λ lists. slice_get (slice_index_or lists other []) c) ends.cores
        ∙ ap (λ held. slice_get held c) (get_or-set_other old.cores tile other (slice_set (cores_at old tile) core None) [] is_other)
  ]

  -- it was not in the commit queue
  absent : Contains (finished_at old tile) id → ⊥
  absent has =
      let was = (sizes.finished_are tile id).0 has in
      absurd (cc (sym (ap (λ t. t.status) (is_task was.0 was.1)) ∙ was.3, runs.running))

  -- what was in a commit queue is there still
  finished_still : (other k : ℕ) → Contains (finished_at old other) k → Contains (finished_at now other) k
  finished_still other k has = elim (cases_eq other tile) [
    | inl same ↦
        subst (λ n. Contains (finished_at now n) k) (sym same)
        (subst (λ ids. Contains ids k) (sym finished_here)
        (Contains-append_left (finished_at old tile) (id ∷ []) k (subst (λ n. Contains (finished_at old n) k) same has)))
    | inr is_other ↦ subst (λ ids. Contains ids k) (sym (finished_beside other is_other)) has
  ]

  -- the task stands in the commit queue of its tile
  finished_last : Contains (finished_at now tile) id
  finished_last =
      subst (λ ids. Contains ids id) (sym finished_here) (Contains-append_right (finished_at old tile) (id ∷ []) id (0, omega arith, refl))

  -- what was in a commit queue is a finished task of its tile still
  was_finished : (other k : ℕ) → Contains (finished_at old other) k → HasTask now other k (λ status. status ≡ Finished)
  was_finished other k has =
      has_forth old new id task ended end_steps (λ status. status ≡ Finished) (λ is. refl) other k ((sizes.finished_are other k).0 has)

  -- so with the new commit queues
  finished_forth : (other k : ℕ) → Contains (finished_at now other) k
      → HasTask now other k (λ status. status ≡ Finished)
  finished_forth other k has = elim (cases_eq other tile) [
    | inl same ↦
        subst (λ n. HasTask now n k (λ status. status ≡ Finished)) (sym same)
        (in_this (subst (λ ids. Contains ids k) finished_here (subst (λ n. Contains (finished_at now n) k) same has)))
    | inr is_other ↦ was_finished other k (subst (λ ids. Contains ids k) (finished_beside other is_other) has)
  ]
    where
      in_this : Contains (finished_at old tile ++ id ∷ []) k → HasTask now tile k (λ status. status ≡ Finished)
      in_this more = elim (Contains-append_cases (finished_at old tile) (id ∷ []) k more) [
        | inl front ↦ was_finished tile k front
        | inr last ↦ (ended, ap (task_at new) (only_one id k last) ∙ ends.changes.changed, in_tile, refl)
      ]

  -- each finished task stands in the commit queue of its tile
  finished_back : (other k : ℕ) → HasTask now other k (λ status. status ≡ Finished) → Contains (finished_at now other) k
  finished_back other k (t, at, in_other, is) =
      each_stepped old new id ended ends.changes (λ j z. z.tile ≡ other → z.status ≡ Finished → Contains (finished_at now other) j)
      (λ j z not_this there in_that finished. finished_still other j ((sizes.finished_are other j).1 (z, there, in_that, finished)))
      (λ in_that finished. subst (λ n. Contains (finished_at now n) id) (sym in_tile ∙ in_that) finished_last) k t at in_other is

  -- what a core holds is a task on it
  held_forth : (other c k : ℕ) → slice_get (cores_at now other) c ≡ Some (Some k)
      → HasTask now other k (λ status. HasCore status c)
  held_forth other c k held =
      (was.0, ends.changes.others k not_this ∙ was.1, was.2, was.3)
    where
      beside : other ≡ tile → c ≡ core → ⊥
      beside same at =
          let cell : slice_get (cores_at now other) c ≡ slice_get (cores_at now tile) core = λ i. slice_get (cores_at now (same i)) (at i) in
          absurd (cc (cell, held, core_free))

      was : HasTask old other k (λ status. HasCore status c)
      was = (sizes.held_are other c k).0 (sym (cores_beside other c beside) ∙ held)

      not_this : k ≢ id
      not_this is =
          let same = is_task was.0 (ap (task_at old) (sym is) ∙ was.1) in
          let on : HasCore task.status c = subst (λ t. HasCore t.status c) same was.3 in
          let at : core ≡ c = subst (λ status. HasCore status c) runs.running on in
          beside (sym was.2 ∙ ap (λ t. t.tile) same ∙ in_tile) (sym at)

  -- each task on a core is held by it
  held_back : (other c k : ℕ) → HasTask now other k (λ status. HasCore status c)
      → slice_get (cores_at now other) c ≡ Some (Some k)
  held_back other c k (t, at, in_other, is) =
      each_stepped old new id ended ends.changes (λ j z. z.tile ≡ other → HasCore z.status c → slice_get (cores_at now other) c ≡ Some (Some j))
      (λ j z not_this there in_that holds. held_still j not_this ((sizes.held_are other c j).1 (z, there, in_that, holds)))
      (λ in_that holds. absurd holds) k t at in_other is
    where
      held_still : (j : ℕ) → j ≢ id → slice_get (cores_at old other) c ≡ Some (Some j)
          → slice_get (cores_at now other) c ≡ Some (Some j)
      held_still j not_this held = cores_beside other c beside ∙ held
        where
          beside : other ≡ tile → c ≡ core → ⊥
          beside same at' =
              let both : Some (Some j) ≡ Some (Some id) = sym held ∙ (λ i. slice_get (cores_at old (same i)) (at' i)) ∙ runs.on.held in
              not_this (cc)

  -- so all lists hold what they may
  pub end_fits : FitsLists now
  end_fits =
      record {
        finished =
            ap length ends.finished ∙ length-set old.finished tile (finished_at old tile ++ id ∷ []) ∙ sizes.finished;
        cores =
            ap length ends.cores ∙ length-set old.cores tile (slice_set (cores_at old tile) core None) ∙ sizes.cores;
        commit_queues =
            subst (All (λ ids. (length ids ≤ old.settings.commit_queue) × AreDistinct ids)) (sym ends.finished)
            (All-set (λ ids. (length ids ≤ old.settings.commit_queue) × AreDistinct ids) old.finished tile (finished_at old tile ++ id ∷ [])
            (longer, distinct_more (finished_at old tile) id (sizes.commit_queues tile [] low_finished).1 absent) sizes.commit_queues);
        core_counts = subst (All (λ held. length held ≡ old.settings.cores)) (sym ends.cores)
            (All-set (λ held. length held ≡ old.settings.cores) old.cores tile (slice_set (cores_at old tile) core None)
            (length-set (cores_at old tile) core None ∙ sizes.core_counts tile [] low_core) sizes.core_counts);
        finished_are = λ other k. (finished_forth other k, finished_back other k);
        held_are = λ other c k. (held_forth other c k, held_back other c k);
      }
    where
      longer : length (finished_at old tile ++ id ∷ []) ≤ old.settings.commit_queue
      longer = simp length-append (omega (arith, few))
