-- The dispatched tasks of a tile are those on its cores and in its commit queue.
use Rattle.std.proofs.Common.{◌≡◌, ◌⊎◌, ◌<◌, ◌≤◌, ◌+◌, length, take, ℕ, true, List, Option, Some, None}
use Rattle.std.proofs.Common.{refl, sym, ap, subst, ◌∙◌, inl, inr, slice_get, slice_index_or}
use Rattle.std.specs.Prelude.{Contains, IfSome, IsSome, is_some, option_map, unwrap_or}
use Rattle.std.proofs.lemmas.List.Elements.{Contains-get_or}
use Rattle.std.proofs.lemmas.Option.{slice_get-map, slice_get-get_or, slice_get_within, get_or_from_slice_get}
use Rattle.rv_core.specs.declared.state.Core.{Core}
use Rattle.spec_state.specs.declared.task.Status.{Status}
use Rattle.spec_state.specs.declared.task.Status.TheVariants.{Idle, Running, Trapped, Finished}
use Rattle.spec_state.specs.declared.task.Task.{Task}
use Rattle.spec_state.specs.declared.task.TaskId.{TaskId}
use Rattle.spec_state.specs.View.{View, task_at, finished_at, cores_at, core_ids}
use Rattle.spec_state.specs.Tasks.{kept_core}
use Rattle.spec_state.specs.Queries.{IsOnCore, IsFinished, IsDispatched}
use Rattle.spec_state.specs.Picks.{IsPick, IsEither, IsOwn, latest_first}
use Rattle.spec_state.specs.Stored.{HasCore, IsStored}
use Rattle.spec_state.proofs.Picks.{IsAmong, one_task, joined, next_pick, own_pick, picked_same, all_seen, by_latest}

-- the task of an id in a list of ids
abbrev pub IsListed : View → ℕ → ℕ → Task → Type 0
IsListed view n = IsOwn view (Some (record { 0 = n }))

pub own_there : (view : View) (one : Option TaskId) (k : ℕ) (t : Task) → IsOwn view one k t → task_at view k ≡ Some t
own_there view one k t own = own.1

pub listed_there : (view : View) (n k : ℕ) (t : Task) → IsListed view n k t → task_at view k ≡ Some t
listed_there view n k t own = own.1

same_id : (n k : ℕ) → ◌≡◌ {A = Option TaskId} (Some (record { 0 = n })) (Some (record { 0 = k })) → n ≡ k
same_id n k is = ap (λ (o : Option TaskId). unwrap_or (option_map (λ (id : TaskId). id.0) o) 0) is

held_one : (o : Option (Option TaskId)) (k : ℕ) → option_map (option_map (λ (id : TaskId). id.0)) o ≡ Some (Some k)
    → o ≡ Some (Some (record { 0 = k }))
held_one None k is = absurd (cc (is))
held_one (Some None) k is = absurd (cc (is))
held_one (Some (Some id)) k is =
    (let same : id.0 ≡ k = cc in ap (λ (n : ℕ). let one : TaskId = record { 0 = n } in Some (Some one)) same)

keeps_core : (core : Core) (held : ℕ) (status : Status) → HasCore status held → is_some (kept_core status core) ≡ true
keeps_core core held Idle has = absurd has
keeps_core core held (Running tile_core) has = refl
keeps_core core held (Trapped tile_core cause) has = refl
keeps_core core held Finished has = absurd has

module _ (size : ℕ) (view : View) (stored : IsStored size view) (tile : ℕ) where
  module _ (cores : List (Option TaskId)) (are : core_ids cores ≡ cores_at view tile) where
    held_in : (id : TaskId) (has : Contains cores (Some id)) → slice_get (cores_at view tile) has.0 ≡ Some (Some id.0)
    held_in id has =
        ap (λ (ids : List (Option ℕ)). slice_get ids has.0) (sym are)
        ∙ slice_get-map (option_map (λ (id : TaskId). id.0)) cores has.0
        ∙ ap (option_map (option_map (λ (id : TaskId). id.0)))
        (slice_get-get_or cores has.0 (Some id) has.1 ∙ ap Some (has.2))

    -- what a core holds is a task
    pub core_live : (held : Option TaskId) → Contains cores held → IfSome held (λ id. IsSome (task_at view id.0))
    core_live None has = tt
    core_live (Some id) has = ap is_some ((stored.held_are tile has.0 id.0).0 (held_in id has)).1

    -- one core more has been looked at
    pub next_core : (place : ℕ) → place < length cores → (best now : Option TaskId)
        → IsPick latest_first (IsAmong (IsOwn view) (take place cores)) best
        → IsPick latest_first (IsEither view best (slice_index_or cores place None)) now
        → IsPick latest_first (IsAmong (IsOwn view) (take (place + 1) cores)) now
    next_core place within best now was either =
        let held = slice_index_or cores place None in
        next_pick cores place None within latest_first by_latest view (IsOwn view) (own_there view) best held now was
        (own_pick latest_first by_latest view held (core_live held (Contains-get_or cores place None within))) either

    pub on_core : (k : ℕ) (t : Task) → IsAmong (IsOwn view) cores k t → (core : ℕ) × IsOnCore view tile core k t
    on_core k t of =
        let id : TaskId = record { 0 = k } in
        let has : Contains cores (Some id) = subst (Contains cores) of.2.0 of.1 in
        (has.0, record { held = held_in id has; there = of.2.1 })

    pub from_core : (k : ℕ) (t : Task) → (core : ℕ) × IsOnCore view tile core k t → IsAmong (IsOwn view) cores k t
    from_core k t on =
        let id : TaskId = record { 0 = k } in
        let at : slice_get cores on.0 ≡ Some (Some id) =
        held_one (slice_get cores on.0) k
        (sym (slice_get-map (option_map (λ (id : TaskId). id.0)) cores on.0)
        ∙ ap (λ (ids : List (Option ℕ)). slice_get ids on.0) are ∙ on.1.held) in (
          Some id,
          (
            on.0,
            slice_get_within cores on.0 (Some id) at,
            get_or_from_slice_get cores on.0 (Some id)
                (Some id) at,
          ),
          (refl, on.1.there),
        )

    -- all cores have been looked at
    pub all_cores : (count : ℕ) → length cores ≤ count → (best : Option TaskId)
        → IsPick latest_first (IsAmong (IsOwn view) (take count cores)) best
        → IsPick latest_first (λ k t. (core : ℕ) × IsOnCore view tile core k t) best
    all_cores count all best is =
        picked_same latest_first (IsAmong (IsOwn view) cores)
        (λ k t. (core : ℕ) × IsOnCore view tile core k t) on_core from_core best
        (all_seen latest_first (IsOwn view) cores count all best is)

  module _ (ids : List ℕ) (are : ids ≡ finished_at view tile) where
    -- a finished id is that of a task
    pub finished_live : (id : ℕ) → Contains ids id → IsSome (task_at view id)
    finished_live id has =
        ap is_some ((stored.finished_are tile id).0 (subst (λ (ns : List ℕ). Contains ns id) are has)).1

    -- one finished task more has been looked at
    pub next_finished : (place : ℕ) → place < length ids → (best now : Option TaskId)
        → IsPick latest_first (IsAmong (IsListed view) (take place ids)) best
        → IsPick latest_first (IsEither view best (Some (record { 0 = slice_index_or ids place 0 }))) now
        → IsPick latest_first (IsAmong (IsListed view) (take (place + 1) ids)) now
    next_finished place within best now was either =
        let id = slice_index_or ids place 0 in
        next_pick ids place 0 within latest_first by_latest view (IsListed view) (listed_there view) best
        (Some (record { 0 = id })) now was
        (own_pick latest_first by_latest view (Some (record { 0 = id }))
        (finished_live id (Contains-get_or ids place 0 within))) either

    pub in_finished : (k : ℕ) (t : Task) → IsAmong (IsListed view) ids k t → IsFinished view tile k t
    in_finished k t of =
        let same : of.0 ≡ k = same_id of.0 k of.2.0 in
        record {
          queued = subst (λ (ns : List ℕ). Contains ns k) are
              (subst (Contains ids) same of.1);
          there = of.2.1;
        }

    pub from_finished : (k : ℕ) (t : Task) → IsFinished view tile k t → IsAmong (IsListed view) ids k t
    from_finished k t is = (k, subst (λ (ns : List ℕ). Contains ns k) (sym are) is.queued, (refl, is.there))

    -- all of them have been looked at
    pub all_finished : (count : ℕ) → length ids ≤ count → (best : Option TaskId)
        → IsPick latest_first (IsAmong (IsListed view) (take count ids)) best
        → IsPick latest_first (IsFinished view tile) best
    all_finished count all best is =
        picked_same latest_first (IsAmong (IsListed view) ids) (IsFinished view tile) in_finished from_finished best
        (all_seen latest_first (IsListed view) ids count all best is)

  -- a task that keeps a core is dispatched
  dispatched_by : (k : ℕ) (t : Task) → task_at view k ≡ Some t → t.tile ≡ tile
      → is_some (kept_core t.status t.core) ≡ true → IsDispatched view tile k t
  dispatched_by k t at own keeps = record {
    queued = (stored.queued_are tile k).1
        (t, at, own, tt);
    there = at;
    dispatched = (stored.tasks k t at).dispatched ∙ keeps;
  }

  pub on_is_dispatched : (k : ℕ) (t : Task) → (core : ℕ) × IsOnCore view tile core k t → IsDispatched view tile k t
  on_is_dispatched k t on =
      let found = (stored.held_are tile on.0 k).0 on.1.held in
      let same = one_task view k found.0 t found.1 on.1.there in
      subst (IsDispatched view tile k) same
      (dispatched_by k found.0 found.1 found.2 (keeps_core found.0.core on.0 found.0.status found.3))

  pub finished_is_dispatched : (k : ℕ) (t : Task) → IsFinished view tile k t → IsDispatched view tile k t
  finished_is_dispatched k t is =
      let found = (stored.finished_are tile k).0 is.queued in
      let same = one_task view k found.0 t found.1 is.there in
      subst (IsDispatched view tile k) same
      (dispatched_by k found.0 found.1 found.2 (ap (λ status. is_some (kept_core status found.0.core)) found.3))

  pub by_place : (k : ℕ) (t : Task) → IsDispatched view tile k t
      → ((core : ℕ) × IsOnCore view tile core k t) ⊎ IsFinished view tile k t
  by_place k t is =
      let found = (stored.queued_are tile k).0 is.queued in
      let same = one_task view k found.0 t found.1 is.there in
      let own : t.tile ≡ tile = ap (λ (u : Task). u.tile) (sym same) ∙ found.2 in
      at_status t.status own refl (sym (stored.tasks k t is.there).dispatched ∙ is.dispatched)
    where
      at_status : (status : Status) → t.tile ≡ tile → t.status ≡ status → is_some (kept_core t.status t.core) ≡ true
          → ((core : ℕ) × IsOnCore view tile core k t) ⊎ IsFinished view tile k t
      at_status Idle own at keeps = absurd (cc (ap (λ s. is_some (kept_core s t.core)) at, keeps))
      at_status (Running core) own at keeps =
          inl (
            core,
            record {
              held = (stored.held_are tile core k).1
                  (t, is.there, own, subst (λ s. HasCore s core) (sym at) refl);
              there = is.there;
            },
          )
      at_status (Trapped core cause) own at keeps =
          inl (
            core,
            record {
              held = (stored.held_are tile core k).1
                  (t, is.there, own, subst (λ s. HasCore s core) (sym at) refl);
              there = is.there;
            },
          )
      at_status Finished own at keeps =
          inr (record { queued = (stored.finished_are tile k).1 (t, is.there, own, at); there = is.there })

  -- the later of those on a core and in the commit queue
  pub latest_of_both : (held finished best : Option TaskId)
      → IsPick latest_first (λ k t. (core : ℕ) × IsOnCore view tile core k t) held
      → IsPick latest_first (IsFinished view tile) finished
      → IsPick latest_first (IsEither view held finished) best → IsPick latest_first (IsDispatched view tile) best
  latest_of_both held finished best on_a_core in_queue either =
      joined latest_first by_latest view (λ k t. (core : ℕ) × IsOnCore view tile core k t) (IsFinished view tile)
      (IsDispatched view tile)
      (λ k t on. (on_is_dispatched k t on, on.1.there))
      (λ k t is. (finished_is_dispatched k t is, is.there)) by_place held finished best on_a_core in_queue either
