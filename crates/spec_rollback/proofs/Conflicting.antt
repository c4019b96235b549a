-- The tasks with which an access conflicts stand on cores and in commit queues, so a walk over these finds them all.
use Rattle.std.proofs.Common.{◌≡◌, ◌≤◌, ℕ, ◌<◌, Bool, true, false, List, length, Option, Some, None, refl, sym}
use Rattle.std.proofs.Common.{ap, subst}
use Rattle.std.proofs.Common.{◌∙◌, inl, inr, arith, option_map, slice_get, slice_index_or, []}
use Rattle.std.specs.Prelude.{◌↔◌, ◌&&◌, is_some, IsSome, IfSome}
use Rattle.std.specs.Ordering.{is_lt}
use Rattle.std.proofs.lemmas.Bool.{and_parts, and_from}
use Rattle.std.proofs.lemmas.Option.{get_or_from_slice_get, slice_get_within, slice_get-get_or}
use Rattle.fractal_vt.specs.Keys.{key_cmp}
use Rattle.fractal_vt.proofs.Proved.{less_from}
use Rattle.spec_state.specs.declared.task.Status.{Status}
use Rattle.spec_state.specs.declared.task.Status.TheVariants.{Idle, Running, Trapped, Finished}
use Rattle.spec_state.specs.declared.task.Task.{Task}
use Rattle.spec_state.specs.View.{View, task_at, finished_at, cores_at}
use Rattle.spec_state.specs.Stored.{IsStored, HasCore}
use Rattle.spec_state.specs.Tasks.{is_dispatched, kept_core}
use Rattle.spec_state.specs.Queries.{Conflicts, HasLine}
use Rattle.spec_state.proofs.Proved.{within_lists}
use Rattle.spec_rollback.specs.Marking.{has_line, conflicts, conflicts_at, IsInTile, IsInTiles, IsMarkedIfFound, Finds}
use Rattle.spec_rollback.specs.Marking.{StandsIn, StandTasksIn, held_in, ids_in}
use Rattle.spec_rollback.specs.declared.marking.Dispatched.{Dispatched}
use Rattle.spec_rollback.specs.Marking.{FindsConflicts}

-- the line of an access, as a test
line_is : (write : Bool) (task : Task) (line : ℕ) → has_line write task line ≡ true → HasLine write task line
line_is true task line is = is
line_is false task line is = is

is_line : (write : Bool) (task : Task) (line : ℕ) → HasLine write task line → has_line write task line ≡ true
is_line true task line is = is
is_line false task line is = is

module _ (view : View) (task : Task) (line : ℕ) (write : Bool) where
  conflict_found : (id : ℕ) → conflicts_at view.tasks task line write id ≡ true → Conflicts view task line write id
  conflict_found id is = by_slot (task_at view id) refl is
    where
      by_slot : (slot : Option Task) → task_at view id ≡ slot → conflicts task line write slot ≡ true
          → Conflicts view task line write id
      by_slot None at is = absurd (cc)
      by_slot (Some other) at is =
          let one = and_parts (is_dispatched other && has_line write other line) (is_lt (key_cmp task.key other.key))
          is in
          let two = and_parts (is_dispatched other) (has_line write other line) one.0 in
          record {
            other = other;
            later = record { there = at; dispatched = two.0; later = less_from (key_cmp task.key other.key) one.1 };
            has_line = line_is write other line two.1;
          }

  finds_conflict : (id : ℕ) → Conflicts view task line write id → conflicts_at view.tasks task line write id ≡ true
  finds_conflict id c =
      ap (conflicts task line write) c.later.there
      ∙ and_from (is_dispatched c.other && has_line write c.other line) (is_lt (key_cmp task.key c.other.key))
      (and_from (is_dispatched c.other) (has_line write c.other line) c.later.dispatched
      (is_line write c.other line c.has_line))
      (ap is_lt c.later.later)

-- a dispatched task stands on a core of its tile or in its commit queue
dispatched_in_tile : (size : ℕ) (view : View) → IsStored size view → (id : ℕ) (x : Task) → task_at view id ≡ Some x
    → is_dispatched x ≡ true
    → IsInTile (cores_at view x.tile) (finished_at view x.tile) id
dispatched_in_tile size view stored id x at runs =
    by_status x.status refl (sym (stored.tasks id x at).dispatched ∙ runs)
  where
    on_core : (core : ℕ) → HasCore x.status core → IsInTile (cores_at view x.tile) (finished_at view x.tile) id
    on_core core has =
        let held = (stored.held_are x.tile core id).1 (x, at, refl, has) in
        inl (
          core,
          slice_get_within (cores_at view x.tile) core (Some id) held,
          ap (option_map (λ (one : Option ℕ). one)) held,
        )

    in_queue : x.status ≡ Finished → IsInTile (cores_at view x.tile) (finished_at view x.tile) id
    in_queue is =
        let has = (stored.finished_are x.tile id).1 (x, at, refl, is) in
        let ids = finished_at view x.tile in
        inr (
          has.0,
          has.1,
          ap (option_map (λ (one : ℕ). Some one))
              (slice_get-get_or ids has.0 id has.1 ∙ ap Some has.2),
        )

    by_status : (status : Status) → x.status ≡ status → is_some (kept_core x.status x.core) ≡ true
        → IsInTile (cores_at view x.tile) (finished_at view x.tile) id
    by_status Idle is kept = absurd (cc (kept, is))
    by_status (Running core) is kept = on_core core (subst (λ s. HasCore s core) (sym is) refl)
    by_status (Trapped core cause) is kept = on_core core (subst (λ s. HasCore s core) (sym is) refl)
    by_status Finished is kept = in_queue is

-- a dispatched task stands in one of the tiles
pub dispatched_found : (size : ℕ) (view : View) → IsStored size view → (count : ℕ) → length view.queues ≤ count
    → (id : ℕ) (x : Task) → task_at view id ≡ Some x → is_dispatched x ≡ true
    → IsInTiles view.cores view.finished count id
dispatched_found size view stored count all id x at runs =
    let queued = (stored.queued_are x.tile id).1 (x, at, refl, tt) in
    let within = within_lists view.queues x.tile id queued in
    (x.tile, omega (arith, within, all), dispatched_in_tile size view stored id x at runs)

-- what stands in a tile is a task
live_in_tile : (size : ℕ) (view : View) → IsStored size view → (tile id : ℕ)
    → IsInTile (cores_at view tile) (finished_at view tile) id → IsSome (task_at view id)
live_in_tile size view stored tile id (inl held) =
    let at = itself (slice_get (cores_at view tile) held.0) ∙ held.2 in
    let has = (stored.held_are tile held.0 id).0 at in
    ap is_some has.1
  where
    itself : (o : Option (Option ℕ)) → o ≡ option_map (λ (one : Option ℕ). one) o
    itself None = refl
    itself (Some one) = refl
live_in_tile size view stored tile id (inr queued) =
    let has = (stored.finished_are tile id).0
    (queued.0, queued.1, id_at (slice_get (finished_at view tile) queued.0) refl queued.2) in
    ap is_some has.1
  where
    id_at : (o : Option ℕ) → slice_get (finished_at view tile) queued.0 ≡ o
        → option_map (λ (one : ℕ). Some one) o ≡ Some (Some id)
        → slice_index_or (finished_at view tile) queued.0 id ≡ id
    id_at None at is = absurd (cc (is))
    id_at (Some one) at is =
        let same : one ≡ id = cc in
        get_or_from_slice_get (finished_at view tile) queued.0 one id at ∙ same

-- so where these are its tiles
pub live_in : (size : ℕ) (view : View) → IsStored size view → (tiles : Dispatched) → held_in tiles ≡ view.cores
    → ids_in tiles ≡ view.finished → StandTasksIn tiles view.tasks
live_in size view stored tiles held ids id stands =
    live_in_tile size view stored stands.0 id
    (subst (λ cores. IsInTile (slice_index_or cores stands.0 []) (finished_at view stands.0) id) held
    (subst (λ queues. IsInTile (slice_index_or (held_in tiles) stands.0 []) (slice_index_or queues stands.0 []) id) ids
    stands.2))

pub stands_in : (size : ℕ) (view : View) → IsStored size view → (tiles : Dispatched) → held_in tiles ≡ view.cores
    → ids_in tiles ≡ view.finished → length view.queues ≤ length tiles.cores.now → (id : ℕ) (x : Task)
    → task_at view id ≡ Some x → is_dispatched x ≡ true → StandsIn tiles id
stands_in size view stored tiles held ids all id x at runs =
    subst (λ cores. IsInTiles cores (ids_in tiles) (length tiles.cores.now) id) (sym held)
    (subst (λ queues. IsInTiles view.cores queues (length tiles.cores.now) id) (sym ids)
    (dispatched_found size view stored (length tiles.cores.now) all id x at runs))

-- where all tiles are looked at, the conflicts are found
pub found_conflicts : (size : ℕ) (view : View) → IsStored size view → (count : ℕ) → length view.queues ≤ count
    → (task : Task) (line : ℕ) (write : Bool) (found : ℕ) (old new : List Bool) (before after : List ℕ)
    → Finds (conflicts_at view.tasks task line write) (IsInTiles view.cores view.finished count) 0 old before found new
    after
    → FindsConflicts view task line write found new
found_conflicts size view stored count all task line write found old new before after finds =
    record { none = none; some = some }
  where
    in_tiles : (id : ℕ) (c : Conflicts view task line write id) → IsInTiles view.cores view.finished count id
    in_tiles id c = dispatched_found size view stored count all id c.other c.later.there c.later.dispatched

    is_found : (id : ℕ) → Conflicts view task line write id → IsMarkedIfFound found new id
    is_found id c = (finds.exact id).1 (inr (in_tiles id c, finds_conflict view task line write id c))

    none : found ≡ 0 → (id : ℕ) → Conflicts view task line write id → ⊥
    none is id c = (let some = (is_found id c).0 in absurd (omega (arith, some, is)))

    some : 0 < found → (id : ℕ)
        → Rattle.abort_cascade.specs.Cascade.Marked new id ↔ Conflicts view task line write id
    some is id = (
      λ marked. elim ((finds.exact id).0 (is, marked)) [
        | inl was ↦ (let none = was.0 in absurd (omega (arith, none)))
        | inr here ↦ conflict_found view task line write id here.1
      ],
      λ c. (is_found id c).1,
    )

-- the same of the parts of a view, of which the access's task is one
pub conflicts_in : (size : ℕ) (parts view : View) → parts ≡ view → IsStored size parts
    → (held : List (List (Option ℕ))) (ids : List (List ℕ)) → held ≡ parts.cores → ids ≡ parts.finished
    → (count : ℕ) → length parts.queues ≤ count → (id : ℕ) (task : Task) → task_at parts id ≡ Some task
    → (line : ℕ) (write : Bool) (found : ℕ) (old new marks : List Bool) (before after : List ℕ)
    → Finds (conflicts_at parts.tasks task line write) (IsInTiles held ids count) 0 old before found new after
    → marks ≡ new
    → IfSome (task_at view id) (λ t. FindsConflicts view t line write found marks)
conflicts_in size parts view same stored held ids held_is ids_is count all id task at line write found old new marks
    before after finds marks_are =
    subst (λ v. IfSome (task_at v id) (λ t. FindsConflicts v t line write found marks)) same
    (subst (λ (slot : Option Task). IfSome slot (λ t. FindsConflicts parts t line write found marks)) (sym at)
    (subst (FindsConflicts parts task line write found) (sym marks_are)
    (found_conflicts size parts stored count all task line write found old new before after
    (subst (λ c. Finds (conflicts_at parts.tasks task line write) (IsInTiles c parts.finished count) 0 old before found
    new after) held_is
    (subst (λ f. Finds (conflicts_at parts.tasks task line write) (IsInTiles held f count) 0 old before found new after)
    ids_is finds)))))
