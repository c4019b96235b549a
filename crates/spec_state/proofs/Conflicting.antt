-- The earliest task with which an access conflicts, over the dispatched tasks of all tiles.
use Rattle.std.proofs.Common.{◌≡◌, ◌<◌, ◌≤◌, ◌+◌, length, take, ℕ, Bool, List, Option, Some, None}
use Rattle.std.proofs.Common.{refl, sym, subst, inl, inr, arith, slice_index_or}
use Rattle.std.specs.Prelude.{IfSome, IsNone, ◌↔◌}
use Rattle.std.proofs.lemmas.Bool.{cases_eq}
use Rattle.fractal_vt.specs.Keys.{key_cmp}
use Rattle.spec_state.specs.declared.task.Task.{Task}
use Rattle.spec_state.specs.declared.task.TaskId.{TaskId}
use Rattle.spec_state.specs.View.{View, task_at, finished_at, cores_at, core_ids}
use Rattle.spec_state.specs.Queries.{IsOnCore, IsFinished, Conflicts, IsFirstConflict}
use Rattle.spec_state.specs.Picks.{IsPick, IsEither, IsOwn, ConflictsWith, IsConflictIn}
use Rattle.spec_state.specs.Stored.{IsStored}
use Rattle.spec_state.proofs.Joined.{within_lists}
use Rattle.spec_state.proofs.Picks.{IsAmong, joined, next_pick, picked_same, all_seen, own_upto}
use Rattle.spec_state.proofs.Picks.{by_key}
use Rattle.spec_state.proofs.Dispatched.{on_core, from_core, in_finished, from_finished, on_is_dispatched}
use Rattle.spec_state.proofs.Dispatched.{finished_is_dispatched, by_place}

module _ (view : View) (task : Task) (line : ℕ) (write : Bool) where
  -- the task of an item, where the access conflicts with it
  abbrev pub HasConflict : {X : Type 0} → (X → Option TaskId) → X → ℕ → Task → Type 0
  HasConflict of x k t = IsOwn view (of x) k t × ConflictsWith task line write t

  -- a task of the first tiles with which it conflicts
  abbrev pub IsConflictBelow : ℕ → ℕ → Task → Type 0
  IsConflictBelow count k t = (tile : ℕ) × (tile < count) × IsConflictIn view tile task line write k t

  -- one id alone
  pub own_conflict : (one : Option TaskId) (a : TaskId) (x : Task) → one ≡ Some a → task_at view a.0 ≡ Some x
      → ConflictsWith task line write x
      → IsPick key_cmp (λ k t. IsOwn view one k t × ConflictsWith task line write t) (Some a)
  own_conflict one a x is at conflicts = (
    x,
    ((is, at), conflicts),
    λ k t own. own_upto key_cmp by_key view a (record { 0 = k }) x t at
        (cc (own.0.0, is)) own.0.1,
  )

  -- one item more has been looked at
  pub next_conflict : {X : Type 0} (of : X → Option TaskId) (items : List X) (place : ℕ) (d : X)
      → place < length items → (best one now : Option TaskId)
      → IsPick key_cmp (IsAmong (HasConflict of) (take place items)) best
      → IsPick key_cmp (HasConflict of (slice_index_or items place d)) one
      → IsPick key_cmp (IsEither view best one) now
      → IsPick key_cmp (IsAmong (HasConflict of) (take (place + 1) items)) now
  next_conflict of items place d within best one now was own either =
      next_pick items place d within key_cmp by_key view (HasConflict of)
      (λ y k t has. has.0.1) best one now was own either

  pub no_conflict_below : IsPick key_cmp (IsConflictBelow 0) None
  no_conflict_below k t is = absurd (omega (arith, is.1))

  -- one tile more has been looked at
  pub next_tile : (count : ℕ) (best one now : Option TaskId) → IsPick key_cmp (IsConflictBelow count) best
      → IsPick key_cmp (IsConflictIn view count task line write) one
      → IsPick key_cmp (IsEither view best one) now → IsPick key_cmp (IsConflictBelow (count + 1)) now
  next_tile count best one now was own either =
      joined key_cmp by_key view (IsConflictBelow count) (IsConflictIn view count task line write)
      (IsConflictBelow (count + 1))
      (λ k t is. ((is.0, omega (arith, is.1), is.2), is.2.0.there))
      (λ k t is. ((count, omega arith, is), is.0.there))
      (λ k t is. elim (cases_eq is.0 count) [
        | inl same ↦ inr (subst (λ n. IsConflictIn view n task line write k t) same is.2)
        | inr other ↦ inl (is.0, omega (arith, is.1, other), is.2)
      ])
      best one now was own either

  module _ (size : ℕ) (stored : IsStored size view) where
    -- all cores of a tile have been looked at
    pub all_held : (tile : ℕ) (cores : List (Option TaskId)) → core_ids cores ≡ cores_at view tile → (count : ℕ)
        → length cores ≤ count → (best : Option TaskId)
        → IsPick key_cmp (IsAmong (HasConflict (λ held. held)) (take count cores)) best
        → IsPick key_cmp (λ k t. ((core : ℕ) × IsOnCore view tile core k t) × ConflictsWith task line write t) best
    all_held tile cores are count all best is =
        picked_same key_cmp (IsAmong (HasConflict (λ held. held)) cores)
        (λ k t. ((core : ℕ) × IsOnCore view tile core k t) × ConflictsWith task line write t)
        (λ k t of. (on_core size view stored tile cores are k t (of.0, of.1, of.2.0), of.2.1))
        (λ k t on. (let of = from_core size view stored tile cores are k t on.0 in (of.0, of.1, (of.2, on.1))))
        best (all_seen key_cmp (HasConflict (λ held. held)) cores count all best is)

    -- its commit queue has been looked at
    pub all_listed : (tile : ℕ) (ids : List ℕ) → ids ≡ finished_at view tile → (count : ℕ) → length ids ≤ count
        → (best : Option TaskId)
        → IsPick key_cmp (IsAmong (HasConflict (λ n. Some (record { 0 = n }))) (take count ids)) best
        → IsPick key_cmp (λ k t. IsFinished view tile k t × ConflictsWith task line write t) best
    all_listed tile ids are count all best is =
        picked_same key_cmp (IsAmong (HasConflict (λ n. Some (record { 0 = n }))) ids)
        (λ k t. IsFinished view tile k t × ConflictsWith task line write t)
        (λ k t of. (in_finished size view stored tile ids are k t (of.0, of.1, of.2.0), of.2.1))
        (λ k t has. (let of = from_finished size view stored tile ids are k t has.0 in (of.0, of.1, (of.2, has.1))))
        best (all_seen key_cmp (HasConflict (λ n. Some (record { 0 = n }))) ids count all best is)

    -- both have been looked at
    pub conflict_of_both : (tile : ℕ) (held finished best : Option TaskId)
        → IsPick key_cmp (λ k t. ((core : ℕ) × IsOnCore view tile core k t) × ConflictsWith task line write t) held
        → IsPick key_cmp (λ k t. IsFinished view tile k t × ConflictsWith task line write t) finished
        → IsPick key_cmp (IsEither view held finished) best
        → IsPick key_cmp (IsConflictIn view tile task line write) best
    conflict_of_both tile held finished best on_a_core in_queue either =
        joined key_cmp by_key view
        (λ k t. ((core : ℕ) × IsOnCore view tile core k t) × ConflictsWith task line write t)
        (λ k t. IsFinished view tile k t × ConflictsWith task line write t)
        (IsConflictIn view tile task line write)
        (λ k t on. ((on_is_dispatched size view stored tile k t on.0, on.1), on.0.1.there))
        (λ k t is. ((finished_is_dispatched size view stored tile k t is.0, is.1), is.0.there))
        (λ k t is. elim (by_place size view stored tile k t is.0)
        [ inl on ↦ inl (on, is.1) | inr queued ↦ inr (queued, is.1) ])
        held finished best on_a_core in_queue either

    module _ (count : ℕ) (all : length view.queues ≤ count) where
      -- a conflict is with a task of one of the tiles
      conflict_below : (k : ℕ) (c : Conflicts view task line write k) → IsConflictBelow count k c.other
      conflict_below k c =
          let queued = (stored.queued_are c.other.tile k).1 (c.other, c.later.there, refl, tt) in (
            c.other.tile,
            (let within = within_lists view.queues c.other.tile k queued in omega (arith, within, all)),
            (
              record { queued = queued; there = c.later.there; dispatched = c.later.dispatched },
              record { dispatched = c.later.dispatched; later = c.later.later; has_line = c.has_line },
            ),
          )

      abbrev is_conflict : (k : ℕ) (x : Task) → IsConflictBelow count k x → Conflicts view task line write k
      is_conflict k x is = record {
        other = x;
        later = record { there = is.2.0.there; dispatched = is.2.1.dispatched; later = is.2.1.later };
        has_line = is.2.1.has_line;
      }

      first_conflict : (best : Option TaskId) → IsPick key_cmp (IsConflictBelow count) best
          → IfSome best (λ k. IsFirstConflict view task line write k.0)
      first_conflict None is = tt
      first_conflict (Some id) is = record
          { conflict = is_conflict id.0 is.0 is.1; earliest = λ j c. is.2 j c.other (conflict_below j c) }

      no_conflict : (best : Option TaskId) → IsPick key_cmp (IsConflictBelow count) best
          → IsNone best ↔ ((k : ℕ) → Conflicts view task line write k → ⊥)
      no_conflict None is = (λ none k c. is k c.other (conflict_below k c), λ no_task. refl)
      no_conflict (Some id) is =
          (λ none. absurd (cc (none)), λ no_task. absurd (no_task id.0 (is_conflict id.0 is.0 is.1)))

      -- all tiles have been looked at
      pub conflict_some : (id : ℕ) → task_at view id ≡ Some task → (best : Option TaskId)
          → IsPick key_cmp (IsConflictBelow count) best
          → IfSome (task_at view id) (λ t. IfSome best (λ k. IsFirstConflict view t line write k.0))
      conflict_some id at best is =
          subst (λ (o : Option Task). IfSome o (λ t. IfSome best (λ k. IsFirstConflict view t line write k.0)))
          (sym at) (first_conflict best is)

      pub conflict_none : (id : ℕ) → task_at view id ≡ Some task → (best : Option TaskId)
          → IsPick key_cmp (IsConflictBelow count) best
          → IfSome (task_at view id) (λ t. IsNone best ↔ ((k : ℕ) → Conflicts view t line write k → ⊥))
      conflict_none id at best is =
          subst (λ (o : Option Task). IfSome o (λ t. IsNone best ↔ ((k : ℕ) → Conflicts view t line write k → ⊥)))
          (sym at) (no_conflict best is)
