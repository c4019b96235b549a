-- Whether the least task is a given one, by a test of where it stands.
use Rattle.std.proofs.Common.{ℕ, ◌≡◌, ◌⊎◌, inl, inr, Bool, false, Some, sym, ◌∙◌}
use Rattle.std.specs.Prelude.{◌↔◌, IsTrue}
use Rattle.event_basis.specs.spec_state.declared.task.Where.{Where}
use Rattle.event_basis.specs.spec_state.View.{View}
use Rattle.event_basis.specs.spec_state.Least.{IsLeast, IsLeastSpilled, IsTheLeast}
use Rattle.event_basis.specs.spec_state.Room.{QueueHasRoom}
use Rattle.event_basis.specs.Whereabouts.{queued_in, spilled_in}
use Rattle.event_basis.proofs.Proved.{least_where, spilled_where}

module _ (view : View) (least : Where) (is : IsLeast view least) (test : Bool) where
  -- it is the one of this id
  pub tests_least : (id : ℕ) → IsTrue test ↔ (queued_in least ≡ Some id) → IsTrue test ↔ IsTheLeast view id
  tests_least id tested =
      let at = least_where view least id is in
      (λ yes. at.1 (tested.0 yes), λ found. tested.1 (at.0 found))

  -- it is spilled in this tile
  pub tests_spilled : (tile : ℕ) → IsTrue test ↔ (spilled_in least ≡ Some tile)
      → IsTrue test ↔ IsLeastSpilled view tile
  tests_spilled tile tested =
      let at = spilled_where view least tile is in
      (λ yes. at.1 (tested.0 yes), λ found. tested.1 (at.0 found))

-- where a task queue has no free place, a task of the block may come back if it is the least one
pub may_by_least : (view : View) (tile : ℕ) (free least : Bool) → IsTrue free ↔ QueueHasRoom view tile → free ≡ false
    → IsTrue least ↔ IsLeastSpilled view tile → IsTrue least ↔ (QueueHasRoom view tile ⊎ IsLeastSpilled view tile)
may_by_least view tile free least room none is = (λ yes. inr (is.0 yes), by_case)
  where
    by_case : QueueHasRoom view tile ⊎ IsLeastSpilled view tile → IsTrue least
    by_case (inl has) = absurd (cc (sym (room.1 has) ∙ none))
    by_case (inr spilled) = is.1 spilled
