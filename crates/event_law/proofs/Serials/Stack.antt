-- When the serial machine has no pending task.
use Rattle.std.proofs.Common.{◌≡◌, ℕ, List, [], ◌∷◌, refl, sym, subst, inl}
use Rattle.pending_list.specs.declared.task.PendingTask.{PendingTask}
use Rattle.event_def.specs.serial_machine.BagValue.{BagValue}
use Rattle.event_def.specs.serial_machine.Turn.{inner}
use Rattle.event_def.specs.task_law.Commit.{Stands}
use Rattle.event_def.proofs.Below.task_law.Proved.{head_has, inner-Stands, Stands-inner}

-- where no task stands in a bag, no bag is left
pub none_stands : (stack : List BagValue) → ((depth : ℕ) (p : PendingTask) → Stands stack depth p → ⊥)
    → inner stack ≡ []
none_stands stack none = by_stack (inner stack) refl
  where
    by_stack : (left : List BagValue) → inner stack ≡ left → left ≡ []
    by_stack [] is = refl
    by_stack (bag ∷ outer) is =
        let one = head_has stack bag outer is in
        let here : Stands (inner stack) bag.depth one.0 = subst (λ (bags : List BagValue). Stands bags bag.depth one.0) (sym is) (inl (refl, one.1)) in
        absurd (none bag.depth one.0 (inner-Stands stack bag.depth one.0 here))

-- where no bag is left, no task stands in one
pub stands_nowhere : (stack : List BagValue) → inner stack ≡ [] → (depth : ℕ) (p : PendingTask) → Stands stack depth p
    → ⊥
stands_nowhere stack empty depth p stands =
    subst (λ (bags : List BagValue). Stands bags depth p) empty (Stands-inner stack depth p stands)
