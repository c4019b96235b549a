-- Why a task that may take the next turn is refused.
use Rattle.std.proofs.Common.{◌≡◌, ◌||◌, ◌<◌, nat_le, ℕ, zero, suc, List, [], ◌∷◌, Some, Bool, true, false, refl, sym}
use Rattle.std.proofs.Common.{ap, ◌∙◌, subst, arith, if◌then◌else◌, map, Contains}
use Rattle.std.specs.List.{list_any}
use Rattle.std.proofs.lemmas.Bool.Decides.{nat_tests}
use Rattle.std.proofs.lemmas.Grind.{common_steps}
use Rattle.std.proofs.lemmas.Option.{none-some, same_Some}
use Rattle.std.proofs.lemmas.Bool.{and_parts}
use Rattle.guest_image.specs.ImageValue.{ImageValue}
use Rattle.task_desc.specs.declared.desc.Name.{Name}
use Rattle.pending_list.specs.declared.task.PendingTask.{PendingTask}
use Rattle.serial_machine.specs.declared.fault.TurnFault.{TurnFault}
use Rattle.serial_machine.specs.declared.fault.TurnFault.TheVariants as faults
use Rattle.serial_machine.specs.BagValue.{BagValue}
use Rattle.serial_machine.specs.State.{SerialState}
use Rattle.serial_machine.specs.Turn.{MayTurn, RefusesTurn, find_named, is_named, is_least, is_pending}
use Rattle.serial_machine.specs.WholeRun.{IsTrapOrMemory}
use Rattle.serial_machine.proofs.Turns.{is_pending-inner}

-- a task that is found has its name among the tasks
pub found-any : (name : Name) (tasks : List PendingTask) (t : PendingTask) → find_named name tasks ≡ Some t
    → list_any (is_named name) tasks ≡ true
found-any name [] t f = absurd (none-some t f)
found-any name (x ∷ xs) t f = go (is_named name x) f (found-any name xs t) where
  go : (b : Bool) → (if b then Some x else find_named name xs) ≡ Some t
      → (find_named name xs ≡ Some t → list_any (is_named name) xs ≡ true) → (b || list_any (is_named name) xs) ≡ true
  go true f ih = refl
  go false f ih = ih f

-- no task has a smaller timestamp than a least one
pub least-none : (ts u : ℕ) (tasks : List PendingTask) → is_least ts tasks ≡ true → u < ts
    → Contains (map (λ t. t.ts) tasks) u → ⊥
least-none ts u [] h lt (k, l, e) = absurd (omega (arith, l))
least-none ts u (t ∷ tasks) h lt (zero, l, e) = first (and_parts _ _ h).0 e where
  first : nat_le ts t.ts ≡ true → t.ts ≡ u → ⊥
  first le e = grind (arith, nat_tests, common_steps)
least-none ts u (t ∷ tasks) h lt (suc k, l, e) = least-none ts u tasks (and_parts _ _ h).1 lt (k, omega (arith, l), e)

-- it is refused for its trap, or for want of memory
pub may-why : (image : ImageValue) (budget : ℕ) (s : SerialState) (name : Name) (fault : TurnFault) (bag : BagValue) (outer : List BagValue) (task : PendingTask)
    → MayTurn s.stack name bag outer task → RefusesTurn image budget s name fault → IsTrapOrMemory fault
may-why image budget s name faults.NotPending bag outer task may h =
    let a : is_pending name s.stack ≡ true = sym (is_pending-inner name s.stack) ∙ ap (is_pending name) may.top ∙ rw (found-any name bag.tasks task may.found) refl in
    let bad : true ≡ false = sym a ∙ h in
    cc
may-why image budget s name (faults.NotTop depth) bag outer task may h =
    let bags : h.bag ≡ bag = cc (h.top, may.top) in
    absurd (none-some task (sym h.elsewhere ∙ ap (λ b. find_named name b.tasks) bags ∙ may.found))
may-why image budget s name (faults.NotLeast ts) bag outer task may h =
    let bags : h.bag ≡ bag = cc (h.top, may.top) in
    let tasks : h.task ≡ task = same_Some h.task task (sym h.found ∙ ap (λ b. find_named name b.tasks) bags ∙ may.found) in
    absurd (least-none task.ts ts bag.tasks may.least (subst (λ k. ts < k.ts) tasks h.smaller) (subst (λ b. Contains (map (λ k. k.ts) b.tasks) ts) bags h.stands))
may-why image budget s name (faults.Trap c p) bag outer task may h = tt
may-why image budget s name faults.Memory bag outer task may h = tt
