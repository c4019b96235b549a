-- A stopped run leaves no task of depth 0, and a memory as long as the image's data.
use Rattle.std.proofs.Common.{◌≡◌, ℕ, ◌≤◌, List, [], ◌∷◌, ◌++◌, length, map, ap, ◌∙◌, All, arith}
use Rattle.std.specs.List.{AllByRecursion}
use Rattle.std.proofs.lemmas.List.Elements.{All-from_recursion}
use Rattle.std.proofs.lemmas.List.Sorted.{All-permutation, IsPermutation-sym}
use Rattle.guest_image.specs.ImageValue.{ImageValue, IsImage}
use Rattle.pending_list.specs.declared.task.PendingTask.{PendingTask}
use Rattle.run_journal.specs.declared.journal.Entry.{Entry}
use Rattle.conflict_book.specs.spec_state.declared.pending.Pending.{Pending}
use Rattle.conflict_book.specs.serial_machine.BagValue.{BagValue}
use Rattle.conflict_book.specs.serial_machine.State.{IsStack}
use Rattle.conflict_book.proofs.Below.run_law.Proved.{run_sized}
use Rattle.conflict_book.specs.spec_state.Pendings.{RunLeaves, all_pending, pending_at}
use Rattle.resume_image.proofs.Standing.{run_stands}

tasks_deep : (depth : ℕ) (ts : List PendingTask) (rest : List Pending) → 1 ≤ depth
    → AllByRecursion (λ (p : Pending). 1 ≤ p.depth) rest
    → AllByRecursion (λ (p : Pending). 1 ≤ p.depth) (map (pending_at depth) ts ++ rest)
tasks_deep depth [] rest deep each = each
tasks_deep depth (t ∷ ts) rest deep each = (deep, tasks_deep depth ts rest deep each)

stack_deep : (stack : List BagValue) → IsStack stack → AllByRecursion (λ (p : Pending). 1 ≤ p.depth) (all_pending stack)
stack_deep [] is = tt
stack_deep (bag ∷ outer) is =
    tasks_deep bag.depth bag.tasks (all_pending outer) (omega (arith, is.0)) (stack_deep outer is.2)

pub left_deep : (image : ImageValue) (budget : ℕ) (journal : List Entry) (memory output : List ℕ) (pendings : List Pending)
    → RunLeaves image budget journal memory output pendings → All (λ (p : Pending). 1 ≤ p.depth) pendings
left_deep image budget journal memory output pendings left =
    All-permutation (λ (p : Pending). 1 ≤ p.depth) (all_pending left.state.stack) pendings
    (IsPermutation-sym pendings (all_pending left.state.stack) left.pending.held)
    (All-from_recursion (λ (p : Pending). 1 ≤ p.depth) (all_pending left.state.stack)
    (stack_deep left.state.stack (run_stands image budget journal left.state left.run).stack))

pub left_sized : (image : ImageValue) (budget : ℕ) (journal : List Entry) (memory output : List ℕ) (pendings : List Pending)
    → IsImage image
    → RunLeaves image budget journal memory output pendings → length memory ≡ image.data_size
left_sized image budget journal memory output pendings within left =
    ap length left.memory_is ∙ run_sized image budget journal left.state within left.run
