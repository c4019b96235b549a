-- Tasks that move between the queues and the blocks, either way: what such a change is, and what it leaves.
use Rattle.std.proofs.Common.{◌≡◌, ◌⊎◌, ◌≤◌, nat_le, ℕ, true, length, Option, Some, sym, ap, subst, ◌∙◌, inl, inr}
use Rattle.std.proofs.Common.{is_some}
use Rattle.std.specs.Prelude.{Contains}
use Rattle.std.proofs.lemmas.Bool.{le-leb}
use Rattle.task_desc.specs.declared.desc.Name.{Name}
use Rattle.spill_store.specs.SpilledTasks.{Spilled, open_key}
use Rattle.spec_state.specs.declared.task.Creator.{Creator}
use Rattle.spec_state.specs.declared.task.Creator.TheVariants.{Committed, Live}
use Rattle.spec_state.specs.declared.task.Task.{Task}
use Rattle.spec_state.specs.View.{View, task_at}
use Rattle.spec_state.specs.Tasks.{idle_again, is_dispatched, descriptor_of, spilled_as}
use Rattle.spec_state.specs.Groups.{all_spilled, heir_unless, keyed_task, keyed_spilled, live_creator}
use Rattle.spec_state.specs.Least.{IsHeir, HasName}
use Rattle.spec_law.proofs.Tasks.Next.{above_test}
use Rattle.spec_law.proofs.Rooms.Fit.{heirs_are_one}

-- the idle task and the spilled one are the same task, under its name
pub record IsSpillOf (view : View) (t : Task) (s : Spilled) : Type 0 where
  pub idle : t ≡ idle_again view.version t
  pub name : Name
  pub named : HasName view t.creator name
  pub is : s ≡ spilled_as name (descriptor_of t)

-- a spilled task of the view that is this queued one
abbrev pub IsSpilledIn : View → View → Task → Type 0
IsSpilledIn view blocks t = (s : Spilled) × Contains (all_spilled blocks) s × IsSpillOf view t s

-- a queued task of the view that is this spilled one
abbrev pub IsQueuedIn : View → View → Spilled → Type 0
IsQueuedIn view queues s = (k : ℕ) × (t : Task) × (task_at queues k ≡ Some t) × IsSpillOf view t s

-- each task of the one view stands in the other, where it stood or, idle, on the other side
pub record Moves (old new : View) : Type 0 where
  pub queued : (k : ℕ) (t : Task) → task_at new k ≡ Some t → (task_at old k ≡ Some t) ⊎ IsSpilledIn old old t
  pub spilled : (s : Spilled) → Contains (all_spilled new) s → Contains (all_spilled old) s ⊎ IsQueuedIn old old s
  pub queued_still : (k : ℕ) (t : Task) → task_at old k ≡ Some t → (task_at new k ≡ Some t) ⊎ IsSpilledIn old new t
  pub spilled_still : (s : Spilled) → Contains (all_spilled old) s → Contains (all_spilled new) s ⊎ IsQueuedIn old new s

-- the view as it was, but for tasks, queues and blocks
abbrev pub moved_to : View → View → View
moved_to old new = record old { tasks = new.tasks; queues = new.queues; blocks = new.blocks }

-- an idle task is not dispatched
pub idle_off : (version : ℕ) (t : Task) → t ≡ idle_again version t → is_dispatched t ≡ true → ⊥
idle_off version t idle runs = absurd (cc (sym (ap (λ x. is_some x.key.tb) idle) ∙ runs))

-- a dispatched task stays under its id
pub runs_still : (old new : View) → Moves old new → (k : ℕ) (t : Task) → task_at old k ≡ Some t → is_dispatched t ≡ true
    → task_at new k ≡ Some t
runs_still old new moves k t there runs = elim (moves.queued_still k t there) [
  | inl stays ↦ stays
  | inr spilled ↦ absurd (idle_off old.version t spilled.2.idle runs)
]

-- and was there before
pub runs_was : (old new : View) → Moves old new → (k : ℕ) (t : Task) → task_at new k ≡ Some t → is_dispatched t ≡ true
    → task_at old k ≡ Some t
runs_was old new moves k t there runs = elim (moves.queued k t there) [
  | inl was ↦ was
  | inr spilled ↦ absurd (idle_off old.version t spilled.2.idle runs)
]

-- the spilled task has the queued one's key
pub spill_key : (view : View) (t : Task) (s : Spilled) → IsSpillOf view t s → open_key s ≡ t.key
spill_key view t s spill =
    ap open_key spill.is
    ∙ (λ i. record { domain = t.key.domain; ts = t.key.ts; tb = ap (λ x. x.key.tb) (sym spill.idle) i })

-- by its name a firm task has the creator that the order of tasks reads
named_creator : (view : View) (heir : Option ℕ) (c : Creator) (name : Name) → IsHeir view heir → HasName view c name
    → heir_unless (nat_le name.creator (length view.history)) heir ≡ live_creator c
named_creator view heir (Committed turn index) name is named =
    let low : name.creator ≤ length view.history = subst (λ n. n.creator ≤ length view.history) (sym named.1) named.0 in
    ap (λ b. heir_unless b heir) (le-leb name.creator (length view.history) low)
named_creator view heir (Live task index) name is named =
    ap (λ b. heir_unless b heir) (above_test name.creator (length view.history) (ap (λ n. n.creator) named.1))
    ∙ heirs_are_one view heir task.0 is named.0

-- the order of tasks reads the same of both
pub spill_keyed : (view : View) (heir : Option ℕ) (t : Task) (s : Spilled) → IsHeir view heir → IsSpillOf view t s
    → keyed_spilled (length view.history) heir s ≡ keyed_task t
spill_keyed view heir t s is spill =
    ap (keyed_spilled (length view.history) heir) spill.is
    ∙ (λ i. record (keyed_task t) {
      last = record { ts = t.key.ts; tb = ap (λ x. x.key.tb) (sym spill.idle) i };
      creator = named_creator view heir t.creator spill.name is spill.named i;
    })
