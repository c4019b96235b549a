-- An abort keeps the group of memory.
use Rattle.std.proofs.Common.{◌≡◌, ℕ, Bool, true, false, Some, refl, sym, ap, subst, ◌∙◌, inl, inr, arith}
use Rattle.memory_law.specs.Chain.{IsChained}
use Rattle.memory_law.specs.Tasks.{IsLineSize}
use Rattle.memory_law.proofs.Proved.{abort_keeps_chain}
use Rattle.spec_state.specs.declared.task.Task.{Task}
use Rattle.spec_state.specs.Settings.{IsLine}
use Rattle.spec_state.specs.View.{View, task_at}
use Rattle.spec_state.specs.Filters.{HasNotes}
use Rattle.spec_state.specs.Groups.{logged_tasks}
use Rattle.spec_state.specs.Aborts.{Aborts, is_marked}
use Rattle.spec_law.specs.AbortLaws.{AbortKeepsSoundMemory}
use Rattle.spec_law.proofs.Accesses.Noted.{none_noted}
use Rattle.spec_law.proofs.Aborted.Taken.{unmarked_stays, marked_is_back, holds_later, logs_taken_back}

-- a line of the settings has as many bytes as a line may have
pub line_sized : (line : ℕ) → IsLine line → IsLineSize line
line_sized line (inl is) = subst IsLineSize (sym is) (record { some = omega arith; fours = refl })
line_sized line (inr (inl is)) = subst IsLineSize (sym is) (record { some = omega arith; fours = refl })
line_sized line (inr (inr (inl is))) = subst IsLineSize (sym is) (record { some = omega arith; fours = refl })
line_sized line (inr (inr (inr (inl is)))) = subst IsLineSize (sym is) (record { some = omega arith; fours = refl })
line_sized line (inr (inr (inr (inr is)))) = subst IsLineSize (sym is) (record { some = omega arith; fours = refl })

-- an abort keeps what filters say of logs
noted_by : {firsts : ℕ → Type 0} {old : View} {aborted : ℕ} {new : View} → Aborts firsts old aborted new
    → ((id : ℕ) (task : Task) → task_at old id ≡ Some task → HasNotes old.settings task.lines task.log)
    → (id : ℕ) (task : Task) → task_at new id ≡ Some task → HasNotes old.settings task.lines task.log
noted_by {old} abort noted id task at = by_mark (is_marked abort.marks id) refl
  where
    by_mark : (b : Bool) → is_marked abort.marks id ≡ b → HasNotes old.settings task.lines task.log
    by_mark false out = noted id task (sym (unmarked_stays abort id out) ∙ at)
    by_mark true taken =
        let back = marked_is_back abort id task taken at in
        subst (λ t. HasNotes old.settings t.lines t.log) (sym back.is) (none_noted old.settings)

pub abort_keeps_memory : AbortKeepsSoundMemory
abort_keeps_memory image firsts old aborted new sound abort =
    let sized = line_sized old.settings.line sound.sizes.settings.line in
    let back = abort.memory in
    let chained =
    abort_keeps_chain old.settings.line (is_marked abort.marks) (logged_tasks old) (logged_tasks new) back.ids sound.serial.memory old.memory
    sized (holds_later abort) (logs_taken_back abort) back.by_key sound.memory.chained
    in
    let same : new.settings ≡ old.settings = ap (λ v. v.settings) abort.frame in
    record {
      chained = subst (λ s. IsChained s.line (logged_tasks new) sound.serial.memory new.memory) (sym same)
          (subst (IsChained old.settings.line (logged_tasks new) sound.serial.memory) (sym back.memory_is) chained);
      noted =
          λ id task at. subst (λ s. HasNotes s task.lines task.log) (sym same)
          (noted_by abort sound.memory.noted id task at);
    }
