-- An image with other initial data and other tasks runs each task as the first one does.
use Rattle.std.proofs.Common.{◌≡◌, refl, ap, ◌∙◌, ℕ, zero, suc, Bool, true, false, List, length, Option, Some, None}
use Rattle.std.proofs.Common.{if◌then◌else◌, nat_lt}
use Rattle.guest_image.specs.ImageValue.{ImageValue}
use Rattle.guest_image.specs.declared.image.ImageTask.{ImageTask}
use Rattle.guest_image.specs.Fetch.{fetched_word}
use Rattle.rv_table.specs.declared.instr.Effect.{Effect}
use Rattle.rv_table.specs.declared.instr.Effect.TheVariants as does
use Rattle.rv_table.specs.declared.instr.Instr.{Instr}
use Rattle.rv_table.specs.Table.{instr_of_word}
use Rattle.rv_table.specs.Exec.{acts_on}
use Rattle.rv_core.specs.declared.state.Core.{Core}
use Rattle.rv_core.specs.Legs.{effect_next, instr_next, next_at, traps, word_next}
use Rattle.task_desc.specs.declared.desc.Ctx.{Ctx}
use Rattle.conflict_book.specs.serial_machine.TaskRun.{after_next, task_at_start, task_end_after, after_instruction}
use Rattle.conflict_book.specs.serial_machine.TaskRun.{after_instructions, task_run, Continuation, Continues, Ends}
use Rattle.conflict_book.specs.serial_machine.TaskRun.{Traps, TaskEnd}
use Rattle.task_request.specs.TaskState.{TaskState}

-- the image with these initial data and these tasks
abbrev pub other : ImageValue → List ℕ → List ImageTask → ImageValue
other image memory tasks = record image { initial = memory; tasks = tasks }

module _ (image : ImageValue) (memory : List ℕ) (tasks : List ImageTask) where
  same_effect : (size : ℕ) (core : Core) (e : Effect)
      → effect_next (other image memory tasks) size core e ≡ effect_next image size core e
  same_effect size core (does.Plain pc rd value) = refl
  same_effect size core (does.Load width rd addr) = refl
  same_effect size core (does.Store width addr value) = refl
  same_effect size core does.Call = refl
  same_effect size core does.Break = refl
  same_effect size core does.Misaligned = refl

  same_instr : (size : ℕ) (core : Core) (o : Option Instr)
      → instr_next (other image memory tasks) size core o ≡ instr_next image size core o
  same_instr size core None = refl
  same_instr size core (Some instr) = same_effect size core (acts_on core.pc core.regs instr)

  same_word : (size : ℕ) (core : Core) (o : Option ℕ)
      → word_next (other image memory tasks) size core o ≡ word_next image size core o
  same_word size core None = refl
  same_word size core (Some word) = same_instr size core (instr_of_word word)

  same_next : (size budget : ℕ) (core : Core)
      → next_at (other image memory tasks) size budget core ≡ next_at image size budget core
  unfolding next_at
  same_next size budget core = go (nat_lt core.used budget)
    where
      go : (b : Bool)
          → (if b then word_next (other image memory tasks) size core
          (fetched_word image.text core.pc) else traps core 17)
          ≡ (if b then word_next image size core (fetched_word image.text core.pc) else traps core 17)
      go true = same_word size core (fetched_word image.text core.pc)
      go false = refl

  same_followed : (one two : TaskState → TaskEnd) (x : Continuation) → ((t : TaskState) → one t ≡ two t)
      → task_end_after one x ≡ task_end_after two x
  same_followed one two (Continues t) same = same t
  same_followed one two (Ends t) same = refl
  same_followed one two (Traps cause pc) same = refl

  same_steps : (budget : ℕ) (ctx : Ctx) (left : ℕ) (task : TaskState)
      → after_instructions (other image memory tasks) budget ctx left task
      ≡ after_instructions image budget ctx left task
  same_steps budget ctx zero task = refl
  same_steps budget ctx (suc left) task =
      ap (λ next. task_end_after (after_instructions (other image memory tasks) budget ctx left) (after_next ctx task next)) (same_next (length task.memory) budget task.core)
      ∙ same_followed (after_instructions (other image memory tasks) budget ctx left) (after_instructions image budget ctx left) (after_instruction image budget ctx task) (same_steps budget ctx left)

  pub same_run : (budget : ℕ) (ctx : Ctx) (entry : ℕ) (args bytes : List ℕ)
      → task_run (other image memory tasks) budget ctx entry args bytes ≡ task_run image budget ctx entry args bytes
  unfolding task_run
  same_run budget ctx entry args bytes =
      same_steps budget ctx budget (task_at_start image.version entry ctx.ts args bytes)
