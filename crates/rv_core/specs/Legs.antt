-- Plain instructions, and what a core does next. The image, how many bytes its data has, and the task budget are given.
use Rattle.std.specs.Option.{option_or}
use Rattle.std.specs.Prelude.{ℕ, ◌+◌, ◌-◌, ◌%◌, ◌==◌, not, nat_lt, List, slice_index, replicate, Option, Some, None}
use Rattle.std.specs.Prelude.{◌≡◌}
use Rattle.std.specs.Prelude.{◌≢◌, ◌<◌, ◌≤◌, zero, suc, if◌then◌else◌}
use Rattle.guest_image.specs.ImageValue.{ImageValue}
use Rattle.rv_table.specs.declared.instr.Effect.{Effect}
use Rattle.rv_table.specs.declared.instr.Effect.TheVariants as does
use Rattle.rv_table.specs.declared.instr.Instr.{Instr}
use Rattle.rv_table.specs.declared.instr.LoadWidth.{LoadWidth}
use Rattle.rv_table.specs.declared.instr.StoreWidth.{StoreWidth}
use Rattle.rv_table.specs.Table.{instr_of_word}
use Rattle.rv_table.specs.Exec.{acts_on, plus, loaded_value}
use Rattle.rv_table.specs.Regs.{set_word}
use Rattle.guest_image.specs.Fetch.{fetched_word, text_loaded}
use Rattle.rv_core.specs.declared.state.Core.{Core}
use Rattle.rv_core.specs.declared.state.Head.{Head}
use Rattle.rv_core.specs.declared.state.Stop.{Stop}
use Rattle.rv_core.specs.declared.state.Stop.TheVariants as stop
use Rattle.rv_core.specs.Next.{Next, Goes, Stops}
use Rattle.guest_image.specs.declared.memory_map.TheConstants.{DATA_START, STACK_START}
use Rattle.rv_core.specs.Memory.{load_width, store_width, is_within, is_in_stack, empty_stack, stack_top, stack_loaded}
use Rattle.undo_log.specs.Number.{after_write}

-- the core of a task that starts, in an image of a version: x10 to x12 are its arguments, x13 is its timestamp, x2 is
-- the end of its stack in version 2, no instruction is used, and the stack is zero
abbrev pub start_of : ℕ → ℕ → ℕ → List ℕ → Core
start_of version entry ts args = record {
  pc = entry;
  regs =
      set_word (set_word (set_word (set_word (set_word (replicate 32 0) 2 (stack_top version))
      10 (slice_index args 0)) 11 (slice_index args 1)) 12 (slice_index args 2)) 13 ts;
  used = 0;
  stack = empty_stack;
}

-- the core after one more instruction, which goes to a pc and writes a register
abbrev pub core_after : Core → ℕ → ℕ → ℕ → Core
core_after core pc rd value = record core { pc = pc; regs = set_word core.regs rd value; used = core.used + 1 }

-- the core after an instruction that goes on to the next one and writes no register; from 2^32 - 4 that is at 0,
-- outside the text
abbrev pub after_other_of : Core → Core
after_other_of core = record core { pc = plus core.pc 4; used = core.used + 1 }

-- the core after a load that read these bytes
abbrev pub after_load_of : Core → LoadWidth → ℕ → ℕ → Core
after_load_of core width rd raw = core_after core (plus core.pc 4) rd (loaded_value width raw)

-- the core after a store to its stack
abbrev pub after_store_of : Core → StoreWidth → ℕ → ℕ → Core
after_store_of core width addr value =
    record (after_other_of core) { stack = after_write core.stack (addr - STACK_START) (store_width width) value }

-- a trap of this cause at the core's instruction
abbrev pub traps : Core → ℕ → Next
traps core cause = Stops (stop.Trap cause core.pc)

-- the number that an aligned load takes from the text or the stack, if it lies wholly in one of them
abbrev pub plain_loaded : ImageValue → List ℕ → ℕ → ℕ → Option ℕ
plain_loaded image stack addr n =
    option_or (text_loaded image.text addr n) (stack_loaded image.version stack addr n)

-- an aligned load: from the text or the stack it is a plain instruction, and from the data it stops (trap 5: none of
-- them)
abbrev pub load_next : ℕ → Core → LoadWidth → ℕ → ℕ → Option ℕ → Next
load_next size core width rd addr (Some raw) = Goes (after_load_of core width rd raw)
load_next size core width rd addr None =
    if is_within DATA_START size addr (load_width width) then Stops (stop.Load width rd addr)
    else traps core 5

-- an aligned store: to the stack it is a plain instruction, and to the data it stops (trap 7: neither)
abbrev pub store_next : ℕ → ℕ → Core → StoreWidth → ℕ → ℕ → Next
store_next version size core width addr value =
    if is_in_stack version addr (store_width width) then Goes (after_store_of core width addr value)
    else if is_within DATA_START size addr (store_width width) then Stops (stop.Store width addr value)
    else traps core 7

-- the result of what an instruction does (trap 3: target misaligned, 4 and 6: access misaligned, 8: break)
abbrev pub effect_next : ImageValue → ℕ → Core → Effect → Next
effect_next image size core (does.Plain pc rd value) = Goes (core_after core pc rd value)
effect_next image size core (does.Load width rd addr) =
    if not (addr % load_width width == 0) then traps core 4
    else load_next size core width rd addr (plain_loaded image core.stack addr (load_width width))
effect_next image size core (does.Store width addr value) =
    if not (addr % store_width width == 0) then traps core 6
    else store_next image.version size core width addr value
effect_next image size core does.Call = Stops stop.Call
effect_next image size core does.Break = traps core 8
effect_next image size core does.Misaligned = traps core 3

-- the result of an instruction (trap 2: the word isn't an instruction)
abbrev pub instr_next : ImageValue → ℕ → Core → Option Instr → Next
instr_next image size core None = traps core 2
instr_next image size core (Some instr) = effect_next image size core (acts_on core.pc core.regs instr)

-- the result of a word (trap 1: the pc is misaligned or outside the text)
abbrev pub word_next : ImageValue → ℕ → Core → Option ℕ → Next
word_next image size core None = traps core 1
word_next image size core (Some word) = instr_next image size core (instr_of_word word)

-- what stands next at a core: the traps 17, 1 and 2 are tried in this order, then what the instruction itself does
-- (trap 17: the whole budget is used); `size` is how much data is kept, the image's wherever an opening leads
unfoldable pub next_at : ImageValue → ℕ → ℕ → Core → Next
next_at image size budget core =
    if nat_lt core.used budget then word_next image size core (fetched_word image.text core.pc)
    else traps core 17

-- one plain instruction leads from a core to another
abbrev pub PlainInstruction : ImageValue → ℕ → ℕ → Core → Core → Type 0
PlainInstruction image size budget from to = next_at image size budget from ≡ Goes to

-- n plain instructions lead from a core to another
abbrev pub PlainInstructions : ImageValue → ℕ → ℕ → ℕ → Core → Core → Type 0
PlainInstructions image size budget zero from to = from ≡ to
PlainInstructions image size budget (suc n) from to =
    (mid : Core) × PlainInstructions image size budget n from mid × PlainInstruction image size budget mid to

-- a run of at most quantum plain instructions, as long as nothing stops it, and what it stops at
pub record IsLeg (image : ImageValue) (size budget quantum : ℕ) (from to : Core) (steps : ℕ)
    (found : Stop) : Type 0 where
  pub run : PlainInstructions image size budget steps from to
  pub bound : steps ≤ quantum
  pub full : steps ≡ quantum → found ≡ stop.Quantum
  pub next : steps < quantum → next_at image size budget to ≡ Stops found
  pub other : steps < quantum → found ≢ stop.Quantum

-- a load or a store that stands next is aligned and lies wholly in data of this size, so that both machines reach
-- memory without a test
abbrev pub StopIsInData : ℕ → Stop → Type 0
StopIsInData size (stop.Load width rd addr) =
    (DATA_START ≤ addr) × (addr + load_width width ≤ DATA_START + size) × (addr % load_width width ≡ 0)
StopIsInData size (stop.Store width addr value) =
    (DATA_START ≤ addr) × (addr + store_width width ≤ DATA_START + size) × (addr % store_width width ≡ 0)
StopIsInData size stop.Call = Unit {0}
StopIsInData size (stop.Trap cause pc) = Unit {0}
StopIsInData size stop.Quantum = Unit {0}

-- what the code gives for an instruction: it went on to this core, or it stopped
abbrev pub next_given : Core → Option Stop → Next
next_given core None = Goes core
next_given core (Some found) = Stops found

-- a core of its parts
abbrev pub core_of_parts : Head → List ℕ → Core
core_of_parts head stack = record { pc = head.pc; regs = head.regs; used = head.used; stack = stack }
