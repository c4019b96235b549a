-- How many bytes a load or a store takes, whether they lie within a range, and the stack of a task.
use Rattle.std.specs.Prelude.{ℕ, ◌+◌, ◌-◌, ◌&&◌, ◌==◌, nat_le, Bool, List, replicate, Option, Some, None, if◌then◌else◌}
use Rattle.guest_image.specs.declared.memory_map.TheConstants.{STACK_BYTES, STACK_START}
use Rattle.undo_log.specs.Number.{number_at}
use Rattle.rv_table.specs.declared.instr.LoadWidth.{LoadWidth}
use Rattle.rv_table.specs.declared.instr.LoadWidth.TheVariants as load
use Rattle.rv_table.specs.declared.instr.StoreWidth.{StoreWidth}
use Rattle.rv_table.specs.declared.instr.StoreWidth.TheVariants as store

-- how many bytes a load reads
abbrev pub load_width : LoadWidth → ℕ
load_width load.B = 1
load_width load.H = 2
load_width load.W = 4
load_width load.Bu = 1
load_width load.Hu = 2

-- how many bytes a store writes
abbrev pub store_width : StoreWidth → ℕ
store_width store.B = 1
store_width store.H = 2
store_width store.W = 4

-- whether n bytes from an address on lie wholly in the range of so many bytes from a start on
abbrev pub is_within : ℕ → ℕ → ℕ → ℕ → Bool
is_within start size addr n = nat_le start addr && nat_le (addr + n) (start + size)

-- whether the tasks of an image of this version have a stack
abbrev pub has_stack : ℕ → Bool
has_stack version = version == 2

-- whether n bytes from an address on lie wholly in the stack; in version 1 none do
abbrev pub is_in_stack : ℕ → ℕ → ℕ → Bool
is_in_stack version addr n = has_stack version && is_within STACK_START STACK_BYTES addr n

-- the stack of a task that starts: so many zeros
unfoldable pub empty_stack : List ℕ
empty_stack = replicate 1024 0

-- what x2 is at the start: the end of the stack, and 0 where there is none
abbrev pub stack_top : ℕ → ℕ
stack_top version = if has_stack version then STACK_START + STACK_BYTES else 0

-- the number in n bytes of the stack; none where they don't lie wholly in it
abbrev pub stack_loaded : ℕ → List ℕ → ℕ → ℕ → Option ℕ
stack_loaded version stack addr n =
    if is_in_stack version addr n then Some (number_at stack (addr - STACK_START) n) else None
