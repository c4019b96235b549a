-- A load or a store that a task asks for lies within each memory that reaches as far as its data.
use Rattle.std.proofs.Common.{◌≡◌, ◌≤◌, ◌+◌, ◌-◌, ◌%◌, ℕ, refl, inl, inr, arith}
use Rattle.guest_image.specs.declared.memory_map.TheConstants.{DATA_START}
use Rattle.rv_core.specs.declared.state.Core.{Core}
use Rattle.rv_core.specs.declared.state.Stop.{Stop}
use Rattle.rv_core.specs.declared.state.Stop.TheVariants as stop
use Rattle.rv_core.specs.Legs.{StopIsInData}
use Rattle.rv_core.specs.Memory.{load_width, store_width}
use Rattle.rv_table.specs.declared.instr.LoadWidth.{LoadWidth}
use Rattle.rv_table.specs.declared.instr.LoadWidth.TheVariants as load
use Rattle.rv_table.specs.declared.instr.StoreWidth.{StoreWidth}
use Rattle.rv_table.specs.declared.instr.StoreWidth.TheVariants as store
use Rattle.task_desc.specs.declared.desc.Ctx.{Ctx}
use Rattle.undo_log.specs.Number.{IsAccessible}
use Rattle.task_request.specs.Conditions.{IsInData}
use Rattle.task_request.specs.Requests.{request_at}
use Rattle.task_request.proofs.Asked.{call_at-is}

-- an aligned access of so many bytes to the data lies within each memory that reaches as far
reaches_one : (size most addr : ℕ) → size ≤ most → (DATA_START ≤ addr) × (addr + 1 ≤ DATA_START + size) × (addr % 1 ≡ 0)
    → IsAccessible most (addr - DATA_START) 1
reaches_one size most addr far inside =
    record { width_is = inl refl; aligned = omega arith; within = omega (arith, inside.0, inside.1) }

reaches_two : (size most addr : ℕ) → size ≤ most → (DATA_START ≤ addr) × (addr + 2 ≤ DATA_START + size) × (addr % 2 ≡ 0)
    → IsAccessible most (addr - DATA_START) 2
reaches_two size most addr far inside =
    record {
      width_is = inr (inl refl);
      aligned = omega (arith, inside.0, inside.2);
      within = omega (arith, inside.0, inside.1);
    }

reaches_four : (size most addr : ℕ) → size ≤ most
    → (DATA_START ≤ addr) × (addr + 4 ≤ DATA_START + size) × (addr % 4 ≡ 0) → IsAccessible most (addr - DATA_START) 4
reaches_four size most addr far inside =
    record {
      width_is = inr (inr refl);
      aligned = omega (arith, inside.0, inside.2);
      within = omega (arith, inside.0, inside.1);
    }

load_reaches : (size most addr : ℕ) (width : LoadWidth) (rd : ℕ) → size ≤ most
    → StopIsInData size (stop.Load width rd addr) → IsAccessible most (addr - DATA_START) (load_width width)
load_reaches size most addr load.B rd far inside = reaches_one size most addr far inside
load_reaches size most addr load.H rd far inside = reaches_two size most addr far inside
load_reaches size most addr load.W rd far inside = reaches_four size most addr far inside
load_reaches size most addr load.Bu rd far inside = reaches_one size most addr far inside
load_reaches size most addr load.Hu rd far inside = reaches_two size most addr far inside

store_reaches : (size most addr : ℕ) (width : StoreWidth) (value : ℕ) → size ≤ most
    → StopIsInData size (stop.Store width addr value) → IsAccessible most (addr - DATA_START) (store_width width)
store_reaches size most addr store.B value far inside = reaches_one size most addr far inside
store_reaches size most addr store.H value far inside = reaches_two size most addr far inside
store_reaches size most addr store.W value far inside = reaches_four size most addr far inside

-- what a task asks for lies there, where its stop lies inside the data
pub request_at-reaches : (ctx : Ctx) (core : Core) (found : Stop) (size most : ℕ) → size ≤ most
    → StopIsInData size found → IsInData most (request_at ctx core found)
request_at-reaches ctx core (stop.Load width rd addr) size most far inside =
    load_reaches size most addr width rd far inside
request_at-reaches ctx core (stop.Store width addr value) size most far inside =
    store_reaches size most addr width value far inside
request_at-reaches ctx core stop.Call size most far inside =
    call_at-is (IsInData most) ctx core tt (λ place ts is. tt) (λ kind is. tt) (λ is. tt) (λ cause. tt)
request_at-reaches ctx core (stop.Trap cause pc) size most far inside = tt
request_at-reaches ctx core stop.Quantum size most far inside = tt
