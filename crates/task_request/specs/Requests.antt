-- What a task asks for at the core where a leg of it has stopped.
use Rattle.std.specs.Prelude.{ℕ, ◌-◌, ◌%◌, ◌==◌, [], ◌∷◌, slice_index, Result, Ok, Err, if◌then◌else◌}
use Rattle.guest_image.specs.declared.memory_map.TheConstants.{DATA_START}
use Rattle.rv_core.specs.declared.state.Core.{Core}
use Rattle.rv_core.specs.declared.state.Stop.{Stop}
use Rattle.rv_core.specs.declared.state.Stop.TheVariants as stop
use Rattle.rv_core.specs.Memory.{store_width}
use Rattle.task_desc.specs.declared.desc.Ctx.{Ctx}
use Rattle.task_desc.specs.declared.desc.Place.{Place}
use Rattle.task_desc.specs.declared.desc.Place.TheVariants.{Same, Sub, Super}
use Rattle.task_desc.specs.declared.desc.Spawn.{Spawn}
use Rattle.task_desc.specs.Calls.{allowed_spawn, sub_allowed, byte_allowed}
use Rattle.task_request.specs.declared.request.Request.{Request}
use Rattle.task_request.specs.declared.request.Request.TheVariants.{Continue, Load, Store, Enqueue, MakeSub, Emit, End}
use Rattle.task_request.specs.declared.request.Request.TheVariants.{Trap}

-- the value of a register
abbrev pub register_at : Core → ℕ → ℕ
register_at core number = slice_index core.regs number

-- the child that an enqueue describes: entry address, timestamp, three arguments and hint are in x10 to x15
abbrev pub spawn_at : Core → Place → Spawn
spawn_at core place = record {
  place = place;
  entry = register_at core 10;
  ts = register_at core 11;
  args = register_at core 12 ∷ register_at core 13 ∷ register_at core 14 ∷ [];
  hint = register_at core 15;
}

-- the request that a rule allows, or its trap
abbrev pub unless_trap : {A : Type 0} → (A → Request) → Result A ℕ → Request
unless_trap request (Ok value) = request value
unless_trap request (Err cause) = Trap cause

-- an enqueue to a domain: the child has the timestamp that the domain takes
abbrev pub enqueue_at : Ctx → Core → Place → Request
enqueue_at ctx core place =
    let spawn = spawn_at core place in
    unless_trap (λ ts. Enqueue (record spawn { ts = ts })) (allowed_spawn ctx spawn)

-- a subdomain, of the kind in x10
abbrev pub sub_at : Ctx → Core → Request
sub_at ctx core = unless_trap MakeSub (sub_allowed ctx (register_at core 10))

-- a byte, the low one of x10
abbrev pub byte_at : Ctx → Core → Request
byte_at ctx core = unless_trap (λ allowed. Emit (register_at core 10 % 256)) (byte_allowed ctx)

-- an ECALL asks for what x17 says: 0 to end, 1 to 3 to enqueue to its own domain, its subdomain and its
-- superdomain, 4 to make its subdomain, 5 to emit a byte; any other number is trap 9
unfoldable pub call_at : Ctx → Core → Request
call_at ctx core =
    let number = register_at core 17 in
    if number == 0 then End
    else if number == 1 then enqueue_at ctx core Same
    else if number == 2 then enqueue_at ctx core Sub
    else if number == 3 then enqueue_at ctx core Super
    else if number == 4 then sub_at ctx core
    else if number == 5 then byte_at ctx core
    else Trap 9

-- what the stop of a leg, at this core, asks for under what the task's calls depend on now
abbrev pub request_at : Ctx → Core → Stop → Request
request_at ctx core (stop.Load width rd addr) = Load width rd (addr - DATA_START)
request_at ctx core (stop.Store width addr value) = Store (addr - DATA_START) (store_width width) value
request_at ctx core stop.Call = call_at ctx core
request_at ctx core (stop.Trap cause pc) = Trap cause
request_at ctx core stop.Quantum = Continue
