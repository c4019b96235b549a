-- What a task asks for is what the rules of calls allow, and tells at which stop it asks.
use Rattle.std.proofs.Common.{◌≡◌, ◌≢◌, ◌%◌, ◌==◌, ◌<◌, ◌≤◌, ℕ, Bool, true, false, Option, Some, None, refl, sym, subst}
use Rattle.std.proofs.Common.{◌-◌, arith, if◌then◌else◌}
use Rattle.std.specs.Prelude.{Result, Ok, Err, nat_lt}
use Rattle.std.proofs.lemmas.Bool.{ltb-true}
use Rattle.guest_image.specs.declared.image.Kind.{Kind}
use Rattle.rv_core.specs.declared.state.Core.{Core}
use Rattle.rv_core.specs.declared.state.Stop.{Stop}
use Rattle.rv_core.specs.declared.state.Stop.TheVariants as stop
use Rattle.rv_core.specs.Memory.{store_width}
use Rattle.rv_table.specs.declared.instr.LoadWidth.{LoadWidth}
use Rattle.rv_table.specs.declared.instr.StoreWidth.{StoreWidth}
use Rattle.guest_image.specs.declared.memory_map.TheConstants.{DATA_START}
use Rattle.task_desc.specs.declared.desc.Ctx.{Ctx}
use Rattle.task_desc.specs.declared.desc.Place.{Place}
use Rattle.task_desc.specs.declared.desc.Place.TheVariants.{Same, Sub, Super}
use Rattle.task_desc.specs.declared.desc.Spawn.{Spawn}
use Rattle.task_desc.specs.declared.calls.TheConstants.{MAX_BYTES, MAX_CHILDREN, MAX_DEPTH}
use Rattle.task_desc.specs.Calls.{deepest, most_children, domain_ts, is_early, one_more_child, allowed_spawn}
use Rattle.task_desc.specs.Calls.{allowed_at, allowed_sub, allowed_super, kind_of, sub_of, sub_allowed, byte_allowed}
use Rattle.task_request.specs.declared.request.Request.{Request}
use Rattle.task_request.specs.declared.request.Request.TheVariants.{Continue, Load, Store, Enqueue, MakeSub, Emit, End}
use Rattle.task_request.specs.declared.request.Request.TheVariants.{Trap}
use Rattle.task_request.specs.Conditions.{KeepsLimits, IsCall}
use Rattle.task_request.specs.Requests.{register_at, spawn_at, unless_trap, enqueue_at, call_at, request_at}

module _ (P : Request → Type 0) where
  either : (b : Bool) (x y : Request) → P x → P y → P (if b then x else y)
  either true x y h g = h
  either false x y h g = g

  -- what holds of what a rule allows, and of a trap
  unless_trap-is : {A : Type 0} (request : A → Request) (r : Result A ℕ)
      → ((value : A) → r ≡ Ok value → P (request value))
      → ((cause : ℕ) → P (Trap cause)) → P (unless_trap request r)
  unless_trap-is request (Ok value) fits traps = fits value refl
  unless_trap-is request (Err cause) fits traps = traps cause

  -- what holds of the end, of what each rule allows, and of a trap, holds of what a call asks for
  pub call_at-is : (ctx : Ctx) (core : Core) → P End
      → ((place : Place) (ts : ℕ) → allowed_spawn ctx (spawn_at core place) ≡ Ok ts → P (Enqueue (record (spawn_at core place) { ts = ts })))
      → ((kind : Kind) → sub_allowed ctx (register_at core 10) ≡ Ok kind → P (MakeSub kind))
      → (byte_allowed ctx ≡ Ok tt → P (Emit (register_at core 10 % 256)))
      → ((cause : ℕ) → P (Trap cause)) → P (call_at ctx core)
  unfolding call_at
  call_at-is ctx core ends enqueues makes emits traps =
      let number = register_at core 17 in
      either (number == 0) _ _ ends
      (either (number == 1) _ _ (at Same)
      (either (number == 2) _ _ (at Sub)
      (either (number == 3) _ _ (at Super)
      (either (number == 4) _ _ (unless_trap-is MakeSub (sub_allowed ctx (register_at core 10)) makes traps)
      (either (number == 5) _ _ (unless_trap-is (λ done. Emit (register_at core 10 % 256)) (byte_allowed ctx) (λ done is. emits is) traps)
      (traps 9))))))
    where
      at : (place : Place) → P (enqueue_at ctx core place)
      at place =
          unless_trap-is (λ ts. Enqueue (record (spawn_at core place) { ts = ts })) (allowed_spawn ctx (spawn_at core place)) (enqueues place) traps

-- the rules of calls allow the request
abbrev pub AllowedBy : Ctx → Request → Type 0
AllowedBy ctx (Enqueue child) =
    (spawn : Spawn) × (allowed_spawn ctx spawn ≡ Ok child.ts) × (child ≡ record spawn { ts = child.ts })
AllowedBy ctx (MakeSub kind) = (value : ℕ) × (sub_allowed ctx value ≡ Ok kind)
AllowedBy ctx (Emit byte) = (byte_allowed ctx ≡ Ok tt) × (byte < 256)
AllowedBy ctx other = Unit {0}

-- they allow each that a task makes
pub request_at-allowed_spawn : (ctx : Ctx) (core : Core) (found : Stop) → AllowedBy ctx (request_at ctx core found)
request_at-allowed_spawn ctx core (stop.Load width rd addr) = tt
request_at-allowed_spawn ctx core (stop.Store width addr value) = tt
request_at-allowed_spawn ctx core stop.Call =
    call_at-is (AllowedBy ctx) ctx core tt (λ place ts is. (spawn_at core place, is, refl)) (λ kind is. (register_at core 10, is))
    (λ is. (is, omega arith)) (λ cause. tt)
request_at-allowed_spawn ctx core (stop.Trap cause pc) = tt
request_at-allowed_spawn ctx core stop.Quantum = tt

-- the limits of each version are at most the greatest ones
most_children-few : (version : ℕ) → most_children version ≤ MAX_CHILDREN
most_children-few version = by_test (version == 2)
  where
    by_test : (b : Bool) → (if b then 256 else 64) ≤ MAX_CHILDREN
    by_test true = omega arith
    by_test false = omega arith

deepest-few : (version : ℕ) → deepest version ≤ MAX_DEPTH
deepest-few version = by_test (version == 2)
  where
    by_test : (b : Bool) → (if b then 16 else 8) ≤ MAX_DEPTH
    by_test true = omega arith
    by_test false = omega arith

-- a child is allowed only while its creator may make one more
allowed_spawn-limits : (ctx : Ctx) (spawn : Spawn) (ts : ℕ) → allowed_spawn ctx spawn ≡ Ok ts
    → ctx.children < MAX_CHILDREN
allowed_spawn-limits ctx spawn ts allows = by_place spawn.place allows
  where
    by_count : (b : Bool) (t : ℕ) → nat_lt ctx.children (most_children ctx.version) ≡ b
        → if◌then◌else◌ {A = Result ℕ ℕ} b (Ok t) (Err 15) ≡ Ok ts → ctx.children < MAX_CHILDREN
    by_count true t is at =
        let below = ltb-true ctx.children (most_children ctx.version) is in
        let few = most_children-few ctx.version in
        omega arith
    by_count false t is at = absurd (cc (at))

    by_time : (b : Bool) (t : ℕ) → if◌then◌else◌ {A = Result ℕ ℕ} b (Err 10) (one_more_child ctx t) ≡ Ok ts
        → ctx.children < MAX_CHILDREN
    by_time true t at = absurd (cc (at))
    by_time false t at = by_count (nat_lt ctx.children (most_children ctx.version)) t refl at

    by_sub : (sub : Option Kind) → allowed_sub ctx spawn.ts sub ≡ Ok ts → ctx.children < MAX_CHILDREN
    by_sub None at = absurd (cc (at))
    by_sub (Some kind) at = by_count (nat_lt ctx.children (most_children ctx.version)) (domain_ts kind spawn.ts) refl at

    by_super : (outer : Option Kind) → allowed_super ctx spawn.ts outer ≡ Ok ts → ctx.children < MAX_CHILDREN
    by_super None at = absurd (cc (at))
    by_super (Some kind) at = by_time (is_early kind spawn.ts ctx.floor) (domain_ts kind spawn.ts) at

    by_place : (place : Place) → allowed_at ctx spawn.ts place ≡ Ok ts → ctx.children < MAX_CHILDREN
    by_place Same at = by_time (is_early ctx.own spawn.ts ctx.ts) (domain_ts ctx.own spawn.ts) at
    by_place Sub at = by_sub ctx.sub at
    by_place Super at = by_super ctx.outer at

-- a subdomain is allowed only where none was made, and only below the greatest depth
pub sub_allowed-limits : (ctx : Ctx) (value : ℕ) (kind : Kind) → sub_allowed ctx value ≡ Ok kind
    → (ctx.sub ≡ None) × (ctx.depth ≢ MAX_DEPTH)
sub_allowed-limits ctx value kind is = by_value (nat_lt 1 value) ctx.sub refl is
  where
    by_depth : (b : Bool) → nat_lt ctx.depth (deepest ctx.version) ≡ b
        → if◌then◌else◌ {A = Result Kind ℕ} b (Ok (kind_of value)) (Err 14) ≡ Ok kind → ctx.depth ≢ MAX_DEPTH
    by_depth false deep allows = absurd (cc (allows))
    by_depth true deep allows =
        let below = ltb-true ctx.depth (deepest ctx.version) deep in
        let few = deepest-few ctx.version in
        λ same. absurd (omega arith)

    by_value : (b : Bool) (made : Option Kind) → ctx.sub ≡ made → (if b then Err 9 else sub_of ctx value made) ≡ Ok kind
        → (ctx.sub ≡ None) × (ctx.depth ≢ MAX_DEPTH)
    by_value true made at allows = absurd (cc (allows))
    by_value false None at allows = (at, by_depth (nat_lt ctx.depth (deepest ctx.version)) refl allows)
    by_value false (Some other) at allows = absurd (cc (allows))

-- a byte is allowed only while one more may be emitted
byte_allowed-limits : (ctx : Ctx) → byte_allowed ctx ≡ Ok tt → ctx.bytes < MAX_BYTES
byte_allowed-limits ctx is = by_test (nat_lt ctx.bytes MAX_BYTES) refl is
  where
    by_test : (b : Bool) → nat_lt ctx.bytes MAX_BYTES ≡ b
        → if◌then◌else◌ {A = Result (Unit {0}) ℕ} b (Ok tt) (Err 16) ≡ Ok tt → ctx.bytes < MAX_BYTES
    by_test true below allows = ltb-true ctx.bytes MAX_BYTES below
    by_test false below allows = absurd (cc (allows))

-- so what is allowed keeps the limits
pub allowed_by-limits : (ctx : Ctx) (request : Request) → AllowedBy ctx request → KeepsLimits ctx request
allowed_by-limits ctx Continue allows = tt
allowed_by-limits ctx (Load width rd offset) allows = tt
allowed_by-limits ctx (Store offset bytes value) allows = tt
allowed_by-limits ctx (Enqueue child) allows = allowed_spawn-limits ctx allows.0 child.ts allows.1
allowed_by-limits ctx (MakeSub kind) allows = sub_allowed-limits ctx allows.0 kind allows.1
allowed_by-limits ctx (Emit byte) allows = byte_allowed-limits ctx allows.0
allowed_by-limits ctx End allows = tt
allowed_by-limits ctx (Trap cause) allows = tt

-- the request is one to load, to store or to go on
abbrev pub IsNoCall : Request → Type 0
IsNoCall Continue = Unit {0}
IsNoCall (Load width rd offset) = Unit {0}
IsNoCall (Store offset bytes value) = Unit {0}
IsNoCall other = ⊥

-- a call asks for none of these
pub call_at-no_other : (ctx : Ctx) (core : Core) → IsNoCall (call_at ctx core) → ⊥
call_at-no_other ctx core =
    call_at-is (λ request. IsNoCall request → ⊥) ctx core (λ h. h) (λ place ts is h. h) (λ kind is h. h) (λ is h. h) (λ cause h. h)

-- a call is asked for at an ECALL
pub request_at-call : (ctx : Ctx) (core : Core) (found : Stop) → IsCall (request_at ctx core found) → found ≡ stop.Call
request_at-call ctx core (stop.Load width rd addr) call = absurd call
request_at-call ctx core (stop.Store width addr value) call = absurd call
request_at-call ctx core stop.Call call = refl
request_at-call ctx core (stop.Trap cause pc) call = absurd call
request_at-call ctx core stop.Quantum call = absurd call

-- so is the end
pub request_at-end : (ctx : Ctx) (core : Core) (found : Stop) → request_at ctx core found ≡ End → found ≡ stop.Call
request_at-end ctx core (stop.Load width rd addr) e = cc
request_at-end ctx core (stop.Store width addr value) e = cc
request_at-end ctx core stop.Call e = refl
request_at-end ctx core (stop.Trap cause pc) e = cc
request_at-end ctx core stop.Quantum e = cc

-- the stop is a load that asks for this
pub record LoadsAt (found : Stop) (width : LoadWidth) (rd offset : ℕ) : Type 0 where
  pub addr : ℕ
  pub is : found ≡ stop.Load width rd addr
  pub offset_is : offset ≡ addr - DATA_START

-- a load is asked for at a load
pub request_at-load : (ctx : Ctx) (core : Core) (found : Stop) (width : LoadWidth) (rd offset : ℕ)
    → request_at ctx core found ≡ Load width rd offset → LoadsAt found width rd offset
request_at-load ctx core (stop.Load w r addr) width rd offset e =
    let same : w ≡ width = cc in
    let to : r ≡ rd = cc in
    record { addr = addr; is = rw (same, to) refl; offset_is = cc }
request_at-load ctx core (stop.Store w addr value) width rd offset e = cc
request_at-load ctx core stop.Call width rd offset e = absurd (call_at-no_other ctx core (subst IsNoCall (sym e) tt))
request_at-load ctx core (stop.Trap cause pc) width rd offset e = cc
request_at-load ctx core stop.Quantum width rd offset e = cc

-- the stop is a store that asks for this
pub record StoresAt (found : Stop) (offset bytes value : ℕ) : Type 0 where
  pub width : StoreWidth
  pub addr : ℕ
  pub is : found ≡ stop.Store width addr value
  pub offset_is : offset ≡ addr - DATA_START
  pub bytes_is : bytes ≡ store_width width

-- a store is asked for at a store
pub request_at-store : (ctx : Ctx) (core : Core) (found : Stop) (offset bytes value : ℕ)
    → request_at ctx core found ≡ Store offset bytes value → StoresAt found offset bytes value
request_at-store ctx core (stop.Load w r addr) offset bytes value e = cc
request_at-store ctx core (stop.Store w addr v) offset bytes value e =
    let same : v ≡ value = cc in
    record { width = w; addr = addr; is = rw same refl; offset_is = cc; bytes_is = cc }
request_at-store ctx core stop.Call offset bytes value e =
    absurd (call_at-no_other ctx core (subst IsNoCall (sym e) tt))
request_at-store ctx core (stop.Trap cause pc) offset bytes value e = cc
request_at-store ctx core stop.Quantum offset bytes value e = cc

-- a task asks to go on at the end of a quantum alone
pub request_at-continue : (ctx : Ctx) (core : Core) (found : Stop) → request_at ctx core found ≡ Continue
    → found ≡ stop.Quantum
request_at-continue ctx core (stop.Load width rd addr) e = cc
request_at-continue ctx core (stop.Store width addr value) e = cc
request_at-continue ctx core stop.Call e = absurd (call_at-no_other ctx core (subst IsNoCall (sym e) tt))
request_at-continue ctx core (stop.Trap cause pc) e = cc
request_at-continue ctx core stop.Quantum e = refl
