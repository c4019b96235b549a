-- A child's timestamp is what its domain takes it for.
use Rattle.std.proofs.Common.{◌≡◌, refl, sym, ap, subst, ℕ, nat_lt, Bool, true, false, List, [], ◌∷◌, ◌++◌, Option}
use Rattle.std.proofs.Common.{Some, None, Result, Ok, Err, if◌then◌else◌}
use Rattle.std.specs.List.{AllByRecursion}
use Rattle.guest_image.specs.ImageValue.{ImageValue}
use Rattle.guest_image.specs.declared.image.Kind.{Kind}
use Rattle.guest_image.specs.declared.image.Kind.TheVariants.{Unordered, Ordered}
use Rattle.task_desc.specs.declared.desc.Ctx.{Ctx}
use Rattle.task_desc.specs.declared.desc.Spawn.{Spawn}
use Rattle.task_desc.specs.declared.desc.Place.{Place}
use Rattle.task_desc.specs.declared.desc.Place.TheVariants.{Same, Sub, Super}
use Rattle.task_desc.specs.Calls.{most_children, allowed_spawn, allowed_at, allowed_sub, allowed_super, one_more_child}
use Rattle.task_desc.specs.Calls.{domain_ts, is_early}
use Rattle.pending_list.specs.declared.task.PendingTask.{PendingTask}
use Rattle.conflict_book.specs.serial_machine.BagValue.{BagValue}
use Rattle.conflict_book.specs.serial_machine.State.{SerialState}
use Rattle.conflict_book.specs.serial_machine.TaskRun.{task_run, Done}
use Rattle.conflict_book.specs.serial_machine.Turn.{context_in_bag, kind_outside, run_in_bag}
use Rattle.conflict_book.proofs.Below.serial_machine.Proved.{EndHolds, HoldsAfter, task_run-holds}
use Rattle.task_request.specs.declared.request.Request.{Request}
use Rattle.task_request.specs.declared.request.Request.TheVariants as request
use Rattle.task_request.specs.Effects.{after_request}
use Rattle.task_request.specs.TaskState.{TaskState, context}
use Rattle.task_request.proofs.Proved.{AllowedBy, sub_allowed-limits}

-- a domain of this kind takes the timestamp for what it is
abbrev pub IsSettled : Kind → ℕ → Type 0
IsSettled kind ts = domain_ts kind ts ≡ ts

pub settled_ts : (kind : Kind) (ts : ℕ) → IsSettled kind (domain_ts kind ts)
settled_ts Unordered ts = refl
settled_ts Ordered ts = refl

-- the child is for a domain that there is, which takes its timestamp for what it is
abbrev pub SettlesIn : Kind → Option Kind → Option Kind → Place → ℕ → Type 0
SettlesIn own outer sub Same ts = IsSettled own ts
SettlesIn own outer sub Sub ts = (kind : Kind) × (sub ≡ Some kind) × IsSettled kind ts
SettlesIn own outer sub Super ts = (kind : Kind) × (outer ≡ Some kind) × IsSettled kind ts

abbrev pub Settle : Kind → Option Kind → Option Kind → List Spawn → Type 0
Settle own outer sub spawns = AllByRecursion (λ (s : Spawn). SettlesIn own outer sub s.place s.ts) spawns

settle_more : (own : Kind) (outer sub : Option Kind) (spawns : List Spawn) (spawn : Spawn) → Settle own outer sub spawns
    → SettlesIn own outer sub spawn.place spawn.ts → Settle own outer sub (spawns ++ spawn ∷ [])
settle_more own outer sub [] spawn each here = (here, tt)
settle_more own outer sub (s ∷ ss) spawn each here = (each.0, settle_more own outer sub ss spawn each.1 here)

settle_sub : (own : Kind) (outer sub : Option Kind) (kind : Kind) (spawns : List Spawn) → sub ≡ None
    → Settle own outer sub spawns
    → Settle own outer (Some kind) spawns
settle_sub own outer sub kind [] none each = tt
settle_sub own outer sub kind (s ∷ ss) none each = (one s.place each.0, settle_sub own outer sub kind ss none each.1)
  where
    one : (place : Place) → SettlesIn own outer sub place s.ts → SettlesIn own outer (Some kind) place s.ts
    one Same here = here
    one Sub (made, is, here) = absurd (cc (is, none))
    one Super here = here

-- an enqueue that is allowed is settled
allowed_settles : (ctx : Ctx) (spawn : Spawn) (ts : ℕ) → allowed_spawn ctx spawn ≡ Ok ts
    → SettlesIn ctx.own ctx.outer ctx.sub spawn.place ts
allowed_settles ctx spawn ts allows = by_place spawn.place allows
  where
    by_count : (b : Bool) (kind : Kind)
        → if◌then◌else◌ {A = Result ℕ ℕ} b (Ok (domain_ts kind spawn.ts)) (Err 15) ≡ Ok ts → IsSettled kind ts
    by_count true kind is =
        let same : domain_ts kind spawn.ts ≡ ts = cc (is) in
        subst (IsSettled kind) same (settled_ts kind spawn.ts)
    by_count false kind is = absurd (cc (is))

    by_time : (b : Bool) (kind : Kind)
        → if◌then◌else◌ {A = Result ℕ ℕ} b (Err 10) (one_more_child ctx (domain_ts kind spawn.ts)) ≡ Ok ts
        → IsSettled kind ts
    by_time true kind is = absurd (cc (is))
    by_time false kind is = by_count (nat_lt ctx.children (most_children ctx.version)) kind is

    by_sub : (o : Option Kind) → ctx.sub ≡ o → allowed_sub ctx spawn.ts o ≡ Ok ts
        → SettlesIn ctx.own ctx.outer ctx.sub Sub ts
    by_sub None at is = absurd (cc (is))
    by_sub (Some kind) at is = (kind, at, by_count (nat_lt ctx.children (most_children ctx.version)) kind is)

    by_super : (o : Option Kind) → ctx.outer ≡ o → allowed_super ctx spawn.ts o ≡ Ok ts
        → SettlesIn ctx.own ctx.outer ctx.sub Super ts
    by_super None at is = absurd (cc (is))
    by_super (Some kind) at is = (kind, at, by_time (is_early kind spawn.ts ctx.floor) kind is)

    by_place : (place : Place) → allowed_at ctx spawn.ts place ≡ Ok ts → SettlesIn ctx.own ctx.outer ctx.sub place ts
    by_place Same is = by_time (is_early ctx.own spawn.ts ctx.ts) ctx.own is
    by_place Sub is = by_sub ctx.sub refl is
    by_place Super is = by_super ctx.outer refl is

-- each request that is allowed keeps this of the children so far
abbrev AreSettled : Ctx → TaskState → Type 0
AreSettled ctx task = Settle ctx.own ctx.outer task.sub task.spawns

request_settles : (ctx : Ctx) (task : TaskState) (asked : Request) → AllowedBy (context ctx task) asked
    → AreSettled ctx task
    → HoldsAfter (AreSettled ctx) (after_request task asked)
request_settles ctx task request.Continue allows each = each
request_settles ctx task (request.Load width rd offset) allows each = each
request_settles ctx task (request.Store offset bytes value) allows each = each
request_settles ctx task (request.Enqueue made) allows each =
    let (spawn, is_allowed, is) = allows in
    let there : SettlesIn ctx.own ctx.outer task.sub spawn.place made.ts = allowed_settles (context ctx task) spawn made.ts is_allowed in
    settle_more ctx.own ctx.outer task.sub task.spawns made each
    (subst (λ place. SettlesIn ctx.own ctx.outer task.sub place made.ts) (sym (ap (λ (s : Spawn). s.place) is)) there)
request_settles ctx task (request.MakeSub kind) allows each =
    settle_sub ctx.own ctx.outer task.sub kind task.spawns (sub_allowed-limits (context ctx task) allows.0 kind allows.1).0 each
request_settles ctx task (request.Emit byte) allows each = each
request_settles ctx task request.End allows each = each
request_settles ctx task (request.Trap cause) allows each = tt

run_settles : (image : ImageValue) (budget : ℕ) (ctx : Ctx) (entry : ℕ) (args memory : List ℕ)
    → EndHolds (AreSettled ctx) (task_run image budget ctx entry args memory)
run_settles image budget ctx entry args memory =
    task_run-holds (AreSettled ctx) image budget ctx (λ task core each. each) (request_settles ctx) entry args memory tt

-- so it holds of the children of a task that is done
pub done_settles : (image : ImageValue) (budget : ℕ) (s : SerialState) (bag : BagValue) (outer : List BagValue) (task : PendingTask) (done : TaskState)
    → run_in_bag image budget s bag outer task ≡ Done done → Settle bag.kind (kind_outside outer) done.sub done.spawns
done_settles image budget s bag outer task done ran =
    subst (EndHolds (AreSettled (context_in_bag image.version bag outer task))) ran
    (run_settles image budget (context_in_bag image.version bag outer task) task.entry task.args s.memory)
