-- A task makes each child for a domain that there is.
use Rattle.std.proofs.Common.{◌≡◌, refl, sym, ap, subst, ℕ, List, [], ◌∷◌, ◌++◌, Option, Some, None}
use Rattle.std.specs.Prelude.{IsSome, Ok}
use Rattle.guest_image.specs.ImageValue.{ImageValue}
use Rattle.guest_image.specs.declared.image.Kind.{Kind}
use Rattle.task_desc.specs.declared.desc.Ctx.{Ctx}
use Rattle.task_desc.specs.declared.desc.Spawn.{Spawn}
use Rattle.task_desc.specs.declared.desc.Place.{Place}
use Rattle.task_desc.specs.declared.desc.Place.TheVariants.{Same, Sub, Super}
use Rattle.task_desc.specs.Calls.{allowed_spawn, allowed_at, allowed_sub, allowed_super}
use Rattle.pending_list.specs.declared.task.PendingTask.{PendingTask}
use Rattle.serial_machine.specs.BagValue.{BagValue}
use Rattle.serial_machine.specs.State.{SerialState}
use Rattle.serial_machine.specs.TaskRun.{task_run, Done}
use Rattle.serial_machine.proofs.Proved.{EndHolds, HoldsAfter, task_run-holds}
use Rattle.task_request.specs.declared.request.Request.{Request}
use Rattle.task_request.specs.declared.request.Request.TheVariants as request
use Rattle.task_request.specs.Effects.{after_request}
use Rattle.task_request.specs.TaskState.{TaskState, context}
use Rattle.task_request.proofs.Proved.{AllowedBy}
use Rattle.serial_machine.specs.Turn.{run_in_bag, context_in_bag, kind_outside}

-- there is the domain that a child is for (`Place`), by the kinds of the superdomain and the subdomain
abbrev pub HasDomain : Option Kind → Option Kind → Place → Type 0
HasDomain outer sub Same = Unit {0}
HasDomain outer sub Sub = IsSome sub
HasDomain outer sub Super = IsSome outer

abbrev pub HaveDomains : Option Kind → Option Kind → List Spawn → Type 0
HaveDomains outer sub [] = Unit {0}
HaveDomains outer sub (s ∷ ss) = HasDomain outer sub s.place × HaveDomains outer sub ss

HaveDomains-more : (outer sub : Option Kind) (spawns : List Spawn) (spawn : Spawn) → HaveDomains outer sub spawns
    → HasDomain outer sub spawn.place → HaveDomains outer sub (spawns ++ spawn ∷ [])
HaveDomains-more outer sub [] spawn h here = (here, tt)
HaveDomains-more outer sub (s ∷ ss) spawn h here = (h.0, HaveDomains-more outer sub ss spawn h.1 here)

-- a subdomain more
HasDomain-sub : (outer sub : Option Kind) (kind : Kind) (place : Place) → HasDomain outer sub place
    → HasDomain outer (Some kind) place
HasDomain-sub outer sub kind Same h = tt
HasDomain-sub outer sub kind Sub h = refl
HasDomain-sub outer sub kind Super h = h

HaveDomains-sub : (outer sub : Option Kind) (kind : Kind) (spawns : List Spawn) → HaveDomains outer sub spawns
    → HaveDomains outer (Some kind) spawns
HaveDomains-sub outer sub kind [] h = tt
HaveDomains-sub outer sub kind (s ∷ ss) h =
    (HasDomain-sub outer sub kind s.place h.0, HaveDomains-sub outer sub kind ss h.1)

-- the task has made each child for a domain that there is
abbrev pub IsPlaced : Option Kind → TaskState → Type 0
IsPlaced outer task = HaveDomains outer task.sub task.spawns

-- an enqueue that is allowed is to a domain that there is
allowed_spawn-placed : (ctx : Ctx) (spawn : Spawn) (ts : ℕ) → allowed_spawn ctx spawn ≡ Ok ts
    → HasDomain ctx.outer ctx.sub spawn.place
allowed_spawn-placed ctx spawn ts allows = by_place spawn.place allows
  where
    by_sub : (o : Option Kind) → allowed_sub ctx spawn.ts o ≡ Ok ts → IsSome o
    by_sub None at = cc
    by_sub (Some kind) at = refl

    by_super : (o : Option Kind) → allowed_super ctx spawn.ts o ≡ Ok ts → IsSome o
    by_super None at = cc
    by_super (Some kind) at = refl

    by_place : (place : Place) → allowed_at ctx spawn.ts place ≡ Ok ts → HasDomain ctx.outer ctx.sub place
    by_place Same at = tt
    by_place Sub at = by_sub ctx.sub at
    by_place Super at = by_super ctx.outer at

-- each request that is allowed keeps it
pub request-placed : (ctx : Ctx) (task : TaskState) (asked : Request) → AllowedBy (context ctx task) asked
    → IsPlaced ctx.outer task
    → HoldsAfter (IsPlaced ctx.outer) (after_request task asked)
request-placed ctx task request.Continue allows placed = placed
request-placed ctx task (request.Load width rd offset) allows placed = placed
request-placed ctx task (request.Store offset bytes value) allows placed = placed
request-placed ctx task (request.Enqueue child) allows placed =
    let (spawn, is_allowed, is) = allows in
    let there : HasDomain ctx.outer task.sub spawn.place = allowed_spawn-placed (context ctx task) spawn child.ts is_allowed in
    HaveDomains-more ctx.outer task.sub task.spawns child placed
    (subst (HasDomain ctx.outer task.sub) (sym (ap (λ s. s.place) is)) there)
request-placed ctx task (request.MakeSub kind) allows placed =
    HaveDomains-sub ctx.outer task.sub kind task.spawns placed
request-placed ctx task (request.Emit byte) allows placed = placed
request-placed ctx task request.End allows placed = placed
request-placed ctx task (request.Trap cause) allows placed = tt

task_run-placed : (image : ImageValue) (budget : ℕ) (ctx : Ctx) (entry : ℕ) (args memory : List ℕ)
    → EndHolds (IsPlaced ctx.outer) (task_run image budget ctx entry args memory)
task_run-placed image budget ctx entry args memory =
    task_run-holds (IsPlaced ctx.outer) image budget ctx (λ task core placed. placed) (request-placed ctx) entry args memory tt

-- the children of a task that is done
pub done-placed : (image : ImageValue) (budget : ℕ) (s : SerialState) (bag : BagValue) (outer : List BagValue) (task : PendingTask) (done : TaskState)
    → run_in_bag image budget s bag outer task ≡ Done done → HaveDomains (kind_outside outer) done.sub done.spawns
done-placed image budget s bag outer task done ran = subst (EndHolds (IsPlaced (kind_outside outer))) ran
    (task_run-placed image budget (context_in_bag image.version bag outer task) task.entry task.args s.memory)
