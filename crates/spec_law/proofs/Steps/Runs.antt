-- The run of a task goes on by a leg, its children are for domains that there are, and what a request leaves of its
-- subdomain and its bytes.
use Rattle.std.proofs.Common.{◌≡◌, ◌⊎◌, ◌≤◌, ◌<◌, ◌∷◌, ◌++◌, ℕ, zero, suc, List, [], length, Option, Some, None, refl}
use Rattle.std.proofs.Common.{subst, inl, inr, arith, slice_get}
use Rattle.std.proofs.lemmas.List.{length-append}
use Rattle.guest_image.specs.declared.image.Kind.{Kind}
use Rattle.guest_image.specs.ImageValue.{ImageValue}
use Rattle.rv_core.specs.declared.state.Core.{Core}
use Rattle.rv_core.specs.Legs.{PlainInstructions}
use Rattle.spec_state.proofs.Below.run_law.Proved.{HasDomain, HaveDomains, IsPlaced, request-placed}
use Rattle.task_desc.specs.declared.calls.TheConstants.{MAX_BYTES}
use Rattle.task_desc.specs.declared.desc.Ctx.{Ctx}
use Rattle.task_desc.specs.declared.desc.Spawn.{Spawn}
use Rattle.task_request.specs.declared.request.Request.{Request}
use Rattle.task_request.specs.declared.request.Request.TheVariants as request
use Rattle.task_request.specs.Conditions.{KeepsLimits}
use Rattle.task_request.specs.Effects.{Continuation, Continues, Ends, Traps, after_request}
use Rattle.task_request.specs.TaskState.{TaskState, context}
use Rattle.spec_state.specs.task_law.Logged.{LoggedRun, plain}
use Rattle.spec_state.proofs.Below.task_law.Proved.{logged-holds}
use Rattle.undo_log.specs.declared.access.Access.{Access}

module _ (image : ImageValue) (budget size : ℕ) (ctx : Ctx) (start : TaskState) where
  -- a logged run goes on by plain instructions
  pub run_on : (log : List Access) (task : TaskState) (n : ℕ) (to : Core)
      → LoggedRun image budget size ctx start log task
      → PlainInstructions image size budget n task.core to
      → LoggedRun image budget size ctx start log (record task { core = to })
  run_on log task zero to run same =
      subst (λ core. LoggedRun image budget size ctx start log (record task { core = core })) same run
  run_on log task (suc n) to run (mid, front, last) =
      plain {log = log} {task = record task { core = mid }} to (run_on log task n mid run front) last

  -- each child of a logged run is for a domain that there is
  pub run_placed : {log : List Access} {task : TaskState} → LoggedRun image budget size ctx start log task
      → IsPlaced ctx.outer start → IsPlaced ctx.outer task
  run_placed {log} {task} run placed =
      logged-holds image budget size ctx (IsPlaced ctx.outer) start (λ t core here. here) (request-placed ctx) run placed

-- what is so of each child
pub placed_at : (outer sub : Option Kind) (spawns : List Spawn) (index : ℕ) (spawn : Spawn)
    → HaveDomains outer sub spawns → slice_get spawns index ≡ Some spawn
    → HasDomain outer sub spawn.place
placed_at outer sub [] index spawn placed at = absurd (cc)
placed_at outer sub (s ∷ ss) zero spawn placed at =
    let same : s ≡ spawn = cc in subst (λ x. HasDomain outer sub x.place) same placed.0
placed_at outer sub (s ∷ ss) (suc index) spawn placed at = placed_at outer sub ss index spawn placed.1 at

-- what a request leaves, as against what was there: a subdomain is made once at most, and bytes stay within their bound
abbrev pub Leaves : TaskState → Continuation → Type 0
Leaves task (Continues after) =
    ((after.sub ≡ task.sub) ⊎ (task.sub ≡ None)) × (length task.bytes ≤ MAX_BYTES → length after.bytes ≤ MAX_BYTES)
Leaves task (Ends after) = Unit {0}
Leaves task (Traps cause pc) = Unit {0}

-- one more byte, where there are fewer than a task may emit
one_more : (bytes : List ℕ) (byte : ℕ) → length bytes < MAX_BYTES → length (bytes ++ byte ∷ []) ≤ MAX_BYTES
one_more bytes byte few = simp length-append (omega (arith, few))

-- each request that keeps the limits leaves both so
pub request_leaves : (ctx : Ctx) (task : TaskState) (asked : Request) → KeepsLimits (context ctx task) asked
    → Leaves task (after_request task asked)
request_leaves ctx task request.Continue keeps = (inl refl, λ low. low)
request_leaves ctx task (request.Load width rd offset) keeps = (inl refl, λ low. low)
request_leaves ctx task (request.Store offset bytes value) keeps = (inl refl, λ low. low)
request_leaves ctx task (request.Enqueue child) keeps = (inl refl, λ low. low)
request_leaves ctx task (request.MakeSub kind) keeps = (inr keeps.0, λ low. low)
request_leaves ctx task (request.Emit byte) keeps = (inl refl, λ low. one_more task.bytes byte keeps)
request_leaves ctx task request.End keeps = tt
request_leaves ctx task (request.Trap cause) keeps = tt
