-- What holds of each request that a task makes.
use Rattle.std.specs.Prelude.{ℕ, ◌≡◌, ◌≢◌, ◌<◌, None}
use Rattle.rv_core.specs.Memory.{load_width}
use Rattle.task_desc.specs.declared.calls.TheConstants.{MAX_BYTES, MAX_CHILDREN, MAX_DEPTH}
use Rattle.task_desc.specs.declared.desc.Ctx.{Ctx}
use Rattle.undo_log.specs.Number.{IsAccessible}
use Rattle.task_request.specs.declared.request.Request.{Request}
use Rattle.task_request.specs.declared.request.Request.TheVariants.{Load, Store, Enqueue, MakeSub, Emit}

-- a load and a store lie within data of this size, at a multiple of their width
abbrev pub IsInData : ℕ → Request → Type 0
IsInData size (Load width rd offset) = IsAccessible size offset (load_width width)
IsInData size (Store offset width value) = IsAccessible size offset width
IsInData size other = Unit {0}

-- a task asks for a child and for a byte only while it may make one more, and for a subdomain only where it has
-- none and one more fits
abbrev pub KeepsLimits : Ctx → Request → Type 0
KeepsLimits ctx (Enqueue child) = ctx.children < MAX_CHILDREN
KeepsLimits ctx (MakeSub kind) = (ctx.sub ≡ None) × (ctx.depth ≢ MAX_DEPTH)
KeepsLimits ctx (Emit byte) = ctx.bytes < MAX_BYTES
KeepsLimits ctx other = Unit {0}

-- the request is one of a call that goes on: for a child, a subdomain or a byte
abbrev pub IsCall : Request → Type 0
IsCall (Enqueue child) = Unit {0}
IsCall (MakeSub kind) = Unit {0}
IsCall (Emit byte) = Unit {0}
IsCall other = ⊥
