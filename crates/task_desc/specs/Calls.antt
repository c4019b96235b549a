-- Which calls a task may make.
use Rattle.std.specs.Prelude.{ℕ, ◌==◌, nat_lt, Bool, false, Option, Some, None, Result, Ok, Err, if◌then◌else◌}
use Rattle.guest_image.specs.declared.image.Kind.{Kind}
use Rattle.guest_image.specs.declared.image.Kind.TheVariants.{Unordered, Ordered}
use Rattle.task_desc.specs.declared.calls.TheConstants.{MAX_BYTES}
use Rattle.task_desc.specs.declared.desc.Ctx.{Ctx}
use Rattle.task_desc.specs.declared.desc.Spawn.{Spawn}
use Rattle.task_desc.specs.declared.desc.Place.{Place}
use Rattle.task_desc.specs.declared.desc.Place.TheVariants.{Same, Sub, Super}

-- the greatest depth of a task in a version of the image
abbrev pub deepest : ℕ → ℕ
deepest version = if version == 2 then 16 else 8

-- how many children a task may enqueue in a version of the image
abbrev pub most_children : ℕ → ℕ
most_children version = if version == 2 then 256 else 64

-- what a domain takes a timestamp for: an unordered one takes each as 0
abbrev pub domain_ts : Kind → ℕ → ℕ
domain_ts Unordered ts = 0
domain_ts Ordered ts = ts

-- an ordered domain refuses a timestamp below the bound
abbrev pub is_early : Kind → ℕ → ℕ → Bool
is_early Unordered ts bound = false
is_early Ordered ts bound = nat_lt ts bound

-- one child more at this timestamp, and trap 15 at the child past the limit
abbrev pub one_more_child : Ctx → ℕ → Result ℕ ℕ
one_more_child ctx ts = if nat_lt ctx.children (most_children ctx.version) then Ok ts else Err 15

-- call 1, to the own domain: trap 10 below the own timestamp, then trap 15
abbrev pub allowed_same : Ctx → ℕ → Result ℕ ℕ
allowed_same ctx ts = if is_early ctx.own ts ctx.ts then Err 10 else one_more_child ctx (domain_ts ctx.own ts)

-- call 2, to the subdomain: trap 11 where none was made, then trap 15
abbrev pub allowed_sub : Ctx → ℕ → Option Kind → Result ℕ ℕ
allowed_sub ctx ts None = Err 11
allowed_sub ctx ts (Some kind) = one_more_child ctx (domain_ts kind ts)

-- call 3, to the superdomain: trap 13 where there is none, then trap 10 below the floor, then trap 15
abbrev pub allowed_super : Ctx → ℕ → Option Kind → Result ℕ ℕ
allowed_super ctx ts None = Err 13
allowed_super ctx ts (Some kind) = if is_early kind ts ctx.floor then Err 10 else one_more_child ctx (domain_ts kind ts)

-- an enqueue, by the domain of its child
abbrev pub allowed_at : Ctx → ℕ → Place → Result ℕ ℕ
allowed_at ctx ts Same = allowed_same ctx ts
allowed_at ctx ts Sub = allowed_sub ctx ts ctx.sub
allowed_at ctx ts Super = allowed_super ctx ts ctx.outer

-- an enqueue: the timestamp of the child, or the trap that comes
abbrev pub allowed_spawn : Ctx → Spawn → Result ℕ ℕ
allowed_spawn ctx spawn = allowed_at ctx spawn.ts spawn.place

-- the kind of a domain by its number
abbrev pub kind_of : ℕ → Kind
kind_of value = if value == 0 then Unordered else Ordered

-- a subdomain: trap 12 where one was made, then trap 14 where the depth isn't below the greatest
abbrev pub sub_of : Ctx → ℕ → Option Kind → Result Kind ℕ
sub_of ctx value (Some made) = Err 12
sub_of ctx value None = if nat_lt ctx.depth (deepest ctx.version) then Ok (kind_of value) else Err 14

-- call 4: trap 9 where the value is above 1, and then as above
abbrev pub sub_allowed : Ctx → ℕ → Result Kind ℕ
sub_allowed ctx value = if nat_lt 1 value then Err 9 else sub_of ctx value ctx.sub

-- call 5: trap 16 at the byte past the limit
abbrev pub byte_allowed : Ctx → Result (Unit {0}) ℕ
byte_allowed ctx = if nat_lt ctx.bytes MAX_BYTES then Ok tt else Err 16
