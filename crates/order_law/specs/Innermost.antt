-- Where the least task stands.
use Rattle.std.specs.Prelude.{◌≡◌, ◌≤◌, ℕ, length, Option, Some, None}
use Rattle.order_law.specs.Tasks.{Keyed}

-- the task's creator is committed, and of all tasks of committed creators it has the greatest depth, and of those
-- of its depth, which lie in its own domain, the least timestamp
pub record IsInnermost (tasks : ℕ → Option Keyed) (task : Keyed) : Type 0 where
  pub committed : task.creator ≡ None
  pub deepest : (k : ℕ) (x : Keyed) → tasks k ≡ Some x → x.creator ≡ None → length x.domain ≤ length task.domain
  pub same_domain : (k : ℕ) (x : Keyed) → tasks k ≡ Some x → x.creator ≡ None → length x.domain ≡ length task.domain
      → x.domain ≡ task.domain
  pub earliest : (k : ℕ) (x : Keyed) → tasks k ≡ Some x → x.creator ≡ None → length x.domain ≡ length task.domain
      → task.last.ts ≤ x.last.ts
