-- The depths of pending tasks.
use Rattle.std.specs.Prelude.{◌≡◌, ◌≤◌, ℕ, List, All, Any}
use Rattle.conflict_book.specs.spec_state.declared.pending.Pending.{Pending}

-- all tasks are of the root domain
abbrev pub AreOfRoot : List Pending → Type 0
AreOfRoot pendings = All (λ (p : Pending). p.depth ≡ 1) pendings

-- a task is this deep, and none is deeper
pub record IsGreatestDepth (pendings : List Pending) (depth : ℕ) : Type 0 where
  pub some : Any (λ (p : Pending). p.depth ≡ depth) pendings
  pub greatest : All (λ (p : Pending). p.depth ≤ depth) pendings
