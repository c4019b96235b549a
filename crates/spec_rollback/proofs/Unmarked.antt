-- Where no access of a task conflicts, it is true that none was found, whatever the marks.
use Rattle.std.proofs.Common.{ℕ, Bool, true, List, Option, Some, None, arith}
use Rattle.std.specs.Prelude.{IfSome}
use Rattle.spec_state.specs.declared.task.Task.{Task}
use Rattle.spec_state.specs.View.{View}
use Rattle.spec_state.specs.Queries.{Conflicts}
use Rattle.spec_rollback.specs.Marking.{FindsConflicts}

pub none_found : (view : View) (task : Option Task) (line : ℕ) (write : Bool) (marks : List Bool)
    → IfSome task (λ t. (line : ℕ) (write : Bool) (k : ℕ) → Conflicts view t line write k → ⊥)
    → IfSome task (λ t. FindsConflicts view t line write 0 marks)
none_found view None line write marks is = tt
none_found view (Some t) line write marks is = record {
  none = λ told k conflict. is line write k conflict;
  some = λ told. absurd (omega (arith, told));
}
