-- The order in which logs are undone.
use Rattle.std.proofs.Common.{ℕ, Bool, List, arith}
use Rattle.std.specs.Cmp.{IsStrictWeakOrder}
use Rattle.std.specs.Cmp.Lexicographic.{options_total}
use Rattle.std.specs.List.Sorted.{IsSortedBy}
use Rattle.std.specs.Ordering.{is_lt}
use Rattle.std.proofs.lemmas.List.Sorted.{ranks_by, IsStrictWeakOrder-flip, sorted_far}
use Rattle.fractal_vt.proofs.Proved.{key_cmp_total}
use Rattle.spec_state.specs.declared.task.Task.{Task}
use Rattle.std.specs.Prelude.{Option}
use Rattle.spec_rollback.specs.Undone.{key_in, ids_cmp, Falls}

-- the later one comes first
abbrev pub later_first : List (Option Task) → ℕ → ℕ → Bool
later_first tasks a b = is_lt (ids_cmp tasks b a)

pub later_first_ranks : (tasks : List (Option Task)) → IsStrictWeakOrder (later_first tasks)
later_first_ranks tasks = IsStrictWeakOrder-flip (λ a b. is_lt (ids_cmp tasks a b))
    (ranks_by (options_total key_cmp_total) (key_in tasks))

pub sorted_falls : (tasks : List (Option Task)) (ids : List ℕ) → IsSortedBy (later_first tasks) ids → Falls tasks ids
sorted_falls tasks ids sorted i j d less within = sorted_far (later_first tasks) (later_first_ranks tasks) ids sorted
    i j d (omega (arith, less)) within
