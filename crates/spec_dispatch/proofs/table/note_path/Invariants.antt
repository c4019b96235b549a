use Rattle.std.proofs.Common.{◌≡◌, ◌≤◌, ◌++◌, map, take}
use Rattle.std.specs.Prelude.{vec_capacity}
use Rattle.fractal_vt.specs.declared.level.Level.{Level}
use Rattle.spec_dispatch.proofs.table.note_path.Given as goal

abbrev pub invariant-loop-level : goal.invariant-loop-level
invariant-loop-level l =
    (l.numbers.items ≡ l.fn.numbers.items ++ map (λ (level : Level). level.tb) (take l.level-index l.level-items))
    × (vec_capacity l.fn.numbers ≤ vec_capacity l.numbers)
