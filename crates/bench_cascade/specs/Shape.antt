-- Relations whose closed sets are known.
use Rattle.std.specs.Prelude.{◌==◌, ℕ, ◌+◌, Bool}
use Rattle.bench_cascade.specs.declared.relation.RelationKind.{RelationKind}
use Rattle.bench_cascade.specs.declared.relation.RelationKind.TheVariants.{Rising, Falling, Star}

-- whether the first node pulls the second
abbrev pub pull_of : RelationKind → ℕ → ℕ → Bool
pull_of Rising a b = a + 1 == b
pull_of Falling a b = b + 1 == a
pull_of Star a b = a == 0
