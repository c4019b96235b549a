use Rattle.std.proofs.Common.{rules, [], ◌∷◌, zero, suc, arith}
use Rattle.std.specs.List.{All}
use Rattle.fractal_vt.specs.declared.key.Key.{Key}
use Rattle.fractal_vt.specs.Paths.{IsOnPath}
use Rattle.part_tests.proofs.arbiter.the_deepest_key_of_a_path_is_least.Goals as goal

All-two : (P : Key → Type 0) (x y : Key) → P x → P y → All P (x ∷ y ∷ [])
All-two P x y p q zero d less = p
All-two P x y p q (suc zero) d less = q
All-two P x y p q (suc (suc k)) d less = absurd (omega arith)

pub least_on-requires : goal.least_on-requires
least_on-requires g c =
    All-two (IsOnPath c.in_ok-path.path) c.root-outer.result _ (c.on_path-outer_is_on.ensures.0 (search rules)) (c.on_path-inner_is_on.ensures.0 (search rules))
