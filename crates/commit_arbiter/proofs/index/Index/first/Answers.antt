use Rattle.std.proofs.Common.{ap, subst, ◌∙◌}
use Rattle.std.specs.Option.{IsSome}
use Rattle.fractal_vt.specs.Keys.{key_cmp}
use Rattle.fractal_vt.specs.Least.{IsFirstLeast}
use Rattle.commit_arbiter.specs.Indexed.{keys, first_id}
use Rattle.commit_arbiter.specs.Heap.{in_rising_order}
use Rattle.commit_arbiter.proofs.Ordered.{first_is_root, first_is_least, in_rising_order-in_order}
use Rattle.commit_arbiter.proofs.index.Index.first.Goals as goal

pub returns-clause-first : goal.returns-clause-first
returns-clause-first c =
    first_is_root c.self.inside.slots.candidates c.get.result.now c.self.invariant.0.heap c.get.ensures
    ∙ ap (λ v. first_id v.candidates) c.self.view_is

pub returns-clause-least : goal.returns-clause-least
returns-clause-least c some =
    let old = c.self.inside.slots.candidates in
    subst (λ v. IsFirstLeast key_cmp (keys v.candidates) 0) c.self.view_is
    (first_is_least (in_rising_order old) (subst IsSome (first_is_root old c.get.result.now c.self.invariant.0.heap c.get.ensures) some) (in_rising_order-in_order old))
