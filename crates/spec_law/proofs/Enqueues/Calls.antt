-- What an enqueue makes of the task that makes it, and of the child: its depth, and that its kinds fit it.
use Rattle.std.proofs.Common.{◌≡◌, ◌<◌, ◌+◌, ◌-◌, ◌*◌, ◌^◌, ◌∷◌, ◌++◌, ℕ, zero, suc, List, [], length, take, Option}
use Rattle.std.proofs.Common.{Some, None, ◌∙◌, arith, is_some}
use Rattle.std.proofs.Common.{refl, sym, ap, subst}
use Rattle.std.proofs.lemmas.Grind.{pow_more}
use Rattle.std.proofs.lemmas.List.{length_push}
use Rattle.fractal_vt.specs.declared.level.Level.{Level}
use Rattle.guest_image.specs.declared.image.Kind.{Kind}
use Rattle.guest_image.specs.declared.image.Kind.TheVariants.{Unordered, Ordered}
use Rattle.spec_state.proofs.Below.run_law.Proved.{HasDomain}
use Rattle.task_desc.specs.declared.desc.Place.{Place}
use Rattle.task_desc.specs.declared.desc.Place.TheVariants.{Same, Sub, Super}
use Rattle.task_desc.specs.declared.desc.Spawn.{Spawn}
use Rattle.spec_state.specs.task_law.Tasks.{IsChildDepth}
use Rattle.spec_state.specs.declared.task.Task.{Task}
use Rattle.rv_core.specs.LegValue.{LegValue}
use Rattle.spec_state.specs.Changes.{task_past_leg}
use Rattle.spec_state.specs.Tasks.{depth_of, outer_kind, own_level, child_domain, child_kinds, child_descriptor}
use Rattle.spec_state.specs.Tasks.{sub_bit}

-- the descriptor of a child is that which its creator would have given it before it went on
pub descriptor_same : (task : Task) (leg : LegValue) (spawn other : Spawn)
    → child_descriptor (record (task_past_leg task leg) { spawns = task.spawns ++ other ∷ [] }) spawn ≡ child_descriptor task spawn
descriptor_same task leg spawn other = refl

-- of some levels, all but the last are one fewer
front_length : (domain : List Level) (n : ℕ) → length domain ≡ suc n → length (take (length domain - 1) domain) ≡ n
front_length [] n long = absurd (omega (arith, long))
front_length (x ∷ []) n long = omega (arith, long)
front_length (x ∷ y ∷ ys) n long =
    let rest = front_length (y ∷ ys) (length ys) refl in
    let one_more : length (x ∷ y ∷ ys) - 1 ≡ suc (length (y ∷ ys) - 1) = omega arith in
    ap (λ k. length (take k (x ∷ y ∷ ys))) one_more ∙ omega (arith, rest, long)

-- a child for the superdomain, where a task's domain lies in another one, has a level fewer than its creator
super_length : (task : Task) → is_some (outer_kind (length task.key.domain) task.kinds) ≡ Rattle.std.proofs.Common.true
    → length (child_domain task Super) + 1 ≡ length task.key.domain
super_length task some = by_size (length task.key.domain) refl
  where
    by_size : (n : ℕ) → length task.key.domain ≡ n → length (child_domain task Super) + 1 ≡ length task.key.domain
    by_size zero is = absurd (cc (sym (ap (λ n. is_some (outer_kind n task.kinds)) is) ∙ some))
    by_size (suc n) is = let front = front_length task.key.domain n is in omega (arith, front, is)

-- the depth of a child
pub child_depth : (task : Task) (sub : Option Kind) (place : Place)
    → HasDomain (outer_kind (length task.key.domain) task.kinds) sub place
    → IsChildDepth (depth_of task) place (length (child_domain task place) + 1)
child_depth task sub Same has = refl
child_depth task sub Sub has = ap (λ n. n + 1) (length_push task.key.domain (own_level task))
child_depth task sub Super has = let front = super_length task has in omega (arith, front)

-- powers of two: the next is twice this one, kinds with a bit more are below it, and none is 0
two_more : (n : ℕ) → 2 ^ (n + 1) ≡ 2 ^ n * 2
two_more n = pow_more 2 n

bit_fits : (sub : Option Kind) (kinds power : ℕ) → kinds < power → kinds + sub_bit sub * power < power * 2
bit_fits None kinds power low = omega (arith, low)
bit_fits (Some Unordered) kinds power low = omega (arith, low)
bit_fits (Some Ordered) kinds power low = omega (arith, low)

some_power : (n : ℕ) → 0 < 2 ^ n
some_power zero = omega arith
some_power (suc n) =
    let less = some_power n in
    let same : 2 ^ (n + 1) ≡ 2 ^ n * 2 = two_more n in
    let next : suc n ≡ n + 1 = omega arith in
    subst (λ k. 0 < 2 ^ k) (sym next) (omega (arith, less, same))

-- the kinds of a child fit its depth
pub child_fits : (task : Task) (sub : Option Kind) (place : Place)
    → HasDomain (outer_kind (length task.key.domain) task.kinds) sub place → task.kinds < 2 ^ depth_of task
    → child_kinds task place < 2 ^ (length (child_domain task place) + 1)
child_fits task sub Same has low = low
child_fits task sub Sub has low =
    let room = bit_fits task.sub task.kinds (2 ^ depth_of task) low in
    subst (λ n. child_kinds task Sub < 2 ^ (n + 1)) (sym (length_push task.key.domain (own_level task))) (subst (λ n. child_kinds task Sub < n) (sym (two_more (depth_of task))) room)
child_fits task sub Super has low =
    let some = some_power (length task.key.domain) in
    let less : child_kinds task Super < 2 ^ length task.key.domain = omega (arith, some) in
    subst (λ n. child_kinds task Super < 2 ^ n) (sym (super_length task has)) less
