-- The domains of a task, as its levels and kinds give them: what its calls depend on, and the domains of its children.
use Rattle.std.proofs.Common.{◌≡◌, ◌≤◌, ◌<◌, ◌+◌, ◌*◌, ◌-◌, ◌/◌, ◌%◌, ◌^◌, ◌∷◌, ◌++◌, ◌==◌, ℕ, zero, suc, List, []}
use Rattle.std.proofs.Common.{length, take, Option, Some, None, refl, sym, ap, subst, ◌∙◌, arith}
use Rattle.std.proofs.Math.Nat.{pow-suc, mul_assoc, add-mul-mod_self_right}
use Rattle.std.proofs.lemmas.Nat.{pow_pos}
use Rattle.std.proofs.Math.Arith.{mod-mul}
use Rattle.fractal_vt.specs.declared.level.Level.{Level}
use Rattle.guest_image.specs.declared.image.Kind.{Kind}
use Rattle.guest_image.specs.declared.image.Kind.TheVariants.{Unordered, Ordered}
use Rattle.task_desc.specs.declared.desc.Place.{Place}
use Rattle.task_desc.specs.declared.desc.Place.TheVariants.{Same, Sub, Super}
use Rattle.spec_state.specs.task_law.Domains.{Domain, first_kind, ChildDomains}
use Rattle.spec_state.specs.task_law.Domains as turns
use Rattle.spec_state.specs.declared.task.Task.{Task}
use Rattle.spec_state.specs.Tasks.{kind_at, kind_if, outer_kind, floor_in, start_context, sub_bit, depth_of, own_level}
use Rattle.spec_state.specs.Tasks.{child_domain, child_kinds}
use Rattle.spec_state.specs.Groups.{domains_behind, domains_of}

-- the kind of the next domain out, behind so many levels inside these
abbrev kind_outside : List Domain → ℕ → ℕ → Option Kind
kind_outside outer zero kinds = first_kind outer
kind_outside outer (suc n) kinds = Some (kind_at n kinds)

-- the first of the domains behind these and the others, with what each says
record HasContext (outer : List Domain) (floor kinds : ℕ) (levels : List Level) : Type 0 where
  pub own : Domain
  pub rest : List Domain
  pub is : domains_behind outer floor kinds levels ≡ own ∷ rest
  pub kind : own.kind ≡ kind_at (length levels) kinds
  pub floor_is : own.floor ≡ floor_in floor levels
  pub outside : first_kind rest ≡ kind_outside outer (length levels) kinds
  pub long : length rest ≡ length levels + length outer

-- the first of the domains is that of the levels and kinds, by the levels from the outermost on
has_context : (outer : List Domain) (floor kinds : ℕ) (levels : List Level) → HasContext outer floor kinds levels
has_context outer floor kinds [] =
    record {
      own = record { kind = kind_at 0 kinds; floor = floor };
      rest = outer;
      is = refl;
      kind = refl;
      floor_is = refl;
      outside = refl;
      long = omega arith;
    }
has_context outer floor kinds (level ∷ levels) =
    let inner = has_context (record { kind = kind_at 0 kinds; floor = floor } ∷ outer) level.ts (kinds / 2) levels in
    record {
      own = inner.own;
      rest = inner.rest;
      is = inner.is;
      kind = inner.kind;
      floor_is = inner.floor_is;
      outside = inner.outside ∙ one_more (length levels);
      long = omega (arith, inner.long);
    }
  where
    one_more : (n : ℕ)
        → kind_outside (record { kind = kind_at 0 kinds; floor = floor } ∷ outer) n (kinds / 2) ≡ Some (kind_at n kinds)
    one_more zero = refl
    one_more (suc n) = refl

-- where none lie outside, the kind of the next domain out is that of the kinds
outermost : (n kinds : ℕ) → kind_outside [] n kinds ≡ outer_kind n kinds
outermost zero kinds = refl
outermost (suc n) kinds = refl

-- the domains of a task: its own and those outside it, as many as its depth, from which its calls take what they depend on
pub record IsOutermost (task : Task) : Type 0 where
  pub own : Domain
  pub rest : List Domain
  pub is : domains_of task.kinds task.key.domain ≡ own ∷ rest
  pub long : length rest ≡ length task.key.domain
  pub context : (version : ℕ) → start_context version task ≡ turns.context_of_domains version own rest task.key.ts

-- each task has its domains
pub starts_so : (task : Task) → IsOutermost task
starts_so task =
    let has = has_context [] 0 task.kinds task.key.domain in
    let long : length has.rest ≡ length task.key.domain = omega (arith, has.long) in
    let outside : first_kind has.rest ≡ outer_kind (length task.key.domain) task.kinds = has.outside ∙ outermost (length task.key.domain) task.kinds in
    record {
      own = has.own;
      rest = has.rest;
      is = has.is;
      long = long;
      context = λ version i. record {
        version = version;
        depth = sym long i + 1;
        own = sym has.kind i;
        outer = sym outside i;
        ts = task.key.ts;
        floor = sym has.floor_is i;
        sub = None;
        children = 0;
        bytes = 0;
      };
    }

-- as many domains as the depth
pub count_domains : (kinds : ℕ) (levels : List Level) → length (domains_of kinds levels) ≡ length levels + 1
count_domains kinds levels = let has = has_context [] 0 kinds levels in ap length has.is ∙ omega (arith, has.long)

-- the kind of a bit
abbrev kind_of : ℕ → Kind
kind_of bit = kind_if (bit % 2 == 1)

-- a subdomain's bit tells its kind
same_kind : (kind : Kind) → kind_of (sub_bit (Some kind)) ≡ kind
same_kind Ordered = refl
same_kind Unordered = refl

-- a bit above the others
module _ (kinds bit n : ℕ) where
  -- the bit is worth twice what it is worth one place lower
  raised : bit * 2 ^ suc n ≡ (bit * 2 ^ n) * 2
  raised = ap (λ power. bit * power) (pow-suc 2 n) ∙ sym (mul_assoc bit (2 ^ n) 2)

  -- leaves the lowest one
  low_bit : (kinds + bit * 2 ^ suc n) % 2 ≡ kinds % 2
  low_bit = ap (λ high. (kinds + high) % 2) raised ∙ add-mul-mod_self_right kinds (bit * 2 ^ n) 2

  -- and stands one lower among the others
  high_bits : (kinds + bit * 2 ^ suc n) / 2 ≡ kinds / 2 + bit * 2 ^ n
  high_bits = ap (λ high. (kinds + high) / 2) raised ∙ halved (bit * 2 ^ n)
    where
      halved : (high : ℕ) → (kinds + high * 2) / 2 ≡ kinds / 2 + high
      halved high = omega arith

-- half of a number below a power
half_below : (kinds n : ℕ) → kinds < 2 ^ suc n → kinds / 2 < 2 ^ n
half_below kinds n low = let power = pow-suc 2 n in omega (arith, low, power)

-- the bits below a place
module _ (kinds n : ℕ) where
  -- they are the lowest one, and the others from the second place on
  parted : kinds % 2 ^ suc n ≡ (kinds / 2 % 2 ^ n) * 2 + kinds % 2
  parted = ap (λ power. kinds % power) (pow-suc 2 n) ∙ mod-mul kinds (pow_pos n) (omega arith)

  -- so the lowest one is the same
  kept_bit : kinds % 2 ^ suc n % 2 ≡ kinds % 2
  kept_bit = ap (λ m. m % 2) parted ∙ low (kinds / 2 % 2 ^ n)
    where
      low : (high : ℕ) → (high * 2 + kinds % 2) % 2 ≡ kinds % 2
      low high = omega arith

  -- and the others are those below the place, one lower
  kept_bits : kinds % 2 ^ suc n / 2 ≡ kinds / 2 % 2 ^ n
  kept_bits = ap (λ m. m / 2) parted ∙ halved (kinds / 2 % 2 ^ n)
    where
      halved : (high : ℕ) → (high * 2 + kinds % 2) / 2 ≡ high
      halved high = omega arith

-- with one more level, and its bit above the others, there is one more domain
sub_behind : (outer : List Domain) (floor kinds bit : ℕ) (levels : List Level) (level : Level)
    → kinds < 2 ^ suc (length levels)
    → domains_behind outer floor (kinds + bit * 2 ^ suc (length levels)) (levels ++ level ∷ [])
    ≡ record { kind = kind_of bit; floor = level.ts } ∷ domains_behind outer floor kinds levels
sub_behind outer floor kinds bit [] level low =
    let half : (kinds + bit * 2 ^ 1) / 2 ≡ bit = omega (arith, low) in
    let same : (kinds + bit * 2 ^ 1) % 2 ≡ kinds % 2 = omega arith in
    λ i. record { kind = kind_if (half i % 2 == 1); floor = level.ts } ∷ record { kind = kind_if (same i == 1); floor = floor } ∷ outer
sub_behind outer floor kinds bit (l ∷ ls) level low =
    let half : (kinds + bit * 2 ^ suc (suc (length ls))) / 2 ≡ kinds / 2 + bit * 2 ^ suc (length ls) = high_bits kinds bit (suc (length ls)) in
    let same : (kinds + bit * 2 ^ suc (suc (length ls))) % 2 ≡ kinds % 2 = low_bit kinds bit (suc (length ls)) in
    (λ i. domains_behind (record { kind = kind_if (same i == 1); floor = floor } ∷ outer) l.ts (half i) (ls ++ level ∷ []))
    ∙ sub_behind (record { kind = kind_at 0 kinds; floor = floor } ∷ outer) l.ts (kinds / 2) bit ls level (half_below kinds (suc (length ls)) low)

-- without the last level, and the bits above the others, there is one fewer
super_behind : (outer : List Domain) (floor kinds : ℕ) (l : Level) (ls : List Level)
    → (d : Domain) × (domains_behind outer floor kinds (l ∷ ls) ≡ d ∷ domains_behind outer floor (kinds % 2 ^ suc (length ls)) (take (length ls) (l ∷ ls)))
super_behind outer floor kinds l [] =
    let same : kinds % 2 ≡ kinds % 2 ^ 1 % 2 = omega arith in (
      record { kind = kind_at 0 (kinds / 2); floor = l.ts },
      λ i. record { kind = kind_at 0 (kinds / 2); floor = l.ts } ∷ record { kind = kind_if (same i == 1); floor = floor } ∷ outer,
    )
super_behind outer floor kinds l (m ∷ ms) =
    let inner = super_behind (record { kind = kind_at 0 kinds; floor = floor } ∷ outer) l.ts (kinds / 2) m ms in
    let half = kept_bits kinds (suc (length ms)) in
    let same = kept_bit kinds (suc (length ms)) in (
      inner.0,
      inner.1
          ∙ (λ i. inner.0 ∷ domains_behind (record { kind = kind_if (sym same i == 1); floor = floor } ∷ outer) l.ts (sym half i) (take (length ms) (m ∷ ms))),
    )

-- a child has the domains of its creator, those and one more, or one fewer
module _ (task : Task) (small : task.kinds < 2 ^ depth_of task) where
  -- the depth, as the number behind the levels
  one_more : length task.key.domain + 1 ≡ suc (length task.key.domain)
  one_more = omega arith

  -- one more, in the subdomain
  in_sub : (kind : Kind) → task.sub ≡ Some kind
      → domains_of (child_kinds task Sub) (child_domain task Sub) ≡ record { kind = kind; floor = task.key.ts } ∷ domains_of task.kinds task.key.domain
  in_sub kind has =
      ap (λ n. domains_of (task.kinds + sub_bit task.sub * 2 ^ n) (child_domain task Sub)) one_more
      ∙ sub_behind [] 0 task.kinds (sub_bit task.sub) task.key.domain (own_level task) (subst (λ n. task.kinds < 2 ^ n) one_more small)
      ∙ ap (λ k. record { kind = k; floor = task.key.ts } ∷ domains_of task.kinds task.key.domain) (ap (λ sub. kind_of (sub_bit sub)) has ∙ same_kind kind)

  -- one fewer, in the superdomain
  in_super : (levels : List Level) → 1 ≤ length levels
      → (d : Domain) × (domains_of task.kinds levels ≡ d ∷ domains_of (task.kinds % 2 ^ length levels) (take (length levels - 1) levels))
  in_super [] some = absurd (omega (arith, some))
  in_super (l ∷ ls) some =
      let one = super_behind [] 0 task.kinds l ls in
      let short : suc (length ls) - 1 ≡ length ls = omega arith in
      (one.0, one.1 ∙ ap (λ n. one.0 ∷ domains_of (task.kinds % 2 ^ suc (length ls)) (take n (l ∷ ls))) (sym short))

  -- for each domain of a child
  pub child_domains : (place : Place) → (place ≡ Sub → (kind : Kind) × (task.sub ≡ Some kind))
      → (place ≡ Super → 2 ≤ depth_of task)
      → ChildDomains (domains_of task.kinds task.key.domain) task.key.ts task.sub place (domains_of (child_kinds task place) (child_domain task place))
  child_domains Same inside outside = refl
  child_domains Sub inside outside = let has = inside refl in (has.0, has.1, in_sub has.0 has.1)
  child_domains Super inside outside = in_super task.key.domain (let deep = outside refl in omega (arith, deep))
