-- Each order of a round has the act by which a dispatched least task gets on.
use Rattle.std.proofs.Common.{ℕ, zero, suc, ◌≡◌, ◌<◌, ◌≤◌, ◌+◌, ◌-◌, ◌*◌, ◌/◌, ◌%◌, ◌^◌}
use Rattle.std.proofs.Common.{◌==◌, List, [], ◌∷◌, ◌++◌, length, map}
use Rattle.std.proofs.Common.{refl, sym, ap, subst, ◌∙◌, arith, le_refl, replicate, inl, inr}
use Rattle.std.specs.List.{Contains, flat_map, range_with_len, swap}
use Rattle.std.proofs.lemmas.Bool.{cond_both}
use Rattle.std.proofs.lemmas.List.Edits.{length-swap}
use Rattle.std.proofs.lemmas.List.Elements.{Contains-append_left, Contains-append_right}
use Rattle.std.proofs.lemmas.List.FromFn.{get_or-range_with_len, length-range_with_len}
use Rattle.std.proofs.lemmas.List.Sorted.{Contains-permutation, IsPermutation-swap}
use Rattle.std.proofs.lemmas.Nat.{mul-le}
use Rattle.std.proofs.Math.Nat.{div-lt_iff_lt-mul, mod-lt}
use Rattle.watch_counts.specs.step_script.declared.act.Act.{Act}
use Rattle.watch_counts.specs.step_script.declared.act.Act.TheVariants as acts
use Rattle.watch_play.specs.Courses.{Order, next_draw, next_order, round_acts, shuffled, tile_acts, with_drawn}

-- ---- a list has an element

mapped : {X Y : Type 0} (f : X → Y) (xs : List X) (x : X) → Contains xs x → Contains (map f xs) (f x)
mapped f [] x has = absurd (omega (arith, has.1))
mapped f (y ∷ xs) x (zero, below, at) = (zero, omega arith, ap f at)
mapped f (y ∷ xs) x (suc k, below, at) =
    let rest = mapped f xs x (k, omega (arith, below), at) in
    let inside = rest.1 in
    (suc rest.0, omega (arith, inside), rest.2)

flattened : {X Y : Type 0} (f : X → List Y) (xs : List X) (x : X) (y : Y) → Contains xs x → Contains (f x) y
    → Contains (flat_map f xs) y
flattened f [] x y has there = absurd (omega (arith, has.1))
flattened f (z ∷ xs) x y (zero, below, at) there =
    Contains-append_left (f z) (flat_map f xs) y (subst (λ w. Contains (f w) y) (sym at) there)
flattened f (z ∷ xs) x y (suc k, below, at) there =
    Contains-append_right (f z) (flat_map f xs) y (flattened f xs x y (k, omega (arith, below), at) there)

in_range : (n k : ℕ) → k < n → Contains (range_with_len 0 n) k
in_range n k inside =
    let count = length-range_with_len 0 n in
    let is = get_or-range_with_len 0 n k k inside in
    (k, omega (arith, count, inside), omega (arith, is))

-- ---- the acts of a round

-- the order has a step of each core, and a commit
pub record HasOwn (tiles cores : ℕ) (list : List Act) : Type 0 where
  pub steps : (tile core : ℕ) → tile < tiles → core < cores → Contains list (acts.Step tile core)
  pub commit : Contains list acts.Commit

pub round_has : (tiles cores : ℕ) → 1 ≤ tiles → HasOwn tiles cores (round_acts tiles cores)
unfolding round_acts
round_has tiles cores some =
    let fronts = flat_map (tile_acts cores) (range_with_len 0 tiles) in
    let commits = replicate tiles acts.Commit in
    let splits = map acts.Split (range_with_len 0 tiles) in record {
      steps = λ tile core low below.
          Contains-append_left (fronts ++ commits) splits (acts.Step tile core)
          (Contains-append_left fronts commits (acts.Step tile core)
          (flattened (tile_acts cores) (range_with_len 0 tiles) tile (acts.Step tile core) (in_range tiles tile low)
          (Contains-append_right (acts.Dispatch tile ∷ []) (map (acts.Step tile) (range_with_len 0 cores))
          (acts.Step tile core)
          (mapped (acts.Step tile) (range_with_len 0 cores) core (in_range cores core below)))));
      commit =
          Contains-append_left (fronts ++ commits) splits acts.Commit
          (Contains-append_right fronts commits acts.Commit (first tiles some));
    }
  where
    first : (n : ℕ) → 1 ≤ n → Contains (replicate n acts.Commit) acts.Commit
    first zero some = absurd (omega (arith, some))
    first (suc n) some = (0, omega arith, refl)

-- ---- other orders

draw_below : (drawn : ℕ) → next_draw drawn < 2 ^ 32
unfolding next_draw
draw_below drawn = mod-lt (1664525 * drawn + 1013904223) (omega arith)

place_below : (drawn last : ℕ) → next_draw drawn * (last + 1) / 2 ^ 32 < last + 1
place_below drawn last =
    let low = draw_below drawn in
    let most : next_draw drawn ≤ 2 ^ 32 - 1 = omega (arith, low) in
    let bound = mul-le (next_draw drawn) (last + 1) (2 ^ 32 - 1) (last + 1) most (le_refl (last + 1)) in
    (div-lt_iff_lt-mul {k = 2 ^ 32} (omega arith)).1 (omega (arith, bound))

drawn_has : (last : ℕ) (order : Order) (act : Act) → last < length order.acts → Contains order.acts act
    → Contains (with_drawn last order).acts act
drawn_has last order act inside has =
    let place = next_draw order.drawn * (last + 1) / 2 ^ 32 in
    let low = place_below order.drawn last in
    Contains-permutation order.acts (swap order.acts last place) act
    (IsPermutation-swap order.acts (swap order.acts last place) last place inside (omega (arith, low, inside)) refl) has

shuffled_has : (n : ℕ) (order : Order) (act : Act) → n ≤ length order.acts → Contains order.acts act
    → Contains (shuffled n order).acts act
shuffled_has zero order act low has = has
shuffled_has (suc last) order act low has =
    let same = length-swap order.acts last (next_draw order.drawn * (last + 1) / 2 ^ 32) in
    shuffled_has last (with_drawn last order) act (omega (arith, low, same))
    (drawn_has last order act (omega (arith, low)) has)

pub next_has : (tiles cores seed : ℕ) (order : Order) → HasOwn tiles cores order.acts
    → HasOwn tiles cores (next_order seed order).acts
unfolding next_order
next_has tiles cores seed order has =
    cond_both (seed == 0) order (shuffled (length order.acts) order) (λ (o : Order). HasOwn tiles cores o.acts)
    (λ none. has)
    (λ some. record {
      steps = λ tile core low below.
          shuffled_has (length order.acts) order (acts.Step tile core) (le_refl (length order.acts))
          (has.steps tile core low below);
      commit = shuffled_has (length order.acts) order acts.Commit (le_refl (length order.acts)) has.commit;
    })
