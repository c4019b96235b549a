-- The acts of a round, their number and their order.
use Rattle.std.proofs.Common.{◌≡◌, ◌<◌, ◌≤◌, ◌+◌, ◌-◌, ◌*◌, ◌/◌, ◌^◌, ◌++◌, ◌∷◌, ◌==◌, ℕ, zero, suc, List, []}
use Rattle.std.proofs.Common.{All, length, map, replicate, set, inl, inr, le_refl}
use Rattle.std.proofs.Common.{sym, ap, subst, ◌∙◌, arith, append_assoc, append-nil, length-append, map-id, add-one}
use Rattle.std.specs.Prelude.{slice_index_or}
use Rattle.std.specs.List.{flat_map, range_with_len, swap}
use Rattle.std.proofs.lemmas.Bool.{cases_lt, cond_both}
use Rattle.std.proofs.lemmas.List.{get_or_past, get_or-replicate, length-map, length-replicate, replicate_more}
use Rattle.std.proofs.lemmas.List.Concat.{flat_map-append}
use Rattle.std.proofs.lemmas.List.Elements.{All-append, All-map, All-nil, All-set}
use Rattle.std.proofs.lemmas.List.FromFn.{get_or-range_with_len, length-range_with_len, map-range_with_len_more}
use Rattle.std.proofs.lemmas.Nat.{mul-le}
use Rattle.watch_counts.specs.spec_state.declared.settings.Settings.{Settings}
use Rattle.watch_counts.specs.spec_state.Settings.{IsValid}
use Rattle.watch_counts.specs.step_script.declared.act.Act.{Act}
use Rattle.watch_counts.specs.step_script.declared.act.Act.TheVariants as acts
use Rattle.watch_counts.specs.step_script.Ranges.{ActIsInRange}
use Rattle.watch_play.specs.Courses.{Order, next_draw, next_order, round_acts, round_length, shuffled, tile_acts}
use Rattle.watch_play.specs.Courses.{with_drawn}

-- ---- put together act by act

-- acts behind those that were added
onto : (old mid new front back : List Act) → mid ≡ old ++ front → new ≡ mid ++ back → new ≡ old ++ (front ++ back)
onto old mid new front back are is = is ∙ (ap (λ l. l ++ back) are ∙ append_assoc old front back)

pub tile_step : (old mid new : List Act) (tile core : ℕ) → mid ≡ old ++ tile_acts core tile
    → new ≡ mid ++ acts.Step tile core ∷ [] → new ≡ old ++ tile_acts (core + 1) tile
tile_step old mid new tile core are is =
    onto old mid new (tile_acts core tile) (acts.Step tile core ∷ []) are is
    ∙ ap (λ l. old ++ acts.Dispatch tile ∷ l) (sym (map-range_with_len_more (acts.Step tile) 0 core core (omega arith)))

range_more : (n : ℕ) → range_with_len 0 (n + 1) ≡ range_with_len 0 n ++ n ∷ []
range_more n =
    sym (map-id (range_with_len 0 (n + 1)))
    ∙ (map-range_with_len_more (λ (k : ℕ). k) 0 n n (omega arith) ∙ ap (λ l. l ++ n ∷ []) (map-id (range_with_len 0 n)))

pub tiles_step : (old mid new : List Act) (cores tile : ℕ)
    → mid ≡ old ++ flat_map (tile_acts cores) (range_with_len 0 tile) → new ≡ mid ++ tile_acts cores tile
    → new ≡ old ++ flat_map (tile_acts cores) (range_with_len 0 (tile + 1))
tiles_step old mid new cores tile are is =
    let f = tile_acts cores in
    let more : flat_map f (range_with_len 0 tile) ++ f tile ≡ flat_map f (range_with_len 0 (tile + 1)) =
    ap (λ l. flat_map f (range_with_len 0 tile) ++ l) (sym (append-nil (f tile)))
    ∙ (sym (flat_map-append f (range_with_len 0 tile) (tile ∷ [])) ∙ ap (flat_map f) (sym (range_more tile))) in
    onto old mid new (flat_map f (range_with_len 0 tile)) (f tile) are is ∙ ap (λ l. old ++ l) more

pub commits_step : (old mid new : List Act) (n : ℕ) → mid ≡ old ++ replicate n acts.Commit
    → new ≡ mid ++ acts.Commit ∷ [] → new ≡ old ++ replicate (n + 1) acts.Commit
commits_step old mid new n are is =
    onto old mid new (replicate n acts.Commit) (acts.Commit ∷ []) are is
    ∙ ap (λ l. old ++ l) (replicate_more n acts.Commit)

pub splits_step : (old mid new : List Act) (n : ℕ) → mid ≡ old ++ map acts.Split (range_with_len 0 n)
    → new ≡ mid ++ acts.Split n ∷ [] → new ≡ old ++ map acts.Split (range_with_len 0 (n + 1))
splits_step old mid new n are is =
    onto old mid new (map acts.Split (range_with_len 0 n)) (acts.Split n ∷ []) are is
    ∙ ap (λ l. old ++ l) (sym (map-range_with_len_more acts.Split 0 n n (omega arith)))

-- ---- how many there are

fronts_length : (cores : ℕ) (tiles : List ℕ) → length (flat_map (tile_acts cores) tiles) ≡ length tiles * (cores + 1)
fronts_length cores [] = omega arith
fronts_length cores (tile ∷ tiles) =
    let rest = fronts_length cores tiles in
    let one : length (tile_acts cores tile) ≡ cores + 1 =
    ap (λ n. suc n) (length-map (range_with_len 0 cores) (acts.Step tile) ∙ length-range_with_len 0 cores)
    ∙ sym (add-one cores) in
    let both = length-append (tile_acts cores tile) (flat_map (tile_acts cores) tiles) in
    let product : suc (length tiles) * (cores + 1) ≡ length tiles * (cores + 1) + (cores + 1) = omega arith in
    omega (arith, rest, one, both, product)

pub round_acts_length : (tiles cores : ℕ) → length (round_acts tiles cores) ≡ tiles * (cores + 3)
unfolding round_acts
round_acts_length tiles cores =
    let tiles_are = range_with_len 0 tiles in
    let front = fronts_length cores tiles_are in
    let count = length-range_with_len 0 tiles in
    let fronts : length (flat_map (tile_acts cores) tiles_are) ≡ tiles * (cores + 1) =
    front ∙ ap (λ n. n * (cores + 1)) count in
    let commits = length-replicate tiles acts.Commit in
    let splits : length (map acts.Split tiles_are) ≡ tiles = length-map tiles_are acts.Split ∙ count in
    let outer = length-append (flat_map (tile_acts cores) tiles_are ++ replicate tiles acts.Commit)
    (map acts.Split tiles_are) in
    let inner = length-append (flat_map (tile_acts cores) tiles_are) (replicate tiles acts.Commit) in
    let product : tiles * (cores + 3) ≡ tiles * (cores + 1) + tiles + tiles = product_parts tiles cores in
    omega (arith, fronts, commits, splits, outer, inner, product)
  where
    product_parts : (n c : ℕ) → n * (c + 3) ≡ n * (c + 1) + n + n
    product_parts zero c = omega arith
    product_parts (suc n) c = let rest = product_parts n c in omega (arith, rest)

-- there are some, in a machine of some tiles
pub some_acts : (settings : Settings) → IsValid settings → 0 < round_length settings
some_acts settings valid =
    let least = mul-le 1 (settings.cores + 3) settings.tiles (settings.cores + 3) valid.tiles.0
    (le_refl (settings.cores + 3)) in
    omega (arith, least)

-- and 112 at most
pub few_acts : (settings : Settings) → IsValid settings → round_length settings ≤ 112
few_acts settings valid =
    let cores = valid.cores.1 in
    let sum : settings.cores + 3 ≤ 7 = omega (arith, cores) in
    let bound = mul-le settings.tiles (settings.cores + 3) 16 7 valid.tiles.1 sum in
    omega (arith, bound)

pub few_in_round : (settings : Settings) (acts : List Act) → IsValid settings
    → acts ≡ round_acts settings.tiles settings.cores → length acts < 2 ^ 32
few_in_round settings acts valid are =
    let few = few_acts settings valid in
    let count = ap length are ∙ round_acts_length settings.tiles settings.cores in
    omega (arith, few, count)

-- ---- where they act

module _ (tiles cores : ℕ) where
  abbrev AreInside : List Act → Type 0
  AreInside = All (ActIsInRange tiles cores)

  below : (n : ℕ) → All (λ k. k < n) (range_with_len 0 n)
  below n k d inside =
      let count = length-range_with_len 0 n in
      let here : k < n = omega (arith, count, inside) in
      let is = get_or-range_with_len 0 n k d here in
      omega (arith, is, here)

  tile_inside : (tile : ℕ) → tile < tiles → AreInside (tile_acts cores tile)
  tile_inside tile inside =
      All-append (ActIsInRange tiles cores) (acts.Dispatch tile ∷ []) (map (acts.Step tile) (range_with_len 0 cores))
      (one (acts.Dispatch tile) inside)
      (All-map (ActIsInRange tiles cores) (acts.Step tile) (range_with_len 0 cores)
      (λ k d here. (inside, below cores k d here)))
    where
      one : (act : Act) → ActIsInRange tiles cores act → AreInside (act ∷ [])
      one act here zero d low = here
      one act here (suc k) d low = absurd (omega (arith, low))

  fronts_inside : (list : List ℕ) → All (λ k. k < tiles) list → AreInside (flat_map (tile_acts cores) list)
  fronts_inside [] all = All-nil (ActIsInRange tiles cores)
  fronts_inside (tile ∷ rest) all =
      All-append (ActIsInRange tiles cores) (tile_acts cores tile) (flat_map (tile_acts cores) rest)
      (tile_inside tile (all 0 0 (omega arith)))
      (fronts_inside rest (λ k d here. all (suc k) d (omega (arith, here))))

  pub round_inside : AreInside (round_acts tiles cores)
  unfolding round_acts
  round_inside =
      let all = below tiles in
      let P = ActIsInRange tiles cores in
      let fronts = flat_map (tile_acts cores) (range_with_len 0 tiles) in
      All-append P (fronts ++ replicate tiles acts.Commit) (map acts.Split (range_with_len 0 tiles))
      (All-append P fronts (replicate tiles acts.Commit) (fronts_inside (range_with_len 0 tiles) all)
      (λ k d here.
      let count = length-replicate tiles acts.Commit in
      subst P (sym (get_or-replicate tiles k acts.Commit d (omega (arith, count, here)))) tt))
      (All-map P acts.Split (range_with_len 0 tiles) all)

-- ---- their order

-- one act changed places
pub shuffle_step : (done place drawn next : ℕ) (acts swapped : List Act) (end : Order) → done < length acts
    → shuffled (length acts - done) (record { drawn = drawn; acts = acts }) ≡ end → next ≡ next_draw drawn
    → swapped ≡ swap acts (length acts - 1 - done) place → place ≡ next * (length acts - 1 - done + 1) / 2 ^ 32
    → length swapped ≡ length acts
    → shuffled (length swapped - (done + 1)) (record { drawn = next; acts = swapped }) ≡ end
shuffle_step done place drawn next acts swapped end inside so_far draws swaps places same =
    let last = length acts - 1 - done in
    let left : length swapped - (done + 1) ≡ last = omega (arith, same) in
    let before : length acts - done ≡ suc last = omega (arith, inside) in
    let order : Order = record { drawn = next; acts = swapped } in
    let drawn_is : record { drawn = next; acts = swapped } ≡ with_drawn last (record { drawn = drawn; acts = acts }) =
    (λ i. record {
      drawn = draws i;
      acts = (swaps ∙ ap (swap acts last)
          (places ∙ ap (λ n. n * (last + 1) / 2 ^ 32) draws)) i;
    }) in
    ap (λ n. shuffled n order) left
    ∙ (ap (shuffled last) drawn_is
    ∙ (ap (λ n. shuffled n (record { drawn = drawn; acts = acts })) (sym before) ∙ so_far))

-- a draw within a list is one of its acts, and one outside of it is the first
drawn_in : (P : Act → Type 0) (act : Act) (rest : List Act) (place : ℕ) → All P (act ∷ rest)
    → P (slice_index_or (act ∷ rest) place act)
drawn_in P act rest place all = elim (cases_lt place (length (act ∷ rest))) [
  | inl inside ↦ all place act inside
  | inr past ↦ subst P (sym (get_or_past (act ∷ rest) place act past)) (all 0 act (omega arith))
]

-- what holds of all acts holds of them in another order
swapped_in : (P : Act → Type 0) (list : List Act) (one other : ℕ) → All P list → All P (swap list one other)
swapped_in P [] one other all = all
swapped_in P (act ∷ rest) one other all =
    All-set P (set (act ∷ rest) one (slice_index_or (act ∷ rest) other act)) other
    (slice_index_or (act ∷ rest) one act) (drawn_in P act rest one all)
    (All-set P (act ∷ rest) one (slice_index_or (act ∷ rest) other act) (drawn_in P act rest other all) all)

shuffled_in : (P : Act → Type 0) (n : ℕ) (order : Order) → All P order.acts → All P (shuffled n order).acts
shuffled_in P zero order all = all
shuffled_in P (suc last) order all =
    shuffled_in P last (with_drawn last order) (swapped_in P order.acts last _ all)

pub next_in : (P : Act → Type 0) (seed : ℕ) (order : Order) → All P order.acts → All P (next_order seed order).acts
unfolding next_order
next_in P seed order all =
    cond_both (seed == 0) order (shuffled (length order.acts) order) (λ (o : Order). All P o.acts)
    (λ none. all) (λ some. shuffled_in P (length order.acts) order all)
