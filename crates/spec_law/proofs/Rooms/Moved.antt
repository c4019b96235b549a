-- A coalescing makes its tile's queue shorter and none longer; a split returns the least task, where that is in the
-- tile's block.
use Rattle.std.proofs.Common.{◌≡◌, ◌≢◌, ℕ, zero, suc, ◌<◌, ◌≤◌, List, [], ◌∷◌, length, map, take, Option, Some, None}
use Rattle.std.proofs.Common.{option_map, refl, sym, ap, subst, ◌∙◌, inl, inr, arith, slice_get, slice_index_or}
use Rattle.std.proofs.lemmas.Bool.{cases_lt}
use Rattle.std.proofs.lemmas.Cmp.{nat_cmp_total, tied_itself}
use Rattle.std.proofs.lemmas.Option.{slice_get-map}
use Rattle.std.specs.Ordering.{nat_cmp, ordering_then, ordering_reverse}
use Rattle.std.specs.declared.cmp.Ordering.TheVariants.{Less, Equal, Greater}
use Rattle.fractal_vt.proofs.Proved.{all_get, first_not_greater, greater_number, key_cmp_total}
use Rattle.fractal_vt.specs.Keys.{key_cmp}
use Rattle.spill_store.specs.SpilledTasks.{Spilled, open_key, IsLeastInBlock}
use Rattle.spec_state.specs.task_law.Room.{RoomTask, queue_after}
use Rattle.spec_state.proofs.Below.task_law.Proved.{shorter, shorter_or_same}
use Rattle.spec_state.specs.View.{View, queue_at, block_at}
use Rattle.spec_state.specs.Tasks.{idle_task, spilled_descriptor}
use Rattle.spec_state.specs.Groups.{room_task, room_tasks}
use Rattle.spec_state.specs.Least.{Spilled_at, place_cmp, IsLeastSpilled}
use Rattle.spec_law.specs.RoomLaws.{CoalesceMakesRoom, SplitReturnsLeast}
use Rattle.spec_law.proofs.Tasks.Ranked.{not_greater_ties}
use Rattle.spec_law.proofs.Tasks.Contained.{some_first}
use Rattle.spec_law.proofs.Rooms.Fit.{contains_in}

-- the queue of a tile, once the ids of tasks that have gone are taken out of each queue
pub queue_is : (new : ℕ → Option RoomTask) (queues : List (List ℕ)) (tile : ℕ)
    → slice_index_or (map (queue_after new) queues) tile [] ≡ queue_after new (slice_index_or queues tile [])
queue_is new [] tile = refl
queue_is new (q ∷ queues) zero = refl
queue_is new (q ∷ queues) (suc tile) = queue_is new queues tile

pub coalesce_makes_room : CoalesceMakesRoom
coalesce_makes_room tile old new moves =
    let now : (other : ℕ) → queue_at new other ≡ queue_after (room_tasks new) (queue_at old other) = λ other. ap (λ queues. slice_index_or queues other []) moves.queues ∙ queue_is (room_tasks new) old.queues other in
    let one = some_first moves.ids moves.some in
    let gone : room_tasks new one.0 ≡ None = ap (option_map room_task) (moves.gone one.0 one.1) in
    let queued = (moves.chosen.movable one.0 one.1).1.idle.queued in (
      subst (λ queue. length queue < length (queue_at old tile)) (sym (now tile)) (shorter (room_tasks new) one.0 (queue_at old tile) gone (contains_in (queue_at old tile) one.0 queued)),
      λ other. subst (λ queue. length queue ≤ length (queue_at old other)) (sym (now other)) (shorter_or_same (room_tasks new) (queue_at old other)),
    )

-- what is found at a place is found there before any later place
get_before : {X : Type 0} (xs : List X) (k n : ℕ) (x : X) → k < n → slice_get xs k ≡ Some x
    → slice_get (take n xs) k ≡ Some x
get_before [] k n x low at = absurd (cc (at))
get_before (y ∷ xs) k zero x low at = absurd (omega (arith, low))
get_before (y ∷ xs) zero (suc n) x low at = at
get_before (y ∷ xs) (suc k) (suc n) x low at = get_before xs k n x (omega (arith, low)) at

-- in one tile, a place that does not rank above another is no later
no_later : (tile p q : ℕ) → place_cmp tile p tile q ≢ Greater → p ≤ q
no_later tile p q upto = elim (cases_lt q p) [
  | inl late ↦ absurd (upto (ap (λ o. ordering_then o (nat_cmp p q)) (tied_itself nat_cmp_total tile) ∙ greater_number p q late))
  | inr low ↦ low
]

module _ (view : View) (tile : ℕ) (least : IsLeastSpilled view tile) (place : ℕ) (s : Spilled) (first : IsLeastInBlock (block_at view tile) place s) where
  -- the open key at a place of the block
  key_there : (k : ℕ) (x : Spilled) → slice_get (block_at view tile) k ≡ Some x
      → slice_get (map open_key (block_at view tile)) k ≡ Some (open_key x)
  key_there k x at = slice_get-map open_key (block_at view tile) k ∙ ap (option_map open_key) at

  -- the key of the spilled task that is taken is the least key of the block
  taken_key : first.least.key ≡ open_key s
  taken_key =
      let both : Some first.least.key ≡ Some (open_key s) = sym first.least.there ∙ key_there place s first.there in
      let same : first.least.key ≡ open_key s = cc in
      same

  -- the spilled task at the least spot
  abbrev at_spot : Spilled
  at_spot = least.least.has.0

  -- the key of the spilled task that is taken is not above the least task's
  taken_upto : key_cmp (open_key s) (open_key at_spot) ≢ Greater
  taken_upto e =
      all_get (λ other. key_cmp first.least.key other ≢ Greater) (map open_key (block_at view tile)) least.place (open_key at_spot) first.least.least
      (key_there least.place at_spot least.least.has.1) (ap (λ key. key_cmp key (open_key at_spot)) taken_key ∙ e)

  -- and the two keys tie
  ties : key_cmp least.least.key (open_key s) ≡ Equal
  ties =
      not_greater_ties (key_cmp least.least.key (open_key s)) (key_cmp (open_key s) least.least.key) (key_cmp_total.antisymm least.least.key (open_key s))
      (first_not_greater (key_cmp least.least.key (open_key s)) (place_cmp tile least.place tile place)
      (least.least.least (Spilled_at tile place) (open_key s) (s, first.there, refl)))
      (λ e. taken_upto (sym (ap (key_cmp (open_key s)) least.least.has.2) ∙ e))

  -- so the least task stands no later
  least_no_later : least.place ≤ place
  least_no_later = no_later tile least.place place (λ e.
      least.least.least (Spilled_at tile place) (open_key s) (s, first.there, refl) (ap (λ o. ordering_then o (place_cmp tile least.place tile place)) ties ∙ e))

  -- nor earlier, since the spilled task that is taken is the first one of its key
  least_no_earlier : least.place < place → ⊥
  least_no_earlier early =
      let below : key_cmp first.least.key (open_key at_spot) ≡ Less = all_get (λ other. key_cmp first.least.key other ≡ Less) (take place (map open_key (block_at view tile)))
      least.place (open_key at_spot) first.least.first
      (get_before (map open_key (block_at view tile)) least.place place (open_key at_spot) early (key_there least.place at_spot least.least.has.1)) in
      let tie : key_cmp (open_key s) (open_key at_spot) ≡ Equal = key_cmp_total.antisymm (open_key s) (open_key at_spot)
      ∙ ap ordering_reverse (sym (ap (λ key. key_cmp key (open_key s)) least.least.has.2) ∙ ties) in
      absurd (cc (below, ap (λ key. key_cmp key (open_key at_spot)) taken_key, tie))

  -- the spilled task that is taken is the least task
  pub taken_is_least : slice_get (block_at view tile) least.place ≡ Some s
  taken_is_least = elim (cases_lt least.place place) [
    | inl early ↦ absurd (least_no_earlier early)
    | inr late ↦
        let low = least_no_later in
        let same : least.place ≡ place = omega (arith, late, low) in
        ap (slice_get (block_at view tile)) same ∙ first.there
  ]

pub split_returns_least : SplitReturnsLeast
split_returns_least tile old new least splits =
    let is = taken_is_least old tile least splits.least.place splits.spilled splits.least.least in
    let both : Some splits.spilled ≡ Some least.least.has.0 = sym is ∙ least.least.has.1 in
    let same : splits.spilled ≡ least.least.has.0 = cc in
    (is, (idle_task old.version (spilled_descriptor splits.spilled) splits.creator tile, splits.changes.changed, ap open_key same ∙ sym least.least.has.2))
