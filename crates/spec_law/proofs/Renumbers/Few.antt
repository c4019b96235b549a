-- At most so many numbers are in use: each is one of the path or that of a queued task.
use Rattle.std.proofs.Common.{◌≡◌, ◌≢◌, ◌⊎◌, ◌+◌, ◌*◌, ◌<◌, ◌≤◌, ◌++◌, ◌∷◌, ℕ, zero, suc, List, [], length, Option}
use Rattle.std.proofs.Common.{Some, None, refl, sym, ap, subst, ◌∙◌, inl, inr, arith, map, flat_map, slice_index_or}
use Rattle.std.proofs.Common.{unwrap_or}
use Rattle.std.specs.Prelude.{All, AllPairs, Contains}
use Rattle.std.proofs.Math.Nat.{mul-le-mul_left}
use Rattle.std.proofs.lemmas.List.{length-map, length-append}
use Rattle.std.proofs.lemmas.List.Elements.{All-head, All-tail, All-weaker, Contains-append_cases, Contains-append_left}
use Rattle.std.proofs.lemmas.List.Elements.{Contains-append_right}
use Rattle.std.proofs.lemmas.List.Kept.{AllPairs-from_increasing}
use Rattle.fractal_vt.specs.declared.level.Level.{Level}
use Rattle.fractal_vt.specs.Levels.{closed_level}
use Rattle.guest_image.specs.ImageValue.{ImageValue}
use Rattle.order_law.specs.Ordered.{IsNumberOf}
use Rattle.order_law.specs.Tasks.{Keyed, HasNumber}
use Rattle.order_law.proofs.Proved.{held_law}
use Rattle.spec_state.specs.declared.numbers.TheConstants.{MAX_NUMBERS_IN_USE}
use Rattle.spec_state.specs.declared.task.Task.{Task}
use Rattle.spec_state.specs.View.{View, task_at}
use Rattle.spec_state.specs.Groups.{all_keyed, all_spilled, keyed_tasks, keyed_spilled, keyed_task}
use Rattle.spec_state.specs.Numbers.{IsInUse, IsPathsOrTasks, IsTieOf, on_path, in_domain, of_task, of_spilled}
use Rattle.spec_state.proofs.Proved.{head_or_tail}
use Rattle.tile_queues.specs.Queue.{AreDistinct}
use Rattle.spec_law.specs.Sound.{Sound}
use Rattle.spec_law.specs.Renumbering.{NumbersAreHeld, NumbersInUseAreFew}
use Rattle.spec_law.proofs.Tasks.Beside.{id_below, queued_stands, spilled_stands, which}
use Rattle.spec_law.proofs.Tasks.Filtered.{get_mapped}
use Rattle.spec_law.proofs.Tasks.Places.{contains_get, get_contains, parted}
use Rattle.spec_law.proofs.Tasks.Rebound.{below_all}
use Rattle.fractal_vt.proofs.Proved.{mapped_some}

-- what stands in a list around an element, and isn't that, stands in the list without it
without_one : (front back : List ℕ) (n m : ℕ) → n ≢ m → Contains (front ++ n ∷ back) m → Contains (front ++ back) m
without_one front back n m other has = elim (Contains-append_cases front (n ∷ back) m has) [
  | inl before ↦ Contains-append_left front back m before
  | inr later ↦ elim (head_or_tail n back m later) [
    | inl same ↦ absurd (other same)
    | inr behind ↦ Contains-append_right front back m behind
  ]
]

-- rising numbers that all stand in a list are no more than its places
fewer : (numbers xs : List ℕ) → AllPairs (λ m n. m < n) numbers → ((n : ℕ) → Contains numbers n → Contains xs n)
    → length numbers ≤ length xs
fewer [] xs rising each = omega arith
fewer (n ∷ numbers) xs rising each =
    let at = contains_get xs n (each n (0, omega arith, refl)) in
    let parts = parted xs at.0 n at.1 in
    let rest = fewer numbers (parts.0 ++ parts.1)
    (λ i j d less inside. rising (suc i) (suc j) d (omega (arith, less)) (omega (arith, inside)))
    (λ m has.
    (let further : n < m = subst (λ k. n < k) has.2 (rising 0 (suc has.0) m (omega arith) (let low = has.1 in omega (arith, low))) in
    without_one parts.0 parts.1 n m (λ same. (let less = further in omega (arith, less, same)))
    (subst (λ ys. Contains ys m) parts.2 (each m (suc has.0, (let low = has.1 in omega (arith, low)), has.2)))))
    in
    let whole = ap length parts.2 ∙ length-append parts.0 (n ∷ parts.1) in
    let fewer_places = length-append parts.0 parts.1 in
    omega (arith, rest, whole, fewer_places)

-- a tiebreaker of some levels is a number of theirs
tie_is_number : (ds : List Level) (n : ℕ) → IsTieOf ds n → IsNumberOf n (map closed_level ds)
tie_is_number [] n has = absurd (omega (arith, has.1))
tie_is_number (d ∷ ds) n (zero, low, is) = inl (ap Some is)
tie_is_number (d ∷ ds) n (suc k, low, is) = inr (tie_is_number ds n (k, omega (arith, low), is))

number_is_tie : (ds : List Level) (n : ℕ) → IsNumberOf n (map closed_level ds) → IsTieOf ds n
number_is_tie [] n no_way = absurd no_way
number_is_tie (d ∷ ds) n (inl here) = let same : d.tb ≡ n = cc in (0, omega arith, same)
number_is_tie (d ∷ ds) n (inr later) =
    let rest = number_is_tie ds n later in (suc rest.0, (let low = rest.1 in omega (arith, low)), rest.2)

-- lists no longer than a bound are together no longer than so many times the bound
together : (f : List ℕ → List ℕ) → ((ids : List ℕ) → length (f ids) ≡ length ids) → (bound : ℕ) (lists : List (List ℕ))
    → All (λ ids. length ids ≤ bound) lists → length (flat_map f lists) ≤ length lists * bound
together f same bound [] each = omega arith
together f same bound (ids ∷ lists) each =
    let here = All-head (λ xs. length xs ≤ bound) ids lists each in
    let rest = together f same bound lists (All-tail (λ xs. length xs ≤ bound) ids lists each) in
    let long = same ids in
    let whole = length-append (f ids) (flat_map f lists) in
    grind (arith, here, rest, long, whole)

-- what stands in one of the lists stands, mapped, in all of them together
in_together : (f : ℕ → ℕ) (lists : List (List ℕ)) (k id : ℕ) → Contains (slice_index_or lists k []) id
    → Contains (flat_map (map f) lists) (f id)
in_together f [] k id has = absurd (omega (arith, has.1))
in_together f (ids ∷ lists) zero id has =
    Contains-append_left (map f ids) (flat_map (map f) lists) (f id) (mapped ids has)
  where
    mapped : (xs : List ℕ) → Contains xs id → Contains (map f xs) (f id)
    mapped xs has =
        let at = contains_get xs id has in get_contains (map f xs) at.0 (f id) (get_mapped f xs at.0 id at.1)
in_together f (ids ∷ lists) (suc k) id has =
    Contains-append_right (map f ids) (flat_map (map f) lists) (f id) (in_together f lists k id has)

-- the own tiebreaker of a task, if there is one
abbrev tie_in : Option Task → Option ℕ
tie_in None = None
tie_in (Some t) = t.key.tb

module _ (image : ImageValue) (view : View) (sound : Sound image view) where
  -- a number of the path or of a dispatched task, as the order says it
  of_number : (n : ℕ)
      → IsNumberOf n (map closed_level view.path) ⊎ ((k : ℕ) × (x : Keyed) × (all_keyed view sound.heir k ≡ Some x) × HasNumber x n)
      → IsPathsOrTasks view n
  of_number n (inl on) = inl (number_is_tie view.path n on)
  of_number n (inr task) = elim (which view sound.heir task.0 task.1 task.2) [
    | inl queued ↦ inr (task.0, queued.0, queued.1, sym (ap (λ x. x.last.tb) queued.2) ∙ task.3)
    | inr spilled ↦ absurd (cc (sym (ap (λ x. x.last.tb) spilled.3) ∙ task.3))
  ]

  -- all tasks stand below some id
  bounded : (k : ℕ) (x : Keyed) → all_keyed view sound.heir k ≡ Some x
      → k < length view.tasks + length (map (keyed_spilled (length view.history) sound.heir) (all_spilled view))
  bounded =
      below_all (length view.tasks) (keyed_tasks view) (map (keyed_spilled (length view.history) sound.heir) (all_spilled view))
      (λ j y there. (let read = mapped_some keyed_task (task_at view j) y there in id_below view j read.0 read.1))

  -- each number of a domain is one of them
  of_domain : (k : ℕ) (x : Keyed) (n : ℕ) → all_keyed view sound.heir k ≡ Some x → IsNumberOf n x.domain
      → IsPathsOrTasks view n
  of_domain k x n there is =
      of_number n (held_law (length view.tasks + length (map (keyed_spilled (length view.history) sound.heir) (all_spilled view)))
      (all_keyed view sound.heir) (map closed_level view.path) view.next bounded sound.order.order k x n there is)

  -- and so is each that is in use
  pub used_is_held : (n : ℕ) → IsInUse view n → IsPathsOrTasks view n
  used_is_held n (on_path has) = inl has
  used_is_held n (in_domain id t there has) =
      of_domain id (keyed_task t) n (queued_stands view sound.heir id t there) (tie_is_number t.key.domain n has)
  used_is_held n (of_task id t there own) = inr (id, t, there, own)
  used_is_held n (of_spilled s has is) =
      let place = contains_get (all_spilled view) s has in
      let stands = spilled_stands view sound.heir place.0 s place.1 in
      of_domain stands.0 (keyed_spilled (length view.history) sound.heir s) n stands.1 (tie_is_number s.domain n is)

  -- the number of a task, or 0
  abbrev number : ℕ → ℕ
  number id = unwrap_or (tie_in (task_at view id)) 0

  -- all numbers of the path and of queued tasks
  abbrev held : List ℕ
  held = map (λ (l : Level). l.tb) view.path ++ flat_map (map number) view.queues

  -- each number of the path or of a dispatched task is one of them
  in_held : (n : ℕ) → IsPathsOrTasks view n → Contains held n
  in_held n (inl on) =
      Contains-append_left (map (λ (l : Level). l.tb) view.path) (flat_map (map number) view.queues) n on
  in_held n (inr task) =
      let t = task.1 in
      let queued = (sound.sizes.queued_are t.tile task.0).1 (t, task.2, refl, tt) in
      let is : number task.0 ≡ n = ap (λ o. unwrap_or (tie_in o) 0) task.2 ∙ ap (λ o. unwrap_or o 0) task.3 in
      Contains-append_right (map (λ (l : Level). l.tb) view.path) (flat_map (map number) view.queues) n
      (subst (Contains (flat_map (map number) view.queues)) is (in_together number view.queues t.tile task.0 queued))

  -- there are not many of them
  held_few : length held ≤ MAX_NUMBERS_IN_USE
  held_few =
      let short = sound.order.order.path_short in
      let same_path = length-map view.path closed_level in
      let path_long = length-map view.path (λ (l : Level). l.tb) in
      let queues_long = together (map number) (λ ids. length-map ids number) view.settings.task_queue view.queues
      (All-weaker (λ ids. (length ids ≤ view.settings.task_queue) × AreDistinct ids) (λ ids. length ids ≤ view.settings.task_queue) (λ ids is. is.0) view.queues sound.sizes.task_queues) in
      let whole = length-append (map (λ (l : Level). l.tb) view.path) (flat_map (map number) view.queues) in
      let product : length view.queues * view.settings.task_queue ≤ 4096 = most (length view.queues) view.settings.task_queue
      (subst (λ n. n ≤ 16) (sym sound.sizes.queues) sound.sizes.settings.tiles.1) sound.sizes.settings.task_queue.1 in
      omega (arith, short, same_path, path_long, queues_long, whole, product)
    where
      most : (a b : ℕ) → a ≤ 16 → b ≤ 256 → a * b ≤ 4096
      most a b few short =
          let wide = mul-le-mul_left a short in
          omega (arith, wide, few)

-- each number in use is one of the path or that of a dispatched task
pub numbers_are_held : NumbersAreHeld
numbers_are_held image view sound number used = used_is_held image view sound number used

-- a table of the numbers in use is short
pub numbers_in_use_are_few : NumbersInUseAreFew
numbers_in_use_are_few image view sound table is =
    let few = fewer table (held image view sound) (AllPairs-from_increasing table is.rising) (λ n has. in_held image view sound n (used_is_held image view sound n ((is.exact n).0 has))) in
    let short = held_few image view sound in
    omega (arith, few, short)
