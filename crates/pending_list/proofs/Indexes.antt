-- Slots with their ranks, as a task joins or leaves.
use Rattle.std.proofs.Common.{◌≡◌, ◌≢◌, ◌⊎◌, inl, inr, refl, sym, ap, ◌∙◌, subst, ℕ, ◌+◌, ◌*◌, ◌-◌, ◌^◌, ◌<◌, ◌≤◌, true}
use Rattle.std.proofs.Common.{false, List, [], ◌∷◌, ◌++◌, length, get_or, set, drop, arith}
use Rattle.std.specs.List.Sorted.{IsPartitionedBy, IsPartitionPoint}
use Rattle.std.proofs.lemmas.Bool.{cases_eq, cases_lt}
use Rattle.std.proofs.lemmas.List.{get_or_default, get_or_past, get_or_push, get_or_append_left, get_or-set_same}
use Rattle.std.proofs.lemmas.List.{get_or-set_other, get_or-take, get_or-drop, length-set, length_push}
use Rattle.std.proofs.lemmas.List.{take-append-drop, append-nil}
use Rattle.task_desc.specs.declared.desc.Name.{Name}
use Rattle.pending_list.specs.declared.slot.Slot.{Slot}
use Rattle.pending_list.specs.Pending.{name_before, AllBefore}
use Rattle.pending_list.specs.Slots.{present, slot_at, vacant, NamesRise, IsFirstNotBefore, IsPlaceOfName, IsTrimmed}
use Rattle.pending_list.specs.Slots.{rank_of, AreRanked}
use Rattle.pending_list.specs.Tournament.{no_rank}
use Rattle.pending_list.proofs.Before.{before_trans}
use Rattle.pending_list.proofs.Presents.{present-append, present-All, present-vacant}
use Rattle.pending_list.proofs.Firsts.{rank_vacant}

-- names that rise are parted by any name
pub parted : (name : Name) (xs : List Slot) → NamesRise xs → IsPartitionedBy (λ s. name_before s.task.name name) xs
parted name xs rises i j d order inside before = go (cases_eq i j) where
  go : (i ≡ j) ⊎ (i ≢ j) → name_before (get_or xs i d).task.name name ≡ true
  go (inl same) = subst (λ k. name_before (get_or xs k d).task.name name ≡ true) (sym same) before
  go (inr other) =
      before_trans (get_or xs i d).task.name (get_or xs j d).task.name name
      (ap (λ s. name_before s.task.name (get_or xs j d).task.name) (get_or_default xs i d vacant (omega arith))
      ∙ ap (λ s. name_before (slot_at xs i).task.name s.task.name) (get_or_default xs j d vacant inside)
      ∙ rises i j (omega arith) inside)
      before

pub first_not_before : (name : Name) (xs : List Slot) (place : ℕ) → place ≤ length xs
    → IsPartitionPoint (λ s. name_before s.task.name name ≡ true) (λ s. name_before s.task.name name ≡ false) xs place
    → IsFirstNotBefore name xs place
first_not_before name xs place within point = record {
  within = within;
  before = λ k front. point.0 k vacant (omega arith) front;
  behind = λ k back inside. point.1 k vacant back inside;
}

-- a name behind those of the tasks that are there is behind those of all slots
each_before : (name : Name) (xs : List Slot) (ranks : List ℕ) (capacity : ℕ) → AreRanked xs ranks capacity
    → AllBefore name (present xs)
    → (k : ℕ) → k < length xs → name_before (slot_at xs k).task.name name ≡ true
each_before name xs ranks capacity is all k inside = go (cases_eq k (length xs - 1)) where
  last : name_before (slot_at xs (length xs - 1)).task.name name ≡ true
  last = present-All (λ t. name_before t.name name ≡ true) xs all (length xs - 1) (omega arith) (is.ends (omega arith))

  go : (k ≡ length xs - 1) ⊎ (k ≢ length xs - 1) → name_before (slot_at xs k).task.name name ≡ true
  go (inl same) = subst (λ j. name_before (slot_at xs j).task.name name ≡ true) (sym same) last
  go (inr other) =
      before_trans (slot_at xs k).task.name (slot_at xs (length xs - 1)).task.name name
      (is.rises k (length xs - 1) (omega arith) (omega arith)) last

below_differs : (i n : ℕ) → i < n → i ≢ n
below_differs i n below same = let no_way : ⊥ = omega arith in no_way

push_other : (xs : List Slot) (s : Slot) (k : ℕ) → k ≢ length xs → slot_at (xs ++ s ∷ []) k ≡ slot_at xs k
push_other xs s k other = go (cases_lt k (length xs)) where
  go : (k < length xs) ⊎ (length xs ≤ k) → slot_at (xs ++ s ∷ []) k ≡ slot_at xs k
  go (inl inside) = get_or_append_left xs (s ∷ []) vacant k inside
  go (inr past) =
      get_or_past (xs ++ s ∷ []) k vacant (omega (arith, length_push xs s)) ∙ sym (get_or_past xs k vacant past)

-- a task joins at the end
pub pushed : (xs ys : List Slot) (ranks after : List ℕ) (capacity more : ℕ) (s : Slot) → AreRanked xs ranks capacity
    → length xs < length ranks
    → s.here ≡ true → s.task.ts < 2 ^ 32 → AllBefore s.task.name (present xs) → ys ≡ xs ++ s ∷ []
    → after ≡ set ranks (length xs) (s.task.ts * 2 ^ 32 + length xs) → capacity ≤ more → AreRanked ys after more
pushed xs ys ranks after capacity more s is some here stamp all joined ranked wider =
    subst (λ zs. AreRanked zs after more) (sym joined)
    (subst (λ rs. AreRanked (xs ++ s ∷ []) rs more) (sym ranked) index) where
      longer : length (xs ++ s ∷ []) ≡ length xs + 1
      longer = length_push xs s

      wide : length (set ranks (length xs) (s.task.ts * 2 ^ 32 + length xs)) ≡ length ranks
      wide = length-set ranks (length xs) (s.task.ts * 2 ^ 32 + length xs)

      at_end : (k : ℕ) → k ≡ length xs → slot_at (xs ++ s ∷ []) k ≡ s
      at_end k end = get_or_push xs s vacant k (sym end)

      before_end : (i : ℕ) → i < length xs → slot_at (xs ++ s ∷ []) i ≡ slot_at xs i
      before_end i inside = push_other xs s i (below_differs i (length xs) inside)

      stamps : (k : ℕ) → k < length (xs ++ s ∷ []) → (k ≡ length xs) ⊎ (k ≢ length xs)
          → (slot_at (xs ++ s ∷ []) k).task.ts < 2 ^ 32
      stamps k inside (inl end) = subst (λ t. t.task.ts < 2 ^ 32) (sym (at_end k end)) stamp
      stamps k inside (inr other) =
          subst (λ t. t.task.ts < 2 ^ 32) (sym (push_other xs s k other)) (is.stamps k (omega (arith, longer)))

      of : (k : ℕ) → k < length ranks → (k ≡ length xs) ⊎ (k ≢ length xs)
          → get_or (set ranks (length xs) (s.task.ts * 2 ^ 32 + length xs)) k no_rank
          ≡ rank_of k (slot_at (xs ++ s ∷ []) k)
      of k inside (inl end) =
          ap (λ j. get_or (set ranks (length xs) (s.task.ts * 2 ^ 32 + length xs)) j no_rank) end
          ∙ get_or-set_same ranks (length xs) (s.task.ts * 2 ^ 32 + length xs) no_rank some
          ∙ ap (λ j. s.task.ts * 2 ^ 32 + j) (sym end)
          ∙ (let own : s.task.ts * 2 ^ 32 + k ≡ rank_of k s = rw here refl in own)
          ∙ ap (rank_of k) (sym (at_end k end))
      of k inside (inr other) =
          get_or-set_other ranks (length xs) k (s.task.ts * 2 ^ 32 + length xs) no_rank other ∙ is.ranked k inside
          ∙ ap (rank_of k) (sym (push_other xs s k other))

      rises : (i j : ℕ) → i < j → j < length (xs ++ s ∷ []) → (j ≡ length xs) ⊎ (j ≢ length xs)
          → name_before (slot_at (xs ++ s ∷ []) i).task.name (slot_at (xs ++ s ∷ []) j).task.name ≡ true
      rises i j order inside (inl end) =
          ap (λ t. name_before t.task.name (slot_at (xs ++ s ∷ []) j).task.name) (before_end i (omega arith))
          ∙ ap (λ t. name_before (slot_at xs i).task.name t.task.name) (at_end j end)
          ∙ each_before s.task.name xs ranks capacity is all i (omega arith)
      rises i j order inside (inr other) =
          ap (λ t. name_before t.task.name (slot_at (xs ++ s ∷ []) j).task.name) (before_end i (omega (arith, longer)))
          ∙ ap (λ t. name_before (slot_at xs i).task.name t.task.name) (push_other xs s j other)
          ∙ is.rises i j order (omega (arith, longer))

      index : AreRanked (xs ++ s ∷ []) (set ranks (length xs) (s.task.ts * 2 ^ 32 + length xs)) more
      index = record {
        within = omega (arith, longer, wide);
        held = (let held = is.held in omega (arith, wide));
        few = (let few = is.few in omega (arith, wide));
        stamps = λ k inside. stamps k inside (cases_eq k (length xs));
        ranked = λ k inside. of k (omega (arith, wide)) (cases_eq k (length xs));
        rises = λ i j order inside. rises i j order inside (cases_eq j (length xs));
        ends = λ some. ap (λ t. t.here) (at_end (length (xs ++ s ∷ []) - 1) (omega (arith, longer))) ∙ here;
      }

-- where the vacant slots at the end are dropped, the same tasks are there
pub trimmed_same : (xs ys : List Slot) → IsTrimmed xs ys → present ys ≡ present xs
trimmed_same xs ys is =
    sym (append-nil (present ys))
    ∙ ap (λ ts. present ys ++ ts) (sym (present-vacant (drop (length ys) xs) gone))
    ∙ sym (present-append ys (drop (length ys) xs))
    ∙ ap (λ front. present (front ++ drop (length ys) xs)) is.front
    ∙ ap present (take-append-drop (length ys) xs)
  where
    gone : (k : ℕ) → (slot_at (drop (length ys) xs) k).here ≡ false
    gone k = ap (λ s. s.here) (get_or-drop (length ys) xs k vacant) ∙ is.vacant (length ys + k) (omega arith)

-- a task leaves its slot
pub left_slot : (name : Name) (xs ys zs : List Slot) (ranks after : List ℕ) (capacity more at : ℕ) (s : Slot)
    → AreRanked xs ranks capacity
    → IsPlaceOfName name xs at → s.here ≡ false → s.task ≡ (slot_at xs at).task → ys ≡ set xs at s → IsTrimmed ys zs
    → after ≡ set ranks at no_rank → capacity ≤ more → AreRanked zs after more
left_slot name xs ys zs ranks after capacity more at s is place gone kept set_is trimmed ranked wider = record {
  within = (let within = is.within in let fewer = trimmed.fewer in omega (arith, long, wide));
  held = (let held = is.held in omega (arith, wide));
  few = (let few = is.few in omega (arith, wide));
  stamps = λ k inside.
      (let stamp = is.stamps k (let fewer = trimmed.fewer in omega (arith, long)) in
      let task = ap (λ t. t.ts) (tasks k inside) in
      omega arith);
  ranked = λ k inside. of k (omega (arith, wide)) (cases_eq k at) ∙ past k (cases_lt k (length zs));
  rises = λ i j order inside.
      ap (λ t. name_before t.name (slot_at zs j).task.name) (tasks i (omega arith))
      ∙ ap (λ t. name_before (slot_at xs i).task.name t.name) (tasks j inside)
      ∙ is.rises i j order (let fewer = trimmed.fewer in omega (arith, long));
  ends = trimmed.ends;
}
  where
    long : length ys ≡ length xs
    long = ap length set_is ∙ length-set xs at s

    wide : length after ≡ length ranks
    wide = ap length ranked ∙ length-set ranks at no_rank

    at_place : (k : ℕ) → k ≡ at → slot_at ys k ≡ s
    at_place k end = ap (λ zs. slot_at zs k) set_is ∙ ap (slot_at (set xs at s)) end
        ∙ get_or-set_same xs at s vacant place.within

    elsewhere : (k : ℕ) → k ≢ at → slot_at ys k ≡ slot_at xs k
    elsewhere k other = ap (λ zs. slot_at zs k) set_is ∙ get_or-set_other xs at k s vacant other

    front : (k : ℕ) → k < length zs → slot_at zs k ≡ slot_at ys k
    front k inside = ap (λ ts. slot_at ts k) trimmed.front ∙ get_or-take (length zs) ys k vacant inside

    task : (k : ℕ) → (k ≡ at) ⊎ (k ≢ at) → (slot_at ys k).task ≡ (slot_at xs k).task
    task k (inl end) = ap (λ t. t.task) (at_place k end) ∙ kept ∙ ap (λ j. (slot_at xs j).task) (sym end)
    task k (inr other) = ap (λ t. t.task) (elsewhere k other)

    tasks : (k : ℕ) → k < length zs → (slot_at zs k).task ≡ (slot_at xs k).task
    tasks k inside = ap (λ t. t.task) (front k inside) ∙ task k (cases_eq k at)

    of : (k : ℕ) → k < length ranks → (k ≡ at) ⊎ (k ≢ at) → get_or after k no_rank ≡ rank_of k (slot_at ys k)
    of k inside (inl end) =
        ap (λ rs. get_or rs k no_rank) ranked ∙ ap (λ j. get_or (set ranks at no_rank) j no_rank) end
        ∙ get_or-set_same ranks at no_rank no_rank (let within = is.within in let low = place.within in omega arith)
        ∙ sym (rank_vacant k s gone) ∙ ap (rank_of k) (sym (at_place k end))
    of k inside (inr other) =
        ap (λ rs. get_or rs k no_rank) ranked ∙ get_or-set_other ranks at k no_rank no_rank other ∙ is.ranked k inside
        ∙ ap (rank_of k) (sym (elsewhere k other))

    past : (k : ℕ) → (k < length zs) ⊎ (length zs ≤ k) → rank_of k (slot_at ys k) ≡ rank_of k (slot_at zs k)
    past k (inl inside) = ap (rank_of k) (sym (front k inside))
    past k (inr behind) =
        rank_vacant k (slot_at ys k) (trimmed.vacant k behind) ∙ sym (ap (rank_of k) (get_or_past zs k vacant behind))
