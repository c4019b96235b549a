-- The slot with the least rank has the first of the tasks with the least timestamp.
use Rattle.std.proofs.Common.{◌≡◌, ◌⊎◌, inl, inr, refl, sym, ap, ◌∙◌, ℕ, zero, suc, ◌+◌, ◌*◌, ◌^◌, ◌%◌, ◌<◌, ◌≤◌}
use Rattle.std.proofs.Common.{nat_lt, Bool, true, false, List, [], ◌∷◌, length, get_or, Some, None, Option}
use Rattle.std.proofs.Common.{if◌then◌else◌, arith}
use Rattle.std.proofs.lemmas.Grind.{common_steps}
use Rattle.std.proofs.lemmas.Bool.{cases_lt}
use Rattle.std.proofs.lemmas.Bool.Decides.{nat_tests}
use Rattle.std.proofs.lemmas.List.{get_or_past}
use Rattle.pending_list.specs.declared.task.PendingTask.{PendingTask}
use Rattle.pending_list.specs.declared.slot.Slot.{Slot}
use Rattle.pending_list.specs.Pending.{earlier, first_least}
use Rattle.pending_list.specs.Slots.{present, slot_at, vacant, rank_of, AreRanked}
use Rattle.pending_list.specs.Tournament.{no_rank, IsLeastOf}

-- a task is there at this place, those before it have greater timestamps, and those behind it none that is smaller
pub record IsFirstAt (xs : List Slot) (at : ℕ) : Type 0 where
  pub within : at < length xs
  pub here : (slot_at xs at).here ≡ true
  pub front : (k : ℕ) → k < at → (slot_at xs k).here ≡ true → (slot_at xs at).task.ts < (slot_at xs k).task.ts
  pub behind : (k : ℕ) → at < k → k < length xs → (slot_at xs k).here ≡ true
      → (slot_at xs at).task.ts ≤ (slot_at xs k).task.ts

stays : (t : PendingTask) (xs : List Slot) → ((k : ℕ) → k < length xs → (slot_at xs k).here ≡ true
    → t.ts ≤ (slot_at xs k).task.ts)
    → earlier (Some t) (first_least (present xs)) ≡ Some t
stays t [] least = refl
stays t (x ∷ xs) least = go x.here refl (stays t xs (λ k inside here. least (suc k) (omega arith) here)) where
  two : (o : Option PendingTask) → t.ts ≤ x.task.ts → earlier (Some t) o ≡ Some t
      → earlier (Some t) (earlier (Some x.task) o) ≡ Some t
  two None le same = let no : nat_lt x.task.ts t.ts ≡ false = grind (arith, nat_tests, common_steps) in rw no refl
  two (Some b) le same = pick (nat_lt b.ts x.task.ts) same where
    pick : (c : Bool) → earlier (Some t) (Some b) ≡ Some t
        → earlier (Some t) (if c then Some b else Some x.task) ≡ Some t
    pick true same = same
    pick false same = let no : nat_lt x.task.ts t.ts ≡ false = grind (arith, nat_tests, common_steps) in rw no refl

  go : (b : Bool) → x.here ≡ b → earlier (Some t) (first_least (present xs)) ≡ Some t
      → earlier (Some t) (first_least (if b then x.task ∷ present xs else present xs)) ≡ Some t
  go true here same = two (first_least (present xs)) (least 0 (omega arith) here) same
  go false here same = same

pub first_at : (xs : List Slot) (at : ℕ) → IsFirstAt xs at → first_least (present xs) ≡ Some (slot_at xs at).task
first_at [] at is = absurd (let within = is.within in omega arith)
first_at (x ∷ xs) zero is =
    rw is.here (stays x.task xs (λ k inside here. is.behind (suc k) (omega arith) (omega arith) here))
first_at (x ∷ xs) (suc at) is = go x.here refl
    (first_at xs at (record {
      within = (let within = is.within in omega arith);
      here = is.here;
      front = λ k before here. is.front (suc k) (omega arith) here;
      behind = λ k after inside here. is.behind (suc k) (omega arith) (omega arith) here;
    })) where
      go : (b : Bool) → x.here ≡ b → first_least (present xs) ≡ Some (slot_at xs at).task
          → first_least (if b then x.task ∷ present xs else present xs) ≡ Some (slot_at xs at).task
      go true here found =
          let greater = is.front 0 (omega arith) here in
          let yes : nat_lt (slot_at xs at).task.ts x.task.ts ≡ true = grind (arith, nat_tests, common_steps) in
          rw (found, yes) refl
      go false here found = found

pub none_first : (xs : List Slot) → ((k : ℕ) → k < length xs → (slot_at xs k).here ≡ true → ⊥)
    → first_least (present xs) ≡ None
none_first [] none = refl
none_first (x ∷ xs) none = go x.here refl (none_first xs (λ k inside here. none (suc k) (omega arith) here)) where
  go : (b : Bool) → x.here ≡ b → first_least (present xs) ≡ None
      → first_least (if b then x.task ∷ present xs else present xs) ≡ None
  go true here rest = absurd (none 0 (omega arith) here)
  go false here rest = rest

-- the rank of a slot whose task is there, and of one that is vacant
pub rank_here : (k : ℕ) (s : Slot) → s.here ≡ true → rank_of k s ≡ s.task.ts * 2 ^ 32 + k
rank_here k s here = rw here refl

pub rank_vacant : (k : ℕ) (s : Slot) → s.here ≡ false → rank_of k s ≡ no_rank
rank_vacant k s gone = rw gone refl

-- the first of the least is that of the slot at this place, if there is one
pub record HasFirst (xs : List Slot) (place : ℕ) : Type 0 where
  pub some : place < length xs → first_least (present xs) ≡ Some (slot_at xs place).task
  pub none : length xs ≤ place → first_least (present xs) ≡ None

-- the lower half of the least rank is the place of the first of the tasks with the least timestamp, if there is one
pub first_of_least : (xs : List Slot) (ranks : List ℕ) (capacity rank : ℕ) → AreRanked xs ranks capacity
    → IsLeastOf ranks rank
    → HasFirst xs (rank % 2 ^ 32)
first_of_least xs ranks capacity rank is least = go least.stands where
  above : (k : ℕ) → k < length xs → (slot_at xs k).here ≡ true → rank ≤ (slot_at xs k).task.ts * 2 ^ 32 + k
  above k inside here =
      let within = is.within in
      let below = least.below k (omega arith) in
      let ranked = is.ranked k (omega arith) ∙ rank_here k (slot_at xs k) here in
      omega arith

  missing : rank ≡ no_rank → HasFirst xs (rank % 2 ^ 32)
  missing high =
      let within = is.within in
      let few = is.few in
      let past : length xs ≤ rank % 2 ^ 32 = omega arith in
      record {
        some = λ inside. absurd (omega arith);
        none = λ _. none_first xs (λ k inside here.
            (let stamp = is.stamps k inside in
            let up = above k inside here in
            let no_way : ⊥ = omega arith in no_way));
      }

  there : (k : ℕ) → k < length ranks → get_or ranks k no_rank ≡ rank → k < length xs → (slot_at xs k).here ≡ true
      → HasFirst xs (rank % 2 ^ 32)
  there k ranged same inside here =
      let few = is.few in
      let ranked : rank ≡ (slot_at xs k).task.ts * 2 ^ 32 + k = sym same ∙ is.ranked k ranged
      ∙ rank_here k (slot_at xs k) here in
      let place : rank % 2 ^ 32 ≡ k = omega arith in
      let found = first_at xs k (record {
        within = inside;
        here = here;
        front = λ j before there. (let up = above j (omega arith) there in omega arith);
        behind = λ j after inner there. (let up = above j inner there in omega arith);
      }) in
      record {
        some = λ _. found ∙ ap (λ j. Some (slot_at xs j).task) (sym place);
        none = λ past. absurd (omega arith);
      }

  at : (k : ℕ) → k < length ranks → get_or ranks k no_rank ≡ rank → (b : Bool) → (slot_at xs k).here ≡ b
      → (k < length xs) ⊎ (length xs ≤ k) → HasFirst xs (rank % 2 ^ 32)
  at k ranged same false gone where_it = missing (sym same ∙ is.ranked k ranged ∙ rank_vacant k (slot_at xs k) gone)
  at k ranged same true here (inl inside) = there k ranged same inside here
  at k ranged same true here (inr past) = lost (sym here ∙ ap (λ s. s.here) (get_or_past xs k vacant past)) where
    lost : true ≡ false → HasFirst xs (rank % 2 ^ 32)
    lost differ = cc

  go : (rank ≡ no_rank) ⊎ ((k : ℕ) × (k < length ranks) × (get_or ranks k no_rank ≡ rank))
      → HasFirst xs (rank % 2 ^ 32)
  go (inl high) = missing high
  go (inr (k, ranged, same)) = at k ranged same (slot_at xs k).here refl (cases_lt k (length xs))
