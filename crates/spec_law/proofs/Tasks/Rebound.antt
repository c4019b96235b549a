-- Another bound for the ids of spilled tasks renames them and keeps the order of all uncommitted tasks; and so an abort that spares the heir
-- keeps it.
use Rattle.std.proofs.Common.{◌≡◌, ◌∷◌, [], ℕ, zero, suc, ◌+◌, ◌-◌, ◌<◌, Bool, true, false, List, length, Option, Some}
use Rattle.std.proofs.Common.{None, refl, sym, ap, subst, ◌∙◌, inl, inr, arith, map, slice_get, nat_lt, nat_le}
use Rattle.std.proofs.Common.{if◌then◌else◌}
use Rattle.std.proofs.lemmas.Option.{slice_get_within}
use Rattle.fractal_vt.specs.Levels.{closed_level}
use Rattle.order_law.specs.Tasks.{Keyed}
use Rattle.order_law.specs.Events as order
use Rattle.order_law.specs.Events.{beside, IsAmongSpilled}
use Rattle.order_law.specs.Ordered.{IsOrdered}
use Rattle.order_law.proofs.Proved.{abort_law, rename_keeps_order, Renames}
use Rattle.order_law.proofs.Proved.{beside_spilled, beside_task, beside_which}
use Rattle.spill_store.specs.SpilledTasks.{Spilled}
use Rattle.spec_state.specs.declared.task.Task.{Task}
use Rattle.spec_state.specs.View.{View, task_at}
use Rattle.spec_state.specs.Groups.{all_keyed, all_spilled, heir_unless, keyed_tasks, keyed_spilled, keyed_task}
use Rattle.spec_state.specs.Aborts.{is_marked}
use Rattle.spec_law.specs.Sound.{SoundOrder}
use Rattle.spec_law.specs.AbortLaws.{AbortKeepsSoundOrder}
use Rattle.spec_law.proofs.Tasks.Beside.{id_below}
use Rattle.spec_law.proofs.Aborted.Taken.{gone_stays, order_aborts}
use Rattle.fractal_vt.proofs.Proved.{mapped_some}

-- what stands under an id: below the bound what the tasks have there, from it on a spilled one, if any
module _ (bound : ℕ) (tasks : ℕ → Option Keyed) (spilled_list : List Keyed) where
  pub low_is : (k : ℕ) → nat_lt k bound ≡ true → beside bound tasks spilled_list k ≡ tasks k
  low_is k low = ap (λ b. if b then tasks k else slice_get spilled_list (k - bound)) low

  pub high_is : (k : ℕ) → nat_lt k bound ≡ false → beside bound tasks spilled_list k
      ≡ slice_get spilled_list (k - bound)
  high_is k high = ap (λ b. if b then tasks k else slice_get spilled_list (k - bound)) high

  -- where tasks stand below the bound, nothing stands behind the spilled ones
  pub below_all : ((k : ℕ) (x : Keyed) → tasks k ≡ Some x → k < bound) → (k : ℕ) (x : Keyed)
      → beside bound tasks spilled_list k ≡ Some x → k < bound + length spilled_list
  below_all bounded k x at = by_test (nat_lt k bound) refl
    where
      by_test : (b : Bool) → nat_lt k bound ≡ b → k < bound + length spilled_list
      by_test true low = let here = bounded k x (sym (low_is k low) ∙ at) in omega arith
      by_test false high =
          let place = slice_get_within spilled_list (k - bound) x (sym (high_is k high) ∙ at) in omega arith

-- spilled tasks stand under other ids where the bound is another one
pub rebound : (bound other : ℕ) (tasks : ℕ → Option Keyed) (spilled_list : List Keyed)
    → ((k : ℕ) (x : Keyed) → tasks k ≡ Some x → (k < bound) × (k < other))
    → ((x : Keyed) → IsAmongSpilled x spilled_list → x.last.tb ≡ None)
    → Renames (beside bound tasks spilled_list) (beside other tasks spilled_list)
rebound bound other tasks spilled_list bounded idle =
    record {
      from = λ k x at. elim (beside_which other tasks spilled_list k x at) [
        | inl task ↦ (k, beside_task bound tasks spilled_list k x (bounded k x task).0 task)
        | inr entry ↦ beside_spilled bound tasks spilled_list x entry
      ];
      stays = λ k n x at number. elim (beside_which bound tasks spilled_list k x at) [
        | inl task ↦ beside_task other tasks spilled_list k x (bounded k x task).1 task
        | inr entry ↦ absurd (cc (idle x entry, number))
      ];
      was = λ k n x at number. elim (beside_which other tasks spilled_list k x at) [
        | inl task ↦ beside_task bound tasks spilled_list k x (bounded k x task).0 task
        | inr entry ↦ absurd (cc (idle x entry, number))
      ];
    }

-- what is read of a spilled task is idle, and has no creator that is uncommitted but the heir
module _ (count : ℕ) (heir : Option ℕ) where
  pub spilled_of : (spilled_list : List Spilled) (x : Keyed) (place : ℕ)
      → slice_get (map (keyed_spilled count heir) spilled_list) place ≡ Some x
      → (s : Spilled) × (x ≡ keyed_spilled count heir s)
  spilled_of [] x place at = absurd (cc)
  spilled_of (s ∷ spilled_list) x zero at = let same : keyed_spilled count heir s ≡ x = cc in (s, sym same)
  spilled_of (s ∷ spilled_list) x (suc place) at = spilled_of spilled_list x place at

  pub spilled_idle : (spilled_list : List Spilled) (x : Keyed)
      → IsAmongSpilled x (map (keyed_spilled count heir) spilled_list) → x.last.tb ≡ None
  spilled_idle spilled_list x is = let read = spilled_of spilled_list x is.0 is.1 in ap (λ t. t.last.tb) read.1

  heir_is : (b : Bool) (c : ℕ) → heir_unless b heir ≡ Some c → heir ≡ Some c
  heir_is true c is = absurd (cc)
  heir_is false c is = is

  pub spilled_creator : (spilled_list : List Spilled) (x : Keyed) (c : ℕ)
      → IsAmongSpilled x (map (keyed_spilled count heir) spilled_list) → x.creator ≡ Some c → heir ≡ Some c
  spilled_creator spilled_list x c is made =
      let read = spilled_of spilled_list x is.0 is.1 in
      heir_is (nat_le read.0.desc.name.creator count) c (sym (ap (λ t. t.creator) read.1) ∙ made)

-- a set of ids below the bound
abbrev low_only : ℕ → (ℕ → Bool) → ℕ → Bool
low_only bound set k = if nat_lt k bound then set k else false

low_of : (bound : ℕ) (set : ℕ → Bool) (k : ℕ) → low_only bound set k ≡ true → (nat_lt k bound ≡ true) × (set k ≡ true)
low_of bound set k is = by_test (nat_lt k bound) refl
  where
    by_test : (b : Bool) → nat_lt k bound ≡ b → (nat_lt k bound ≡ true) × (set k ≡ true)
    by_test true low = (low, sym (ap (λ b. if b then set k else false) low) ∙ is)
    by_test false high = absurd (cc (sym (ap (λ b. if b then set k else false) high) ∙ is))

low_is_set : (bound : ℕ) (set : ℕ → Bool) (k : ℕ) → nat_lt k bound ≡ true → low_only bound set k ≡ set k
low_is_set bound set k low = ap (λ b. if b then set k else false) low

-- an abort of queued tasks is one of all, where no spilled task's creator is in the set
beside_aborts : (bound : ℕ) (set : ℕ → Bool) (old new : ℕ → Option Keyed) (spilled_list : List Keyed)
    → order.AbortsInKeys set old new
    → ((x : Keyed) (c : ℕ) → IsAmongSpilled x spilled_list → x.creator ≡ Some c → set c ≡ false)
    → order.AbortsInKeys (low_only bound set) (beside bound old spilled_list) (beside bound new spilled_list)
beside_aborts bound set old new spilled_list aborts spared =
    record { holds_children = holds; others = others; members = members }
  where
    holds : (k c : ℕ) (x : Keyed) → beside bound old spilled_list k ≡ Some x → x.creator ≡ Some c
        → low_only bound set c ≡ true → low_only bound set k ≡ true
    holds k c x at made taken = by_test (nat_lt k bound) refl
      where
        by_test : (b : Bool) → nat_lt k bound ≡ b → low_only bound set k ≡ true
        by_test true low =
            low_is_set bound set k low
            ∙ aborts.holds_children k c x (sym (low_is bound old spilled_list k low) ∙ at) made (low_of bound set c taken).1
        by_test false high =
            absurd (cc (spared x c (k - bound, sym (high_is bound old spilled_list k high) ∙ at) made, (low_of bound set c taken).1))

    others : (k : ℕ) → low_only bound set k ≡ false → beside bound new spilled_list k ≡ beside bound old spilled_list k
    others k out = by_test (nat_lt k bound) refl
      where
        by_test : (b : Bool) → nat_lt k bound ≡ b → beside bound new spilled_list k ≡ beside bound old spilled_list k
        by_test true low =
            low_is bound new spilled_list k low ∙ aborts.others k (sym (low_is_set bound set k low) ∙ out)
            ∙ sym (low_is bound old spilled_list k low)
        by_test false high = high_is bound new spilled_list k high ∙ sym (high_is bound old spilled_list k high)

    members : (k : ℕ) (x : Keyed) → low_only bound set k ≡ true → beside bound new spilled_list k ≡ Some x
        → (y : Keyed) × (beside bound old spilled_list k ≡ Some y) × (x ≡ order.with_open_level y) × ((c : ℕ) → y.creator ≡ Some c → low_only bound set c ≡ false)
    members k x taken at =
        let is = low_of bound set k taken in
        let back = aborts.members k x is.1 (sym (low_is bound new spilled_list k is.0) ∙ at) in
        (back.0, low_is bound old spilled_list k is.0 ∙ back.1, back.2, λ c made. out c (nat_lt c bound) refl (back.3 c made))
      where
        out : (c : ℕ) (b : Bool) → nat_lt c bound ≡ b → set c ≡ false → low_only bound set c ≡ false
        out c true low is = low_is_set bound set c low ∙ is
        out c false high is = ap (λ b. if b then set c else false) high

-- the view as it was, but for what an abort changes
abbrev pub changed_to : View → View → View
changed_to old new =
    record old { tasks = new.tasks; memory = new.memory; queues = new.queues; finished = new.finished; cores = new.cores }

pub abort_keeps_order : AbortKeepsSoundOrder
abort_keeps_order firsts old aborted new heir abort spares sound =
    subst (λ v. SoundOrder v heir) (sym abort.frame) (record { order = kept; numbers = sound.numbers })
  where
    spilled_list : List Keyed
    spilled_list = map (keyed_spilled (length old.history) heir) (all_spilled old)

    bounded : (k : ℕ) (x : Keyed) → keyed_tasks new k ≡ Some x → (k < length old.tasks) × (k < length new.tasks)
    bounded k x at =
        let read = mapped_some keyed_task (task_at new k) x at in
        (by_was (task_at old k) refl read.0 read.1, id_below new k read.0 read.1)
      where
        by_was : (was : Option Task) → task_at old k ≡ was → (t : Task) → task_at new k ≡ Some t → k < length old.tasks
        by_was None none t there = absurd (cc (gone_stays abort k none, there))
        by_was (Some w) is t there = id_below old k w is

    kept : IsOrdered (all_keyed (changed_to old new) heir) (map closed_level old.path) old.next
    kept =
        rename_keeps_order (beside (length old.tasks) (keyed_tasks new) spilled_list) (all_keyed (changed_to old new) heir) (map closed_level old.path) old.next
        (rebound (length old.tasks) (length new.tasks) (keyed_tasks new) spilled_list bounded (spilled_idle (length old.history) heir (all_spilled old)))
        (abort_law (low_only (length old.tasks) (is_marked abort.marks)) (all_keyed old heir) (beside (length old.tasks) (keyed_tasks new) spilled_list) (map closed_level old.path) old.next
        (beside_aborts (length old.tasks) (is_marked abort.marks) (keyed_tasks old) (keyed_tasks new) spilled_list (order_aborts abort)
        (λ x c is made. spares c (spilled_creator (length old.history) heir (all_spilled old) x c is made)))
        sound.order)
