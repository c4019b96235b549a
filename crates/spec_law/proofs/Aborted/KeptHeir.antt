-- An abort that spares the heir leaves it the heir, and makes none where there was none.
use Rattle.std.proofs.Common.{◌≡◌, ◌≢◌, ◌+◌, ◌<◌, ℕ, Bool, true, false, List, [], length, Option, Some, None, refl, sym}
use Rattle.std.proofs.Common.{ap, subst, ◌∙◌, inl, inr, arith, map, slice_get, slice_index_or, is_some}
use Rattle.std.proofs.lemmas.List.{length-map}
use Rattle.std.specs.Ordering.{ordering_reverse}
use Rattle.std.specs.declared.cmp.Ordering.{Ordering}
use Rattle.std.specs.declared.cmp.Ordering.TheVariants.{Less, Equal, Greater}
use Rattle.fractal_vt.specs.declared.key.Key.{Key}
use Rattle.fractal_vt.specs.Keys.{key_cmp}
use Rattle.fractal_vt.specs.Levels.{closed_level, levels_cmp}
use Rattle.fractal_vt.proofs.Proved.{equal_keys_tie, greater_not, key_cmp_total, less_of, mapped_some}
use Rattle.fractal_vt.proofs.Proved.{first_not_greater}
use Rattle.order_law.specs.Tasks.{Keyed, levels_of, HasNumber}
use Rattle.order_law.specs.Events.{IsLeastInKeys}
use Rattle.order_law.proofs.Proved.{below_reopened, beside_spilled, beside_which, innermost, least_is_below}
use Rattle.spill_store.specs.SpilledTasks.{Spilled, open_key}
use Rattle.spec_state.specs.declared.task.Task.{Task}
use Rattle.spec_state.specs.View.{View, task_at, block_at}
use Rattle.spec_state.specs.Tasks.{idle_again, is_dispatched}
use Rattle.spec_state.specs.Groups.{all_keyed, all_spilled, keyed_tasks, keyed_task, keyed_spilled, live_creator}
use Rattle.spec_state.specs.Least.{Queued, Spilled_at, spot_cmp, IsHeir, IsLeastTask}
use Rattle.spec_state.specs.Aborts.{Aborts, is_marked, is_marked_creator}
use Rattle.spec_law.specs.Sound.{SoundOrder, SoundSizes}
use Rattle.spec_law.specs.AbortLaws.{AbortKeepsHeirOfView}
use Rattle.spec_law.proofs.Tasks.Beside.{id_below, queued_stands}
use Rattle.spec_law.proofs.Aborted.Taken.{unmarked_stays, marked_idles}
use Rattle.spec_law.proofs.Tasks.Rebound.{below_all}
use Rattle.spec_law.proofs.Aborted.KeptTasks.{each_now}
use Rattle.spec_law.proofs.Aborted.KeptSizes.{abort_keeps_sizes}
use Rattle.spec_law.proofs.Aborted.Spared.{least_key, not_below_least}
use Rattle.spec_law.proofs.Tasks.Places.{place_in_one, place_in_all}
use Rattle.spec_law.proofs.Tasks.Filtered.{get_mapped, got_mapped}
use Rattle.spec_law.proofs.Tasks.Leasts.{makes_least}
use Rattle.spec_law.proofs.Tasks.Lowest.{lowest}
use Rattle.spec_law.proofs.Rooms.Later.{there_is}

-- keys of which neither is above the other are one
pub same_key : (a b : Key) → key_cmp a b ≢ Greater → key_cmp b a ≢ Greater → a ≡ b
same_key a b one two = by_order (key_cmp a b) refl
  where
    by_order : (o : Ordering) → key_cmp a b ≡ o → a ≡ b
    by_order Less is = absurd (two (key_cmp_total.antisymm b a ∙ ap ordering_reverse is))
    by_order Equal is = (equal_keys_tie a b).0 is
    by_order Greater is = absurd (one is)

pub not_above : (a b : Key) → (key_cmp b a ≡ Less → ⊥) → key_cmp a b ≢ Greater
not_above a b none is = none (key_cmp_total.antisymm b a ∙ ap ordering_reverse is)

module _ {firsts : ℕ → Type 0} {old : View} {aborted : ℕ} {new : View} (abort : Aborts firsts old aborted new)
    (sizes : SoundSizes old) where
  same_blocks : new.blocks ≡ old.blocks
  same_blocks = ap (λ v. v.blocks) abort.frame

  spilled_was : (tile place : ℕ) (s : Spilled) → slice_get (block_at new tile) place ≡ Some s
      → slice_get (block_at old tile) place ≡ Some s
  spilled_was tile place s at =
      subst (λ blocks. slice_get (slice_index_or blocks tile []) place ≡ Some s) same_blocks at

  spilled_now : (tile place : ℕ) (s : Spilled) → slice_get (block_at old tile) place ≡ Some s
      → slice_get (block_at new tile) place ≡ Some s
  spilled_now tile place s at =
      subst (λ blocks. slice_get (slice_index_or blocks tile []) place ≡ Some s) (sym same_blocks) at

  -- an heir that is spared is the least task, and dispatched
  module _ (id : ℕ) (out : is_marked abort.marks id ≡ false) (order : SoundOrder old (Some id)) (heir : IsHeir old (Some id)) where
    -- it was below each other queued task, since numbers differ
    above_before : (k : ℕ) (t : Task) → k ≢ id → task_at old k ≡ Some t → key_cmp heir.0.key t.key ≡ Less
    above_before k t other there =
        less_of (key_cmp heir.0.key t.key)
        (not_above heir.0.key t.key (not_below_least old sizes id k heir.0 t heir.1 there))
        (λ tie. other (numbers ((equal_keys_tie heir.0.key t.key).0 tie)))
      where
        numbers : heir.0.key ≡ t.key → k ≡ id
        numbers same =
            let number = there_is heir.0.key.tb heir.2 in
            order.order.numbers_differ k id (keyed_task t) (keyed_task heir.0) number.0
            (queued_stands old (Some id) k t there) (queued_stands old (Some id) id heir.0 heir.1.queued_at.there)
            (sym (ap (λ key. key.tb) same) ∙ number.1) number.1

    above_now : (k : ℕ) (t : Task) → task_at new k ≡ Some t → k ≢ id → key_cmp heir.0.key t.key ≡ Less
    above_now = each_now abort (λ k t. k ≢ id → key_cmp heir.0.key t.key ≡ Less)
        (λ k t there unmarked other. above_before k t other there)
        (λ k now back other. below_reopened (levels_of (keyed_task heir.0)) (keyed_task back.was) (above_before k back.was other back.there))

    spilled_above : (tile place : ℕ) (s : Spilled) → slice_get (block_at new tile) place ≡ Some s
        → key_cmp heir.0.key (open_key s) ≢ Greater
    spilled_above tile place s at =
        let least = heir.1.least in
        let whole = least.least (Spilled_at tile place) (open_key s) (s, spilled_was tile place s at, refl) in
        subst (λ key. key_cmp key (open_key s) ≢ Greater) (least_key old id heir.0 heir.1)
        (first_not_greater (key_cmp least.key (open_key s)) (spot_cmp (Queued heir.0.tile heir.1.place) (Spilled_at tile place)) whole)

    pub stays_heir : IsHeir new (Some id)
    stays_heir = (
      heir.0,
      makes_least new (abort_keeps_sizes abort sizes) id heir.0 (unmarked_stays abort id out ∙ heir.1.queued_at.there)
          (λ k t other there. above_now k t there other) spilled_above,
      heir.2,
    )

  -- where there was no heir, a dispatched least task would be one of before
  module _ (order : SoundOrder old None) (heir : IsHeir old None) (id : ℕ) (n : Task) (least : IsLeastTask new id n) (runs : is_dispatched n ≡ true) where
    n_was : task_at old id ≡ Some n
    n_was = each_now abort (λ k t. is_dispatched t ≡ true → task_at old k ≡ Some t)
        (λ k t there out run. there) (λ k now back run. absurd (cc (run))) id n least.queued_at.there runs

    -- a key with an open tiebreaker does not tie with the task's
    not_n : (key : Key) → key.tb ≡ None → key_cmp key n.key ≢ Greater → key_cmp n.key key ≢ Greater → ⊥
    not_n key open' one two =
        let same = same_key key n.key one two in
        let number = there_is n.key.tb runs in
        absurd (cc (sym open', ap (λ k. k.tb) same, number.1))

    -- the lowest of all tasks of before
    module _ (k : ℕ) (task : Keyed) (low : IsLeastInKeys (all_keyed old None) k task) where
      upto_n : levels_cmp (levels_of task) (levels_of (keyed_task n)) ≢ Greater
      upto_n = low.least id (keyed_task n) (queued_stands old None id n n_was)

      -- it was no dispatched task, which would have been the heir
      dispatched_low : (t : Task) → task_at old k ≡ Some t → task ≡ keyed_task t → is_some t.key.tb ≡ true → ⊥
      dispatched_low t there is run = heir k t (makes_least old sizes k t there others spilled) run
        where
          number : (m : ℕ) × HasNumber task m
          number = let m = there_is t.key.tb run in (m.0, ap (λ x. x.last.tb) is ∙ m.1)

          others : (j : ℕ) (x : Task) → j ≢ k → task_at old j ≡ Some x → key_cmp t.key x.key ≡ Less
          others j x other at =
              subst (λ y. levels_cmp (levels_of y) (levels_of (keyed_task x)) ≡ Less) is
              (least_is_below (all_keyed old None) (map closed_level old.path) old.next k number.0 task order.order low number.1 j (keyed_task x) other (queued_stands old None j x at))

          spilled : (tile place : ℕ) (s : Spilled) → slice_get (block_at old tile) place ≡ Some s
              → key_cmp t.key (open_key s) ≢ Greater
          spilled tile place s at =
              let all = place_in_all old.blocks tile place s at in
              let entry = get_mapped (keyed_spilled (length old.history) None) (all_spilled old) all.0 s all.1 in
              let stands = beside_spilled (length old.tasks) (keyed_tasks old) (map (keyed_spilled (length old.history) None) (all_spilled old)) (keyed_spilled (length old.history) None s) (all.0, entry) in
              subst (λ y. levels_cmp (levels_of y) (levels_of (keyed_spilled (length old.history) None s)) ≢ Greater) is
              (low.least stands.0 (keyed_spilled (length old.history) None s) stands.1)

      -- an idle one of a committed creator is there still, at its key
      idle_low : (t : Task) → task_at old k ≡ Some t → task ≡ keyed_task t → t.key.tb ≡ None → ⊥
      idle_low t there is open' = by_mark (is_marked abort.marks k) refl
        where
          free : live_creator t.creator ≡ None
          free =
              sym (ap (λ x. x.creator) is)
              ∙ (innermost (all_keyed old None) (map closed_level old.path) old.next k task order.order low).committed

          upto : key_cmp t.key n.key ≢ Greater
          upto = subst (λ y. levels_cmp (levels_of y) (levels_of (keyed_task n)) ≢ Greater) is upto_n

          at_key : (now : Task) → task_at new k ≡ Some now → now.key ≡ t.key → ⊥
          at_key now at same =
              not_n t.key open' upto
              (subst (λ key. key_cmp n.key key ≢ Greater) same
              (not_above n.key now.key (not_below_least new (abort_keeps_sizes abort sizes) id k n now least at)))

          by_mark : (b : Bool) → is_marked abort.marks k ≡ b → ⊥
          by_mark false out = at_key t (unmarked_stays abort k out ∙ there) refl
          by_mark true taken =
              at_key (idle_again old.version t) (marked_idles abort k t taken there (ap (is_marked_creator abort.marks) free))
              (λ i. record { domain = t.key.domain; ts = t.key.ts; tb = sym open' i })

      -- a spilled one is there still
      spilled_low : (s : Spilled) (place : ℕ) → slice_get (all_spilled old) place ≡ Some s
          → task ≡ keyed_spilled (length old.history) None s → ⊥
      spilled_low s place at is =
          let one = place_in_one old.blocks place s at in
          let whole = least.least.least (Spilled_at one.0 one.1) (open_key s) (s, spilled_now one.0 one.1 s one.2, refl) in
          let above =
          subst (λ key. key_cmp key (open_key s) ≢ Greater) (least_key new id n least)
          (first_not_greater (key_cmp least.least.key (open_key s)) (spot_cmp (Queued n.tile least.place) (Spilled_at one.0 one.1)) whole)
          in
          not_n (open_key s) refl
          (subst (λ y. levels_cmp (levels_of y) (levels_of (keyed_task n)) ≢ Greater) is upto_n) above

      pub no_low : ⊥
      no_low =
          elim (beside_which (length old.tasks) (keyed_tasks old) (map (keyed_spilled (length old.history) None) (all_spilled old)) k task low.there) [
            | inl queued ↦ (let read = mapped_some keyed_task (task_at old k) task queued in by_tie read.0 read.1 read.2 (read.0.key.tb) refl)
            | inr entry ↦ (let read = entry_at (all_spilled old) entry.0 entry.1 in spilled_low read.0 entry.0 read.1 read.2)
          ]
        where
          by_tie : (t : Task) → task_at old k ≡ Some t → task ≡ keyed_task t → (tie : Option ℕ) → t.key.tb ≡ tie → ⊥
          by_tie t there is None tie = idle_low t there is tie
          by_tie t there is (Some m) tie = dispatched_low t there is (ap is_some tie)

          entry_at : (ss : List Spilled) (place : ℕ)
              → slice_get (map (keyed_spilled (length old.history) None) ss) place ≡ Some task
              → (s : Spilled) × (slice_get ss place ≡ Some s) × (task ≡ keyed_spilled (length old.history) None s)
          entry_at ss place at = got_mapped (keyed_spilled (length old.history) None) ss place task at

    -- each task of before stands below the bound
    below_bound : (k : ℕ) (x : Keyed) → all_keyed old None k ≡ Some x → k < length old.tasks + length (all_spilled old)
    below_bound k x at =
        let low = below_all (length old.tasks) (keyed_tasks old) (map (keyed_spilled (length old.history) None) (all_spilled old)) bounded k x at in
        let same = length-map (all_spilled old) (keyed_spilled (length old.history) None) in
        omega (arith, low, same)
      where
        bounded : (j : ℕ) (y : Keyed) → keyed_tasks old j ≡ Some y → j < length old.tasks
        bounded j y there = let read = mapped_some keyed_task (task_at old j) y there in id_below old j read.0 read.1

    pub none_new : ⊥
    none_new = elim (lowest (all_keyed old None) (length old.tasks + length (all_spilled old))) [
      | inl none ↦
          let at = queued_stands old None id n n_was in
          absurd (cc (none id (below_bound id (keyed_task n) at), at))
      | inr low ↦ no_low low.id low.task
          (record { there = low.there; least = λ k y at. greater_not (levels_cmp (levels_of low.task) (levels_of y)) (low.low k y (below_bound k y at) at) })
    ]

pub abort_keeps_heir : AbortKeepsHeirOfView
abort_keeps_heir firsts old aborted new None abort spares order sizes heir =
    λ id n least runs. none_new abort sizes order heir id n least runs
abort_keeps_heir firsts old aborted new (Some id) abort spares order sizes heir =
    stays_heir abort sizes id (spares id refl) order heir
