-- What stands innermost in the order of tasks is foremost among the free tasks: none is deeper, and none of its depth is earlier.
use Rattle.std.proofs.Common.{◌≡◌, ℕ, ◌+◌, ◌≤◌, length, Option, Some, None, refl, sym, ap, ◌∙◌, inl, inr, arith}
use Rattle.std.proofs.lemmas.List.{length-map}
use Rattle.std.proofs.lemmas.Bool.{le-leb}
use Rattle.fractal_vt.specs.Levels.{closed_level}
use Rattle.order_law.specs.Innermost.{IsInnermost}
use Rattle.order_law.specs.Tasks.{Keyed}
use Rattle.pending_list.specs.declared.task.PendingTask.{PendingTask}
use Rattle.spec_state.specs.task_law.Tasks as bags
use Rattle.spec_state.specs.task_law.Tasks.{IsFree, IsSpilled}
use Rattle.spec_state.specs.declared.task.Creator.{Creator}
use Rattle.spec_state.specs.declared.task.Creator.TheVariants.{Committed, Live}
use Rattle.spec_state.specs.View.{View, task_at}
use Rattle.spec_state.specs.Groups.{live_creator, keyed_task, all_keyed, all_spilled, heir_unless, bag_creator}
use Rattle.spec_state.specs.Groups.{bag_task, bag_tasks, bag_spilled, bags_spilled}
use Rattle.spec_law.specs.Sound.{SoundSizes}
use Rattle.spec_law.proofs.Tasks.Places.{in_mapped, get_contains}
use Rattle.spec_law.proofs.Tasks.Beside.{spilled_in_keys, queued_stands, spilled_stands}
use Rattle.fractal_vt.proofs.Proved.{mapped_some}

-- a creator that is committed for the bags is so for the order
committed_is_none : (c : Creator) (turn index : ℕ) → bag_creator c ≡ bags.Committed turn index → live_creator c ≡ None
committed_is_none (Committed t i) turn index e = refl
committed_is_none (Live task i) turn index e = absurd (cc (e))

module _ (view : View) (sizes : SoundSizes view) (heir : Option ℕ) where
  -- a free task of the view
  abbrev pub Free : ℕ → PendingTask → Type 0
  Free = IsFree (bag_tasks view) (IsSpilled (bags_spilled view)) (length view.history)

  -- a free task of this depth and timestamp, as the order of tasks reads it
  pub record IsKeyed (depth ts : ℕ) : Type 0 where
    pub id : ℕ
    pub x : Keyed
    pub there : all_keyed view heir id ≡ Some x
    pub committed : x.creator ≡ None
    pub deep : length x.domain + 1 ≡ depth
    pub timed : x.last.ts ≡ ts

  -- each free task stands in the order, without a creator
  pub free_is_keyed : (depth : ℕ) (p : PendingTask) → Free depth p → IsKeyed depth p.ts
  free_is_keyed depth p (inl q) =
      let from = mapped_some bag_task (task_at view q.id) q.task q.there in
      record {
        id = q.id;
        x = keyed_task from.0;
        there = queued_stands view heir q.id from.0 from.1;
        committed = committed_is_none from.0.creator q.turn q.index (sym (ap (λ t. t.creator) from.2) ∙ q.creator);
        deep = ap (λ n. n + 1) (length-map from.0.key.domain closed_level) ∙ sym (ap (λ t. t.depth) from.2)
            ∙ q.depth_is;
        timed = sym (ap (λ t. t.ts) from.2) ∙ sym (ap (λ z. z.ts) q.pending_is);
      }
  free_is_keyed depth p (inr s) =
      let from = in_mapped bag_spilled (all_spilled view) (record { depth = depth; task = p }) s.0 in
      let name : p.name.creator ≡ from.1.desc.name.creator = ap (λ e. e.task.name.creator) from.3 in
      let low : from.1.desc.name.creator ≤ length view.history = omega (arith, name, s.1) in
      let stands = spilled_stands view heir from.0 from.1 from.2 in
      let deep = (sizes.spilled from.1 (get_contains (all_spilled view) from.0 from.1 from.2)).1 in
      record {
        id = stands.0;
        x = spilled_in_keys view heir from.1;
        there = stands.1;
        committed = ap (λ b. heir_unless b heir) (le-leb from.1.desc.name.creator (length view.history) low);
        deep = ap (λ n. n + 1) (length-map from.1.domain closed_level) ∙ deep ∙ sym (ap (λ e. e.depth) from.3);
        timed = sym (ap (λ e. e.task.ts) from.3);
      }

  -- no free task is deeper, and none of this depth is earlier
  pub record IsForemost (depth ts : ℕ) : Type 0 where
    pub deepest : (d : ℕ) (p : PendingTask) → Free d p → d ≤ depth
    pub first : (p : PendingTask) → Free depth p → ts ≤ p.ts

  -- a task that stands innermost has the depth and the timestamp of a foremost one
  pub foremost : (x : Keyed) (depth ts : ℕ) → IsInnermost (all_keyed view heir) x → length x.domain + 1 ≡ depth
      → x.last.ts ≡ ts → IsForemost depth ts
  foremost x depth ts inner deep timed = record {
    deepest = λ d p free.
        let f = free_is_keyed d p free in
        let less = inner.deepest f.id f.x f.there f.committed in
        omega (arith, less, f.deep, deep);
    first = λ p free.
        let f = free_is_keyed depth p free in
        let same : length f.x.domain ≡ length x.domain = omega (arith, f.deep, deep) in
        let least = inner.earliest f.id f.x f.there f.committed same in
        omega (arith, least, f.timed, timed);
  }
