-- A run ends in one way at most.
use Rattle.std.proofs.Common.{ℕ, ◌≡◌, Some, refl, sym, ap, ◌∙◌}
use Rattle.std.specs.Prelude.{slice_get}
use Rattle.run_journal.specs.declared.end.End.{End}
use Rattle.run_journal.specs.declared.end.End.TheVariants as ends
use Rattle.task_desc.specs.declared.desc.Name.{Name}
use Rattle.event_def.specs.spec_state.declared.task.Creator.TheVariants.{Committed}
use Rattle.event_def.specs.spec_state.declared.task.Status.TheVariants.{Trapped}
use Rattle.event_def.specs.spec_state.declared.task.Task.{Task}
use Rattle.event_def.specs.spec_state.View.{View, task_at, queue_at}
use Rattle.event_def.specs.spec_state.Least.{Spot, Queued, IsAllCommitted, IsLeastTask, IsLeastSpot}
use Rattle.event_def.specs.End.{HasEnd, LeastIsTrapped}
use Rattle.event_law.specs.Laws.{EndIsOne}
use Rattle.spec_law.proofs.Proved.{least_is_one}

-- queued spots that are one have one tile and one place
same_queued : (t p u q : ℕ) → Queued t p ≡ Queued u q → (t ≡ u) × (p ≡ q)
same_queued t p u q e =
    let tiles : t ≡ u = cc in
    let places : p ≡ q = cc in
    (tiles, places)

module _ (view : View) (one_spot : (a b : Spot) → IsLeastSpot view a → IsLeastSpot view b → a ≡ b) where
  -- two least queued tasks are one
  pub one_least : (a b : ℕ) (x y : Task) → IsLeastTask view a x → IsLeastTask view b y → x ≡ y
  one_least a b x y one two =
      let spots = same_queued x.tile one.place y.tile two.place (one_spot (Queued x.tile one.place) (Queued y.tile two.place) one.least two.least) in
      let ids : Some a ≡ Some b =
      sym one.queued_at.queued ∙ ((λ i. slice_get (queue_at view (spots.0 i)) (spots.1 i)) ∙ two.queued_at.queued) in
      let same : a ≡ b = cc in
      let there : Some x ≡ Some y = sym one.queued_at.there ∙ (ap (task_at view) same ∙ two.queued_at.there) in
      cc

  -- a least task is uncommitted
  pub not_all : (id : ℕ) (task : Task) → IsLeastTask view id task → IsAllCommitted view → ⊥
  not_all id task least all = all (Queued task.tile least.place) least.least.key least.least.has

  -- the trap of the least task is one
  one_trap : (name other : Name) (cause pc other_cause other_pc : ℕ) → LeastIsTrapped view name cause pc
      → LeastIsTrapped view other other_cause other_pc
      → ends.Trap name cause pc ≡ ends.Trap other other_cause other_pc
  one_trap name other cause pc other_cause other_pc one two =
      let same = one_least one.id two.id one.task two.task one.least two.least in
      let trapped : Trapped one.core cause ≡ Trapped two.core other_cause = sym one.trapped ∙ (ap (λ t. t.status) same ∙ two.trapped) in
      let causes : cause ≡ other_cause = cc in
      let named : Committed name.creator name.index ≡ Committed other.creator other.index =
      sym one.named ∙ (ap (λ t. t.creator) same ∙ two.named) in
      let creators : name.creator ≡ other.creator = cc in
      let indices : name.index ≡ other.index = cc in
      let at : pc ≡ other_pc = cc (one.pc_is, two.pc_is, same) in
      λ i. ends.Trap (record { creator = creators i; index = indices i }) (causes i) (at i)

  -- so is any end
  one_end : (end other : End) → HasEnd view end → HasEnd view other → end ≡ other
  one_end ends.Normal ends.Normal has too = refl
  one_end ends.Normal ends.Limit has too = absurd (too.0 has)
  one_end ends.Normal (ends.Trap name cause pc) has too = absurd (not_all too.1.id too.1.task too.1.least has)
  one_end ends.Limit ends.Normal has too = absurd (has.0 too)
  one_end ends.Limit ends.Limit has too = refl
  one_end ends.Limit (ends.Trap name cause pc) has too = absurd (too.0 has.1)
  one_end (ends.Trap name cause pc) ends.Normal has too = absurd (not_all has.1.id has.1.task has.1.least too)
  one_end (ends.Trap name cause pc) ends.Limit has too = absurd (has.0 too.1)
  one_end (ends.Trap name cause pc) (ends.Trap other other_cause other_pc) has too =
      one_trap name other cause pc other_cause other_pc has.1 too.1
  one_end ends.Unfinished other has too = absurd has
  one_end ends.Normal ends.Unfinished has too = absurd too
  one_end ends.Limit ends.Unfinished has too = absurd too
  one_end (ends.Trap name cause pc) ends.Unfinished has too = absurd too

pub end_is_one : EndIsOne
end_is_one view end other has too = one_end view (least_is_one view) end other has too
