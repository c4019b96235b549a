use Rattle.std.proofs.Common.{refl, ◌∙◌, ◌++◌, ◌∷◌, [], ap, subst, sym, take, length, arith}
use Rattle.std.proofs.lemmas.List.{length_push}
use Rattle.pending_list.specs.Pending.{AllBefore}
use Rattle.pending_list.specs.Slots.{present, slot_at}
use Rattle.pending_list.proofs.Presents.{taken_here, taken_gone, taken_fewer, taken_before}
use Rattle.pending_list.proofs.list.copy.Goals as goal
use Rattle.pending_list.proofs.list.copy.Goals.{then-slot, else-slot}

pub push-requires-clause-spare : goal.push-requires-clause-spare
push-requires-clause-spare c =
    let slots = c.args.slots.now in
    let i = c.loop-slot.slot-index in
    let fewer = taken_fewer slots i (slot_at slots i) (omega arith) refl c.if-slot.true in
    omega arith

pub push-requires-clause-later : goal.push-requires-clause-later
push-requires-clause-later c =
    let slots = c.args.slots.now in
    let i = c.loop-slot.slot-index in
    subst (AllBefore (slot_at slots i).task.name) (sym c.loop-slot.invariant.tasks)
    (taken_before slots i (slot_at slots i) c.requires.rises (omega arith) refl)

pub loop-slot-preserved : goal.loop-slot-preserved
loop-slot-preserved c =
    let slots = c.args.slots.now in
    let i = c.loop-slot.slot-index in
    elim c.if-slot.branch [
      | then-slot w ↦
          (let more = taken_here slots i (slot_at slots i) (omega arith) refl w.if-slot.true in
          let long = ap length more ∙ length_push (present (take i slots)) (slot_at slots i).task in
          let spare = ap (λ v. v.spare) w.list-is in
          record {
            tasks =
                ap (λ v. v.tasks) w.list-is ∙ w.push.ensures.tasks
                ∙ ap (λ ts. ts ++ (slot_at slots i).task ∷ []) c.loop-slot.invariant.tasks ∙ sym more;
            spare = omega (arith, w.push.ensures.spare, c.loop-slot.invariant.spare);
          })
      | else-slot w ↦
          (let same = taken_gone slots i (slot_at slots i) (omega arith) refl w.if-slot.false in
          let long = ap length same in
          let spare = ap (λ v. v.spare) w.list-is in
          record {
            tasks = ap (λ v. v.tasks) w.list-is ∙ c.loop-slot.invariant.tasks ∙ sym same;
            spare = omega (arith, c.loop-slot.invariant.spare);
          })
    ]
