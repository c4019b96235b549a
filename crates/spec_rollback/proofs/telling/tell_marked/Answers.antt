use Rattle.std.proofs.Common.{◌≡◌, arith, refl, sym, ap, subst, ◌∙◌, ◌++◌, ◌∷◌, [], ℕ, Bool, List, Some, length, map}
use Rattle.std.proofs.Common.{take, slice_get}
use Rattle.std.specs.Prelude.{IsSome}
use Rattle.spec_state.specs.declared.effect.TakenTask.{TakenTask}
use Rattle.spec_state.specs.Effects.{EffectValue, nothing}
use Rattle.spec_state.specs.StateValue.{Scratch}
use Rattle.spec_state.specs.View.{View, task_at}
use Rattle.spec_state.specs.Told.{told_at}
use Rattle.spec_rollback.proofs.Members.{member_marked}
use Rattle.spec_rollback.proofs.Told.{told_more, told_length}
use Rattle.spec_rollback.proofs.telling.tell_marked.Goals as goal

pub loop-place-init : goal.loop-place-init
loop-place-init g c = record {
  told = c.forget.ensures.effect;
  view = c.forget.ensures.view;
  scratch = c.forget.ensures.scratch;
  spare = c.forget.ensures.spare;
}

pub member-id-requires : goal.member-id-requires
member-id-requires g c =
    let same = ap (λ (s : Scratch). length s.members) c.loop-place.invariant.scratch in
    let within = c.requires.listed.within in
    omega (arith, same, within)

pub told_at-task-requires : goal.told_at-task-requires
told_at-task-requires g c =
    let at = ap (λ (s : Scratch). slice_get s.members c.loop-place.place) (sym c.loop-place.invariant.scratch)
    ∙ c.member-id.ensures in
    subst (λ (v : View). IsSome (task_at v c.member-id.result)) (sym c.loop-place.invariant.view)
    (c.requires.live c.member-id.result
    (member_marked c.args.state.now.scratch c.args.found c.requires.listed c.loop-place.place c.member-id.result
    (omega arith) at))

pub tell-requires : goal.tell-requires
tell-requires g c =
    let within = c.requires.listed.within in
    let long = told_length (told_at c.args.state.now.view c.args.state.now.scratch.marks)
    c.args.state.now.scratch.members c.loop-place.place c.loop-place.state.effect.back (omega (arith, within))
    (ap (λ (e : EffectValue). e.back) c.loop-place.invariant.told) in
    omega (arith, long, c.requires.few)

pub loop-place-preserved : goal.loop-place-preserved
loop-place-preserved g c =
    let old = c.args.state.now in
    let f = told_at old.view old.scratch.marks in
    let at = ap (λ (s : Scratch). slice_get s.members c.loop-place.place) (sym c.loop-place.invariant.scratch)
    ∙ c.member-id.ensures in
    let task : c.told_at-task.result ≡ f c.member-id.result =
    c.told_at-task.ensures
    ∙ ap (λ (v : View). told_at v c.loop-place.state.scratch.marks c.member-id.result) c.loop-place.invariant.view
    ∙ ap (λ (s : Scratch). told_at old.view s.marks c.member-id.result) c.loop-place.invariant.scratch in
    record {
      told = c.tell.ensures.effect
          ∙ ap (λ (e : EffectValue). record e { back = e.back ++ c.told_at-task.result ∷ [] }) c.loop-place.invariant.told
          ∙ ap (λ (t : TakenTask). record nothing {
            back = map f (take c.loop-place.place old.scratch.members) ++ t ∷ [];
          }) task
          ∙ ap (λ (b : List TakenTask). record nothing { back = b })
          (told_more f old.scratch.members c.loop-place.place c.member-id.result
          (map f (take c.loop-place.place old.scratch.members)) at refl);
      view = c.tell.ensures.view ∙ c.loop-place.invariant.view;
      scratch = c.tell.ensures.scratch ∙ c.loop-place.invariant.scratch;
      spare = c.tell.ensures.spare ∙ c.loop-place.invariant.spare;
    }
