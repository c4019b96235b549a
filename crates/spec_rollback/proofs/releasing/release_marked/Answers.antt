use Rattle.std.proofs.Common.{arith, refl, sym, ap, subst, ◌∙◌, slice_get, length}
use Rattle.spec_state.specs.StateValue.{Scratch}
use Rattle.spec_rollback.specs.TakenBack.{TakesOne}
use Rattle.spec_rollback.proofs.TakenBack.{none_taken}
use Rattle.spec_rollback.proofs.Members.{member_there, member_taken, members_taken}
use Rattle.spec_rollback.proofs.releasing.release_marked.Goals as goal

pub loop-place-init : goal.loop-place-init
loop-place-init g c = record {
  takes = none_taken g.N.Naming.image.data_size c.args.state.now.view c.is_stored.ensures
      c.args.state.now.scratch.marks;
  scratch = refl;
  effect = refl;
  spare = refl;
}

pub member-id-requires : goal.member-id-requires
member-id-requires g c =
    let same = ap (λ (s : Scratch). length s.members) c.loop-place.invariant.scratch in
    let within = c.requires.listed.within in
    omega (arith, same, within)

pub release-requires : goal.release-requires
release-requires g c =
    record {
      live = member_there c.args.state.now.scratch c.args.found c.requires.listed c.loop-place.place
          c.member-id.result (omega arith)
          (ap (λ (s : Scratch). slice_get s.members c.loop-place.place) (sym c.loop-place.invariant.scratch)
          ∙ c.member-id.ensures) c.requires.once c.args.state.now.view c.loop-place.state.view
          c.loop-place.invariant.takes c.requires.live;
    }

pub loop-place-preserved : goal.loop-place-preserved
loop-place-preserved g c =
    record {
      takes = member_taken c.args.state.now.scratch c.args.found c.requires.listed c.loop-place.place
          c.member-id.result (omega arith)
          (ap (λ (s : Scratch). slice_get s.members c.loop-place.place) (sym c.loop-place.invariant.scratch)
          ∙ c.member-id.ensures) c.requires.once c.args.state.now.view c.loop-place.state.view
          c.loop-place.invariant.takes c.release.new.state.view
          (subst (λ (s : Scratch). TakesOne s.marks c.member-id.result c.loop-place.state.view
          c.release.new.state.view) c.loop-place.invariant.scratch c.release.ensures.takes);
      scratch = c.release.ensures.scratch ∙ c.loop-place.invariant.scratch;
      effect = c.release.ensures.effect ∙ c.loop-place.invariant.effect;
      spare = c.release.ensures.spare ∙ c.loop-place.invariant.spare;
    }

pub returns-clause-takes : goal.returns-clause-takes
returns-clause-takes g c =
    members_taken c.args.state.now.scratch c.args.found c.requires.listed c.loop-place.place (omega arith)
    c.args.state.now.view c.loop-place.state.view c.loop-place.invariant.takes
