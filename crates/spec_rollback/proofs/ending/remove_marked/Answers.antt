use Rattle.std.proofs.Common.{arith, refl, sym, ap, ◌∙◌, slice_get}
use Rattle.spec_state.specs.StateValue.{Scratch}
use Rattle.spec_rollback.proofs.Removed.{none_removed, member_stays, member_removed, members_removed}
use Rattle.spec_rollback.proofs.ending.remove_marked.Goals as goal

pub loop-place-init : goal.loop-place-init
loop-place-init g c = record { removes = none_removed c.args.state.now.view; scratch = refl }

pub take_out-requires : goal.take_out-requires
take_out-requires g c =
    record {
      live = member_stays c.args.state.now.scratch c.args.found c.requires.listed c.loop-place.place c.member.result
          (omega arith)
          (ap (λ (s : Scratch). slice_get s.members c.loop-place.place) (sym c.loop-place.invariant.scratch)
          ∙ c.member.ensures) c.requires.once c.args.state.now.view c.loop-place.state.view
          c.loop-place.invariant.removes c.requires.live;
    }

pub loop-place-preserved : goal.loop-place-preserved
loop-place-preserved g c =
    record {
      removes = member_removed c.args.state.now.scratch c.args.found c.requires.listed c.loop-place.place
          c.member.result (omega arith)
          (ap (λ (s : Scratch). slice_get s.members c.loop-place.place) (sym c.loop-place.invariant.scratch)
          ∙ c.member.ensures) c.requires.once c.args.state.now.view c.loop-place.state.view
          c.loop-place.invariant.removes c.take_out.new.self.view c.take_out.ensures.leaves;
      scratch = c.take_out.ensures.scratch ∙ c.loop-place.invariant.scratch;
    }

pub returns : goal.returns
returns g c =
    record {
      removes = members_removed c.args.state.now.scratch c.args.found c.requires.listed c.loop-place.place
          (omega arith) c.args.state.now.view c.loop-place.state.view c.loop-place.invariant.removes;
    }
