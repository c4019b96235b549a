use Rattle.std.proofs.Common.{arith, refl, ◌∙◌}
use Rattle.spec_commit.proofs.Moving.{none_moved, next_idle, one_more_moved, all_moved}
use Rattle.spec_commit.proofs.Spare.{kept_more}
use Rattle.spec_commit.proofs.coalescing.spill_all.Goals as goal

pub loop-id-init : goal.loop-id-init
loop-id-init g c = record {
  moved = none_moved g.N.Naming.image.data_size c.args.tile c.args.ids.now c.args.state.now.view c.is_stored.ensures;
  spare = (let spare = c.requires.spare in omega (arith, spare));
  others = record { other_blocks = λ t other. refl; frame = refl };
  effect = refl;
}

pub spill-requires-clause-idle : goal.spill-requires-clause-idle
spill-requires-clause-idle g c =
    next_idle g.N.Naming.image.data_size c.args.tile c.args.ids.now c.args.state.now.view c.is_stored.ensures c.requires.chosen c.loop-id.id-index c.loop-id-test.true
    c.loop-id.state.view c.loop-id.invariant.moved

pub loop-id-preserved : goal.loop-id-preserved
loop-id-preserved g c = record {
  moved =
      one_more_moved g.N.Naming.image.data_size c.args.tile c.args.ids.now c.args.state.now.view c.is_stored.ensures c.requires.chosen c.loop-id.id-index c.loop-id-test.true
      c.loop-id.state.view c.loop-id.invariant.moved c.spill.new.state.view c.spill.ensures.spills;
  spare = (let less = c.spill.ensures.spare in let was = c.loop-id.invariant.spare in omega (arith, less, was));
  others =
      kept_more c.args.tile c.args.state.now.spare c.loop-id.state.spare c.spill.new.state.spare c.loop-id.invariant.others c.spill.ensures.others;
  effect = c.spill.ensures.effect ∙ c.loop-id.invariant.effect;
}

pub returns-clause-coalesces : goal.returns-clause-coalesces
returns-clause-coalesces g c =
    all_moved c.args.tile c.args.ids.now c.args.state.now.view c.loop-id.state.view c.loop-id.id-index c.requires.chosen c.requires.some c.loop-id-test.false c.loop-id.invariant.moved
