use Rattle.std.proofs.Common.{List, map}
use Rattle.trace_tap.specs.TapValue.{TapValue}
use Rattle.event_step.specs.event_def.Opening.{opening_book}
use Rattle.conflict_book.specs.Fresh.{AreFresh}
use Rattle.conflict_book.proofs.Placing.{LeadsOn}
use Rattle.conflict_book.proofs.opening.place_all.Given as goal

abbrev pub invariant-loop-index : goal.invariant-loop-index
invariant-loop-index g l = record {
  fresh : AreFresh l.state.view;
  leads : (taps : List TapValue)
      → LeadsOn l.kind l.tasks l.index (opening_book l.fn.state.view (map g.P.Placer.policy l.fn.placers) taps)
      (opening_book l.state.view (map g.P.Placer.policy l.placers) taps);
}
