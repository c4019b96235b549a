use Rattle.std.proofs.Common.{ℕ, ◌<◌, slice_index_or}
use Rattle.machine_run.specs.event_def.declared.event.Event.{Event}
use Rattle.machine_run.specs.conflict_book.Ranges.{IsInRange}
use Rattle.machine_tests.proofs.books.may_take_all.Given as goal

abbrev pub invariant-loop-event : goal.invariant-loop-event
invariant-loop-event g l = (k : ℕ) (d : Event g.row.N.Denot) → k < l.event-index
    → IsInRange l.fn.settings (slice_index_or l.fn.events k d)
