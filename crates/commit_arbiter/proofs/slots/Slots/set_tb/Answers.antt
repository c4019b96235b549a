use Rattle.std.proofs.Common.{set, ap, ◌∙◌}
use Rattle.std.proofs.lemmas.List.{get_or_read}
use Rattle.commit_arbiter.specs.Indexed.{with_tiebreaker}
use Rattle.commit_arbiter.specs.Slots.{blank_candidate}
use Rattle.commit_arbiter.proofs.InSlots.{place_within}
use Rattle.commit_arbiter.proofs.Tied.{slot_low, slots_written, slot_candidate_is}
use Rattle.commit_arbiter.proofs.slots.Slots.set_tb.Goals as goal

pub returns-clause-candidates : goal.returns-clause-candidates
returns-clause-candidates c =
    let s = c.self.inside in
    let candidates = c.args.self.now.candidates in
    let slot = c.index.result.now in
    let view = ap (λ v. v.candidates) c.self.view_is in
    let inside = place_within s.table.items s.order.items candidates c.args.place view c.requires in
    let low = slot_low s.table.items s.order.items s.free.items c.args.place slot _ _ c.self.invariant inside c.index.ensures in
    let read = get_or_read s.table.items slot c.index_mut.result.now low c.index_mut.ensures.value blank_candidate in
    slots_written s.table.items s.order.items s.free.items candidates c.args.place slot _ _ (with_tiebreaker c.args.tb c.index_mut.result.now) c.self.invariant view inside low c.index.ensures
    ∙ ap (λ e. set candidates c.args.place (with_tiebreaker c.args.tb e)) (read ∙ slot_candidate_is s.table.items s.order.items candidates c.args.place slot view inside c.index.ensures)
