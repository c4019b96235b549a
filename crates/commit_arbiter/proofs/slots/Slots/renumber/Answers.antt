use Rattle.std.proofs.Common.{◌≡◌, length, drop, map, ap, ◌∙◌}
use Rattle.std.proofs.lemmas.List.{take_at, length-map}
use Rattle.commit_arbiter.specs.Indexed.{renumbered_candidate}
use Rattle.commit_arbiter.specs.Slots.{in_slots}
use Rattle.commit_arbiter.proofs.Renumber.{slots_renumbered}
use Rattle.commit_arbiter.proofs.slots.Slots.renumber.Goals as goal

pub returns-clause-candidates : goal.returns-clause-candidates
returns-clause-candidates c =
    let s = c.self.inside in
    let f = renumbered_candidate c.args.table.now in
    let long : length c.renumber_all.new.candidates ≡ s.table.len = ap length c.renumber_all.ensures ∙ length-map c.deref_mut.result.now f ∙ c.deref_mut.ensures.len in
    ap (λ t. in_slots t s.order.items) (take_at c.renumber_all.new.candidates (drop (length c.renumber_all.new.candidates) s.table.items) s.table.len long ∙ c.renumber_all.ensures ∙ ap (map f) c.deref_mut.ensures.value)
    ∙ slots_renumbered c.args.table.now s.table.items s.order.items
    ∙ ap (λ v. map f v.candidates) c.self.view_is
