use Rattle.std.proofs.Common.{◌≡◌, length, drop, map, ap, ◌∙◌}
use Rattle.std.proofs.lemmas.List.{take_at, length-map}
use Rattle.spill_store.specs.SpilledTasks.{renumbered_spilled}
use Rattle.spill_store.specs.Shelved.{at_places}
use Rattle.spill_store.proofs.Shelves.{places_renumbered}
use Rattle.spill_store.proofs.shelf.Shelf.renumber.Goals as goal

pub returns-clause-tasks : goal.returns-clause-tasks
returns-clause-tasks c =
    let s = c.self.inside in
    let f = renumbered_spilled c.args.table.now in
    let long : length c.renumber_all.new.kept ≡ s.kept.len = ap length c.renumber_all.ensures ∙ length-map c.deref_mut.result.now f ∙ c.deref_mut.ensures.len in
    ap (λ t. at_places t s.order.items) (take_at c.renumber_all.new.kept (drop (length c.renumber_all.new.kept) s.kept.items) s.kept.len long ∙ c.renumber_all.ensures ∙ ap (map f) c.deref_mut.ensures.value)
    ∙ places_renumbered c.args.table.now s.kept.items s.order.items
    ∙ ap (λ v. map f v.tasks) c.self.view_is
