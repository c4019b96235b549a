use Rattle.std.proofs.Common.{sym, ◌∙◌, arith}
use Rattle.std.proofs.lemmas.List.{length-map}
use Rattle.spill_store.specs.SpilledTasks.{BlockValue}
use Rattle.spill_store.specs.Fronts.{lists_in}
use Rattle.spill_store.proofs.Tiles.{takes_over, stays_first}
use Rattle.spill_store.proofs.blocks.front_of_two.Goals as goal

pub returns-then-comes_first : goal.returns-then-comes_first
returns-then-comes_first c =
    let lists = lists_in c.args.blocks.now in
    let long = length-map c.args.blocks.now (λ (b : BlockValue). b.tasks) in
    takes_over lists c.args.front c.args.tile (omega (arith, long, c.requires.tile)) c.requires.front (sym c.comes_first.ensures ∙ c.if-comes_first.true)

pub returns-else-comes_first : goal.returns-else-comes_first
returns-else-comes_first c =
    stays_first (lists_in c.args.blocks.now) c.args.front c.args.tile c.requires.front (sym c.comes_first.ensures ∙ c.if-comes_first.false)
