use Rattle.std.proofs.Common.{◌≡◌, ◌∙◌, ap, map, subst, sym, length, List, ℕ, rules}
use Rattle.spec_state.specs.StateValue.{Spare}
use Rattle.spec_state.specs.Effects.{EffectValue}
use Rattle.spec_state.specs.Room.{AreChosen, Coalesces}
use Rattle.spec_state.specs.View.{View}
use Rattle.spec_state.specs.Told.{told_spilled}
use Rattle.spec_commit.proofs.Moving.{chosen_there, coalesced_telling, some_chosen}
use Rattle.spec_commit.proofs.coalescing.coalesce.Goals as goal

pub tell_spilled-requires : goal.tell_spilled-requires
tell_spilled-requires g c =
    let both = chosen_there c.args.tile c.reserve_pushes.new.state.view c.chosen_tasks-ids.result.items
    c.as_slice.result.now c.chosen_tasks-ids.ensures c.as_slice.ensures.value in
    record { few = both.0; live = both.1 }

pub spill_all-requires-clause-some : goal.spill_all-requires-clause-some
spill_all-requires-clause-some g c =
    some_chosen c.args.tile c.args.state.now.view c.reserve_pushes.new.state.view c.chosen_tasks-ids.result.items c.as_slice-2.result.now c.reserve_pushes.ensures.view c.requires.some
    c.chosen_tasks-ids.ensures c.as_slice-2.ensures.value

pub returns-clause-ok : goal.returns-clause-ok
returns-clause-ok g c =
    let old = c.args.state.now in
    let same = c.tell_spilled.ensures.view ∙ c.reserve_pushes.ensures.view in
    let slice = c.as_slice.result.now in
    coalesced_telling c.args.tile old.view c.spill_all.new.state.view c.chosen_tasks-ids.result.items c.len.result
    old.effect c.spill_all.new.state.effect
    (subst (λ (xs : List ℕ). (x : Coalesces c.args.tile old.view c.spill_all.new.state.view) × (x.ids ≡ xs))
    c.as_slice-2.ensures.value
    (subst (λ (v : View). (x : Coalesces c.args.tile v c.spill_all.new.state.view)
    × (x.ids ≡ c.as_slice-2.result.now)) same c.spill_all.ensures.coalesces))
    (search rules)
    (c.spill_all.ensures.effect ∙ c.tell_spilled.ensures.told
    ∙ ap (λ (e : EffectValue). record e { spilled = map (told_spilled c.reserve_pushes.new.state.view) slice })
    c.reserve_pushes.ensures.effect
    ∙ ap (λ (v : View). record old.effect { spilled = map (told_spilled v) slice }) c.reserve_pushes.ensures.view
    ∙ ap (λ (xs : List ℕ). record old.effect { spilled = map (told_spilled old.view) xs }) c.as_slice.ensures.value)
