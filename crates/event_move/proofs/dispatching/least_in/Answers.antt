use Rattle.std.proofs.Common.{◌∙◌, inl, inr, subst, sym}
use Rattle.event_prelude.specs.spec_state.Least.{IsLeast}
use Rattle.event_move.proofs.Idled.{ReadsTile, idle_elsewhere, idle_here, none_is_idle}
use Rattle.event_move.proofs.dispatching.least_in.Goals as goal

pub returns-then-tile_of-tile-clause-some : goal.returns-then-tile_of-tile-clause-some
returns-then-tile_of-tile-clause-some g c =
    let view = c.args.state.now.view in
    idle_here g.N.Naming.image view c.requires.sound c.in-Idle.id (subst (IsLeast view) c.in-Idle.is c.requires.least)
    c.args.tile (subst (ReadsTile view c.in-Idle.id) c.if-tile_of-tile.true c.tile_of.ensures)

pub returns-else-tile_of-tile-clause-none : goal.returns-else-tile_of-tile-clause-none
returns-else-tile_of-tile-clause-none g c none =
    let view = c.args.state.now.view in
    idle_elsewhere g.N.Naming.image.data_size view c.is_stored.ensures c.args.tile c.in-Idle.id
    (subst (IsLeast view) c.in-Idle.is c.requires.least) c.tile_of.result c.tile_of.ensures c.if-tile_of-tile.false

pub returns-in-Running : goal.returns-in-Running
returns-in-Running g c = record {
  some = tt;
  none = λ none. none_is_idle c.args.state.now.view c.args.least c.requires.least
      (λ k idle. elim c.in-Running.is [
        | inl running ↦ let both = sym running.1 ∙ idle in absurd (cc (both))
        | inr other ↦ elim other [
          | inl trapped ↦ let both = sym trapped.1 ∙ idle in absurd (cc (both))
          | inr last ↦ elim last [
            | inl finished ↦ let both = sym finished.1 ∙ idle in absurd (cc (both))
            | inr spilled ↦ let both = sym spilled.1 ∙ idle in absurd (cc (both))
          ]
        ]
      ]) c.args.tile;
}
