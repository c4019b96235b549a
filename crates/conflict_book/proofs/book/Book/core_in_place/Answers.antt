use Rattle.std.proofs.Common.{ap, arith, refl}
use Rattle.event_step.specs.spec_state.declared.settings.Settings.{Settings}
use Rattle.conflict_book.proofs.Cores.{runs_inside}
use Rattle.conflict_book.proofs.book.Book.core_in_place.Goals as goal
use Rattle.conflict_book.proofs.book.Book.core_in_place.Goals.{then-tile-settings-via-then-tile-settings}
use Rattle.conflict_book.proofs.book.Book.core_in_place.Goals.{then-tile-settings-via-else-tile-settings+then-core-settings}

pub returns-then-tile-settings-clause-none : goal.returns-then-tile-settings-clause-none
returns-then-tile-settings-clause-none g c = (
  λ same id task runs.
      let view = c.args.self.now.sound.view in
      let inside = runs_inside view c.is_sound.ensures.sizes c.args.tile c.args.core id task runs in
      let tiles = ap (λ (s : Settings). s.tiles) c.settings-settings.ensures.value in
      let cores = ap (λ (s : Settings). s.cores) c.settings-settings.ensures.value in
      elim c.then-tile-settings.branch [
        | then-tile-settings-via-then-tile-settings w ↦ omega (arith, w.if-tile-settings, inside.0, tiles)
        | then-tile-settings-via-else-tile-settings+then-core-settings w ↦ omega (arith, w.if-core-settings, inside.1, cores)
      ],
  λ none. refl,
)
