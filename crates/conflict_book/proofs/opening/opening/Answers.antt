use Rattle.std.proofs.Common.{map, ap, subst, ◌∙◌}
use Rattle.std.specs.List.{enumerate_from}
use Rattle.event_step.specs.event_def.Opening.{PlacesAll, opening_book}
use Rattle.conflict_book.proofs.opening.opening.Goals as goal

pub returns-clause-opening : goal.returns-clause-opening
returns-clause-opening g c taps = let before = opening_book c.in_ok-state.state.view
    (map g.P.Placer.policy c.args.placers.now) taps in
    let after = opening_book c.place_all.new.state.view (map g.P.Placer.policy c.place_all.new.placers) taps in record {
      empty = c.in_ok-state.state.view;
      is_empty = c.in_ok-state.ensures;
      placed = subst (λ kind. PlacesAll kind (enumerate_from 0 g.N.Naming.image.tasks) before after)
          (c.kind.ensures ∙ ap (λ image. image.kind) c.requires.named.image_is)
          (subst (λ tasks. PlacesAll c.kind.result (enumerate_from 0 tasks) before after)
          (c.tasks-tasks.ensures.value ∙ ap (λ image. image.tasks) c.requires.named.image_is)
          (c.in_ok-place_all.ensures taps));
    }
