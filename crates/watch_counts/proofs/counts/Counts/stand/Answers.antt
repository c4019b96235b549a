use Rattle.std.proofs.Common.{◌≡◌, ◌∙◌, ap}
use Rattle.watch_counts.specs.declared.counts.Counts.{Counts}
use Rattle.watch_counts.specs.declared.places.PlaceCounts.{PlaceCounts}
use Rattle.watch_counts.specs.Capped.{capped_places}
use Rattle.watch_counts.specs.Counts.{places}
use Rattle.watch_counts.proofs.counts.Counts.stand.Goals as goal

pub returns : goal.returns
returns g c counts are =
    let view = c.args.state.now.view in
    let now : PlaceCounts = places view counts.stalled_cores in
    let standing : c.places_of-self.result ≡ capped_places now =
    c.places_of-self.ensures ∙ ap (λ (n : Counts). capped_places (places view n.stalled_cores)) are in
    let events = c.add.ensures counts.over_events now (ap (λ (n : Counts). n.over_events) are) standing in
    let greatest = c.rise_to.ensures counts.greatest now (ap (λ (n : Counts). n.greatest) are) standing in
    λ i. record (are i) { standing = standing i; over_events = events i; greatest = greatest i }
