use Rattle.std.proofs.Common.{◌∙◌, ap, sym}
use Rattle.std.specs.Prelude.{false, length, replicate}
use Rattle.watch_text.specs.spec_state.View.{block_at}
use Rattle.watch_counts.specs.declared.counts.Counts.{Counts}
use Rattle.watch_counts.specs.Capped.{capped_places}
use Rattle.watch_counts.specs.Counts.{places}
use Rattle.watch_counts.specs.Work.{over_tiles}
use Rattle.watch_counts.proofs.Untouched.{none_capped}
use Rattle.watch_counts.proofs.counts.Counts.new.Goals as goal

pub returns : goal.returns
returns g c =
    let view = c.args.state.now.view in
    let begun = c.none-counts.ensures in
    (λ i. record (begun i) {
      opening = c.spilled_of.ensures i;
      standing = (c.places_of-counts.ensures
          ∙ ap (λ (n : Counts). capped_places (places view n.stalled_cores)) begun) i;
    })
    ∙ sym (none_capped (over_tiles view (λ tile. length (block_at view tile))) (places view (replicate 64 false)))
