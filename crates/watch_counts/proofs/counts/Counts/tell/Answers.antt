use Rattle.std.proofs.Common.{rules, ap, sym}
use Rattle.watch_counts.specs.declared.counts.Counts.{Counts}
use Rattle.watch_counts.proofs.Stopping.{capped_itself}
use Rattle.watch_counts.proofs.counts.Counts.tell.Goals as goal

pub returns : goal.returns
returns c counts are = λ i. record (are i) {
  acts = sym (capped_itself c.args.at (search rules)) i;
  told = c.count.ensures counts.told (ap (λ (k : Counts). k.told) are) i;
  advances = c.advances_after-self.ensures counts.advances (ap (λ (k : Counts). k.advances) are) i;
}
