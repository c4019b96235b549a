use Rattle.watch_counts.specs.Texts.{acts_text}
use Rattle.watch_counts.proofs.Joined.{three_texts}
use Rattle.watch_counts.proofs.text.put_all_acts.Goals as goal

pub returns : goal.returns
unfolding acts_text
returns c =
    three_texts _ _ _ _ _ _ _ _ c.in_ok-put_acts.ensures c.in_ok-put_acts-2.ensures
    c.put_acts-3.ensures
