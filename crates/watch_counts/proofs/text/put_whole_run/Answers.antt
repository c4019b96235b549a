use Rattle.watch_counts.specs.Texts.{run_text}
use Rattle.watch_counts.proofs.Joined.{four_texts}
use Rattle.watch_counts.proofs.text.put_whole_run.Goals as goal

pub returns : goal.returns
unfolding run_text
returns c =
    four_texts _ _ _ _ _ _ _ _ _ _ c.in_ok-put_events.ensures c.in_ok-put_work.ensures c.in_ok-put_run.ensures
    c.put_stalls.ensures
