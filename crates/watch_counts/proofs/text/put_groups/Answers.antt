use Rattle.watch_counts.specs.Texts.{groups_text}
use Rattle.watch_counts.proofs.Joined.{four_texts}
use Rattle.watch_counts.proofs.text.put_groups.Goals as goal

pub returns : goal.returns
unfolding groups_text
returns c =
    four_texts _ _ _ _ _ _ _ _ _ _ c.in_ok-put_whole_run.ensures c.in_ok-put_all_acts.ensures c.in_ok-put_tasks.ensures
    c.put_all_places.ensures
