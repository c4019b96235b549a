use Rattle.watch_counts.specs.Texts.{tasks_text}
use Rattle.watch_counts.proofs.Joined.{four_texts}
use Rattle.watch_counts.proofs.text.put_tasks.Goals as goal

pub returns : goal.returns
unfolding tasks_text
returns c =
    four_texts _ _ _ _ _ _ _ _ _ _ c.in_ok-put_accesses.ensures c.in_ok-put_accesses-2.ensures c.in_ok-put_causes.ensures
    c.put_causes-2.ensures
