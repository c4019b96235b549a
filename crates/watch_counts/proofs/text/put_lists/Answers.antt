use Rattle.watch_counts.specs.Texts.{lists_text}
use Rattle.watch_counts.proofs.Joined.{four_texts}
use Rattle.watch_counts.proofs.text.put_lists.Goals as goal

pub returns : goal.returns
unfolding lists_text
returns c =
    four_texts _ _ _ _ _ _ _ _ _ _ c.in_ok-put_list.ensures c.in_ok-put_list-2.ensures c.in_ok-put_list-3.ensures
    c.put_list-4.ensures
