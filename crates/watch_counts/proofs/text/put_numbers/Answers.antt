use Rattle.watch_counts.specs.Texts.{counts_text}
use Rattle.watch_counts.proofs.Joined.{four_texts, put_where_ok}
use Rattle.watch_counts.proofs.text.put_numbers.Goals as goal

pub returns : goal.returns
unfolding counts_text
returns c =
    four_texts _ _ _ _ _ _ _ _ _ _ c.in_ok-put_groups.ensures c.in_ok-put_domains.ensures c.in_ok-put_lists.ensures
    (put_where_ok c.push_str.result _ _ _ c.push_str.ensures.bytes)
