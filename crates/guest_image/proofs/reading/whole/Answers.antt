use Rattle.std.proofs.Common.{◌∙◌}
use Rattle.guest_image.proofs.HeaderValue.{value_from, value_fits}
use Rattle.guest_image.proofs.reading.whole.Goals as goal

pub from_parts-requires-clause-limits : goal.from_parts-requires-clause-limits
from_parts-requires-clause-limits c =
    value_fits c.args.bytes.now _ _ _ _ _ _ _ _ _ c.word-text_words.ensures c.word-initial_len.ensures c.word-task_count.ensures c.word.ensures c.word-2.ensures c.word-3.ensures c.in_ok-text.ensures c.in_ok-initial.ensures.items c.in_ok-first_tasks.ensures c.requires.long c.requires.fits

pub returns : goal.returns
returns c =
    c.from_parts.ensures
    ∙ value_from c.args.bytes.now _ _ _ _ _ _ _ _ _ _ _ c.half.ensures c.kind_of.ensures c.word-text_words.ensures c.word-initial_len.ensures c.word-task_count.ensures c.word.ensures c.word-2.ensures c.word-3.ensures c.in_ok-text.ensures c.in_ok-initial.ensures.items c.in_ok-first_tasks.ensures
