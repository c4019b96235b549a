use Rattle.std.proofs.Common.{◌∙◌, ◌++◌, ap, codes, sym}
use Rattle.script_text.specs.Replies.{word_text}
use Rattle.script_text.proofs.Quiet.{quiet_is}
use Rattle.script_text.proofs.replies.quiet_line.Goals as goal

pub returns-in-Moved : goal.returns-in-Moved
returns-in-Moved c = sym (quiet_is c.args.word ∙ ap (λ w. word_text w ++ codes " 0\n") c.in-Moved.is)

pub returns-in-Committed : goal.returns-in-Committed
returns-in-Committed c = sym (quiet_is c.args.word ∙ ap (λ w. word_text w ++ codes " 0\n") c.in-Committed.is)
