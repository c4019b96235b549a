use Rattle.std.proofs.Common.{◌∙◌, ◌++◌, ap, codes, sym}
use Rattle.step_script.specs.declared.saying.Word.TheVariants.{Plain}
use Rattle.script_text.specs.Replies.{reply_text}
use Rattle.script_text.proofs.Quiet.{quiet_is}
use Rattle.script_text.proofs.replies.quiet_reply.Goals as goal

pub returns-in-Ok : goal.returns-in-Ok
returns-in-Ok c = sym (quiet_is (Plain c.args.reply) ∙ ap (λ r. reply_text r ++ codes " 0\n") c.in-Ok.is)

pub returns-in-Empty : goal.returns-in-Empty
returns-in-Empty c = sym (quiet_is (Plain c.args.reply) ∙ ap (λ r. reply_text r ++ codes " 0\n") c.in-Empty.is)

pub returns-in-Busy : goal.returns-in-Busy
returns-in-Busy c = sym (quiet_is (Plain c.args.reply) ∙ ap (λ r. reply_text r ++ codes " 0\n") c.in-Busy.is)

pub returns-in-Stall : goal.returns-in-Stall
returns-in-Stall c = sym (quiet_is (Plain c.args.reply) ∙ ap (λ r. reply_text r ++ codes " 0\n") c.in-Stall.is)

pub returns-in-Stale : goal.returns-in-Stale
returns-in-Stale c = sym (quiet_is (Plain c.args.reply) ∙ ap (λ r. reply_text r ++ codes " 0\n") c.in-Stale.is)

pub returns-in-Firm : goal.returns-in-Firm
returns-in-Firm c = sym (quiet_is (Plain c.args.reply) ∙ ap (λ r. reply_text r ++ codes " 0\n") c.in-Firm.is)

pub returns-in-Ended : goal.returns-in-Ended
returns-in-Ended c = sym (quiet_is (Plain c.args.reply) ∙ ap (λ r. reply_text r ++ codes " 0\n") c.in-Ended.is)

pub returns-in-Memory : goal.returns-in-Memory
returns-in-Memory c = sym (quiet_is (Plain c.args.reply) ∙ ap (λ r. reply_text r ++ codes " 0\n") c.in-Memory.is)
