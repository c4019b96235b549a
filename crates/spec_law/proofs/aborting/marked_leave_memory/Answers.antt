use Rattle.spec_law.proofs.Aborted.Taken.{holds_later, logs_taken_back}
use Rattle.spec_law.proofs.aborting.marked_leave_memory.Goals as goal

pub returns : goal.returns
returns c = λ firsts old aborted new abort. (holds_later abort, logs_taken_back abort)
