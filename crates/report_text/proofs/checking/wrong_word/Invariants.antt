use Rattle.std.proofs.Common.{◌≡◌, take}
use Rattle.report_text.specs.Report.{window_of}
use Rattle.report_text.proofs.checking.wrong_word.Given as goal

abbrev pub invariant-loop-place : goal.invariant-loop-place
invariant-loop-place l = take l.place l.window ≡ take l.place (window_of l.image l.memory)
