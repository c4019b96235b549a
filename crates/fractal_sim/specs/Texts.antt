-- The texts and the statuses of what was found.
use Rattle.std.specs.Prelude.{ℕ, List, ◌++◌, length, codes, decimal}
use Rattle.guest_image.specs.ImageValue.{ImageValue}
use Rattle.guest_image.specs.Fault.{fault_number, fault_offset}
use Rattle.guest_image.specs.declared.fault.ImageFault.{ImageFault}
use Rattle.run_journal.specs.declared.end.End.{End}
use Rattle.run_journal.specs.declared.end.End.TheVariants as ends
use Rattle.load_gen.specs.declared.making.Load.{Load}
use Rattle.load_gen.specs.declared.making.Load.TheVariants.{Walk, Nest}
use Rattle.machine_run.specs.serial_machine.declared.whole_run.SerialRun.{SerialRun}
use Rattle.script_text.specs.report_text.Report.{body_lines, end_line, report}
use Rattle.machine_run.specs.step_script.declared.saying.Said.{Said}
use Rattle.script_text.specs.Replies.{reply_lines}

-- ---- statuses

-- the status of a run to its end; the 5 of one that isn't over is never used, as no such run is reported by it
abbrev pub end_status : End → ℕ
end_status ends.Normal = 0
end_status (ends.Trap name cause pc) = 3
end_status ends.Limit = 4
end_status ends.Unfinished = 5

-- the status of a script that was played: it may leave a run that isn't over
abbrev pub played_status : End → ℕ
played_status ends.Unfinished = 0
played_status end = end_status end

-- ---- lines that report a fault

-- the line that reports a fault of the image
abbrev pub image_fault_line : ImageFault → List ℕ
image_fault_line fault =
    codes "fault image " ++ decimal (fault_number fault) ++ codes " " ++ decimal (fault_offset fault) ++ codes "\n"

-- the line that reports the first wrong line of a report
abbrev pub journal_fault_line : ℕ → List ℕ
journal_fault_line line = codes "fault journal " ++ decimal line ++ codes "\n"

-- the line that reports the first wrong line of a script
abbrev pub script_fault_line : ℕ → List ℕ
script_fault_line line = codes "fault script " ++ decimal line ++ codes "\n"

-- the line that reports at which depth a task is pending that can't be saved
abbrev pub nested_line : ℕ → List ℕ
nested_line depth = codes "fault nested " ++ decimal depth ++ codes "\n"

-- the line that reports how many tasks are pending, which are too many to be saved
abbrev pub tasks_line : ℕ → List ℕ
tasks_line count = codes "fault tasks " ++ decimal count ++ codes "\n"

-- the line that accepts a report of so many entries
abbrev pub accepted_line : ℕ → List ℕ
accepted_line entries = codes "check ok " ++ decimal entries ++ codes "\n"

-- ---- reports

-- the report of a run to this end
abbrev pub run_text : ImageValue → SerialRun → End → List ℕ
run_text image run end = report image run.journal run.memory run.output end

-- the word of a generated image
unfoldable pub load_word : Load → List ℕ
load_word Walk = codes "walk"
load_word Nest = codes "nest"

-- the line that names the generated image
abbrev pub load_line : Load → ℕ → ℕ → List ℕ
load_line load seed size =
    codes "load " ++ load_word load ++ codes " " ++ decimal seed ++ codes " " ++ decimal size ++ codes "\n"

-- the line that reports how many tasks committed
abbrev pub commits_line : ℕ → List ℕ
commits_line commits = codes "commits " ++ decimal commits ++ codes "\n"

-- the report of a generated image that was run to this end: no entries, but their number
abbrev pub load_text : Load → ℕ → ℕ → ImageValue → SerialRun → End → List ℕ
load_text load seed size image run end =
    load_line load seed size ++ commits_line (length run.journal)
    ++ body_lines image run.memory run.output ++ end_line end

-- what was said of each act, and the report of the run that this led to
abbrev pub played_text : List Said → ImageValue → SerialRun → End → List ℕ
played_text said image run end = reply_lines said ++ run_text image run end
