-- The texts and the statuses for what was found.
use Rattle.std.specs.Prelude.{ℕ, List, ◌++◌, codes, decimal}
use Rattle.guest_image.specs.Fault.{fault_number, fault_offset}
use Rattle.guest_image.specs.ImageValue.{ImageValue}
use Rattle.guest_image.specs.declared.fault.ImageFault.{ImageFault}
use Rattle.run_journal.specs.declared.end.End.{End}
use Rattle.run_journal.specs.declared.end.End.TheVariants as ends
use Rattle.watch_play.specs.declared.telling.Telling.{Telling}
use Rattle.watch_play.specs.declared.telling.Telling.TheVariants as tellings
use Rattle.watch_play.specs.watch_text.Views.{last_line}

-- the status of a run that was played to its end, which may not be over there
abbrev pub watch_status : End → ℕ
watch_status ends.Normal = 0
watch_status (ends.Trap name cause pc) = 3
watch_status ends.Limit = 4
watch_status ends.Unfinished = 0

-- the end of a run that stands so: its memory where that is printed, else the last line
abbrev pub end_text : Telling → ImageValue → End → (events commits : ℕ) → (output memory : List ℕ) → List ℕ
end_text tellings.Memory image end events commits output memory = memory
end_text other image end events commits output memory = last_line image end events commits output memory

abbrev pub usage_line : List ℕ
usage_line = codes "{\"fault\":\"usage\"}\n"

abbrev pub long_line : List ℕ
long_line = codes "{\"fault\":\"long\"}\n"

-- the line for a fault of the image, by its number and its offset
abbrev pub image_fault_text : (number offset : ℕ) → List ℕ
image_fault_text number offset =
    codes "{\"fault\":\"image\",\"number\":" ++ decimal number ++ codes ",\"offset\":" ++ decimal offset
    ++ codes "}\n"

abbrev pub image_fault_object : ImageFault → List ℕ
image_fault_object fault = image_fault_text (fault_number fault) (fault_offset fault)

-- the line for the first wrong line of a script
abbrev pub script_fault_object : ℕ → List ℕ
script_fault_object line = codes "{\"fault\":\"script\",\"line\":" ++ decimal line ++ codes "}\n"
