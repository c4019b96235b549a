-- The limits of an image.
use Rattle.std.specs.Prelude.{ℕ, ◌≡◌, ◌+◌, ◌*◌, ◌%◌, ◌||◌, ◌==◌, ◌≤◌, ◌<◌, not, min, nat_lt, length, Result, Ok}
use Rattle.std.specs.Prelude.{Err, if◌then◌else◌}
use Rattle.guest_image.specs.declared.fault.ImageFault.{ImageFault}
use Rattle.guest_image.specs.declared.fault.ImageFault.TheVariants as faults
use Rattle.guest_image.specs.ImageValue.{ImageValue}

-- each row of the table of limits, over the lengths of the text, the initial data and the tasks: where the test
-- holds it is this fault, else the next row is tried
unfoldable pub limits_fault : (text initial data_size window_offset window_words tasks : ℕ)
    → Result (Unit {0}) ImageFault
limits_fault text initial data_size window_offset window_words tasks =
    if nat_lt 65536 text then Err (faults.Limit 8 text)
    else if nat_lt 16777216 data_size then Err (faults.Limit 16 data_size)
    else if nat_lt data_size initial then Err (faults.Limit 12 initial)
    else if nat_lt 4096 window_words then Err (faults.Limit 24 window_words)
    else if nat_lt 65536 tasks then Err (faults.Limit 28 tasks)
    else if not (window_offset % 4 == 0) || nat_lt data_size (window_offset + 4 * window_words) then Err faults.Window
    else if tasks == 0 then Err faults.NoTask
    else Ok tt

-- numbers to which no row of that table applies
pub record AreWithinLimits (text_words initial_len size offset words task_count : ℕ) : Type 0 where
  pub text : text_words ≤ 65536
  pub data_size : size ≤ 16777216
  pub initial : initial_len ≤ size
  pub window_words : words ≤ 4096
  pub tasks : task_count ≤ 65536
  pub some_task : 0 < task_count
  pub window_aligned : offset % 4 ≡ 0
  pub window_inside : offset + 4 * words ≤ size

-- an image's numbers are within the limits
abbrev pub AreInLimits : ImageValue → Type 0
AreInLimits image =
    AreWithinLimits (length image.text) (length image.initial) image.data_size image.window_offset image.window_words
    (length image.tasks)

-- a length as a fault reports it, in a number of 4 bytes
abbrev pub fault_length : ℕ → ℕ
fault_length n = min n 4294967295

-- the value, where no fault is found
abbrev pub unless_fault : Result (Unit {0}) ImageFault → ImageValue → Result ImageValue ImageFault
unless_fault (Ok _) value = Ok value
unless_fault (Err e) value = Err e

-- the image of given values, or the first limit that they exceed
unfoldable pub image_made : ImageValue → Result ImageValue ImageFault
image_made value =
    unless_fault
    (limits_fault (fault_length (length value.text))
    (fault_length (length value.initial)) value.data_size value.window_offset
    value.window_words (fault_length (length value.tasks)))
    value
