-- Which bytes are an image.
use Rattle.std.specs.Prelude.{ℕ, ◌≡◌, ◌+◌, ◌*◌, ◌==◌, ◌||◌, not, nat_lt, List, [], ◌∷◌, length, map, Result, Ok, Err}
use Rattle.std.specs.Prelude.{IsOk, if◌then◌else◌}
use Rattle.std.specs.List.{range_with_len, slice_range}
use Rattle.guest_image.specs.declared.image.Kind.{Kind}
use Rattle.guest_image.specs.declared.image.Kind.TheVariants.{Unordered, Ordered}
use Rattle.guest_image.specs.declared.image.ImageTask.{ImageTask}
use Rattle.guest_image.specs.declared.image.Image.{Image}
use Rattle.guest_image.specs.declared.fault.ImageFault.{ImageFault}
use Rattle.guest_image.specs.declared.fault.ImageFault.TheVariants as faults
use Rattle.guest_image.specs.Numbers.{word_at, half_at}
use Rattle.guest_image.specs.ImageValue.{ImageValue, IsVersion}
use Rattle.guest_image.specs.Limits.{limits_fault, AreWithinLimits}

-- as many words, one after another from an offset on
unfoldable pub words_from : List ℕ → ℕ → ℕ → List ℕ
words_from bytes at count = map (λ k. word_at bytes (at + 4 * k)) (range_with_len 0 count)

-- the task in the 20 bytes from an offset on
unfoldable pub image_task_at : List ℕ → ℕ → ImageTask
image_task_at bytes at = record {
  entry = word_at bytes at;
  ts = word_at bytes (at + 4);
  args = word_at bytes (at + 8) ∷ word_at bytes (at + 12) ∷ word_at bytes (at + 16) ∷ [];
}

-- as many tasks, one after another from an offset on
unfoldable pub tasks_from : List ℕ → ℕ → ℕ → List ImageTask
tasks_from bytes at count = map (λ k. image_task_at bytes (at + 20 * k)) (range_with_len 0 count)

-- each row of the header's table of faults: where the test holds it is this fault, else the next row is tried
unfoldable pub header_fault : List ℕ → Result (Unit {0}) ImageFault
header_fault bytes =
    if not (word_at bytes 0 == 0x43415246) then Err faults.Magic
    else if not ((half_at bytes 4 == 1) || (half_at bytes 4 == 2)) then Err (faults.Version (half_at bytes 4))
    else if nat_lt 1 (half_at bytes 6) then Err (faults.RootKind (half_at bytes 6))
    else limits_fault (word_at bytes 8) (word_at bytes 12) (word_at bytes 16) (word_at bytes 20) (word_at bytes 24)
    (word_at bytes 28)

-- what the header of an image keeps
abbrev pub HeaderFits : List ℕ → Type 0
HeaderFits bytes =
    IsVersion (half_at bytes 4)
    × AreWithinLimits (word_at bytes 8) (word_at bytes 12) (word_at bytes 16) (word_at bytes 20) (word_at bytes 24)
    (word_at bytes 28)

-- the length of the image that the header describes, in bytes
unfoldable pub whole_length : List ℕ → ℕ
whole_length bytes = 32 + 4 * word_at bytes 8 + word_at bytes 12 + 20 * word_at bytes 28

-- the kind of the root domain that a number stands for
abbrev pub root_kind : ℕ → Kind
root_kind n = if n == 0 then Unordered else Ordered

-- what the bytes of an image say
unfoldable pub value_in_bytes : List ℕ → ImageValue
value_in_bytes bytes = record {
  version = half_at bytes 4;
  kind = root_kind (half_at bytes 6);
  text = words_from bytes 32 (word_at bytes 8);
  initial = slice_range bytes (32 + 4 * word_at bytes 8) (32 + 4 * word_at bytes 8 + word_at bytes 12);
  data_size = word_at bytes 16;
  window_offset = word_at bytes 20;
  window_words = word_at bytes 24;
  tasks = tasks_from bytes (32 + 4 * word_at bytes 8 + word_at bytes 12) (word_at bytes 28);
}

-- the image, where the header has no fault and the bytes are at least as many as it says
abbrev pub after_header : List ℕ → Result (Unit {0}) ImageFault → Result (ImageValue × ℕ) ImageFault
after_header bytes (Err e) = Err e
after_header bytes (Ok _) =
    if nat_lt (length bytes) (whole_length bytes) then Err (faults.Short (whole_length bytes) (length bytes))
    else Ok (value_in_bytes bytes, whole_length bytes)

-- the image at the front of the bytes with its length, or the first fault
unfoldable pub image_of : List ℕ → Result (ImageValue × ℕ) ImageFault
image_of bytes =
    if nat_lt (length bytes) 32 then Err (faults.Short 32 (length bytes))
    else after_header bytes (header_fault bytes)

-- why no image was read: its own fault, or want of memory where the bytes begin with an image
abbrev pub Fails : ImageFault → Result (ImageValue × ℕ) ImageFault → Type 0
Fails faults.Memory read = IsOk read
Fails e read = read ≡ Err e

-- what a call returned is what the definition gives, unless memory ran out
abbrev pub GivesImage : Result (Image × ℕ) ImageFault → Result (ImageValue × ℕ) ImageFault → Type 0
GivesImage (Ok x) read = read ≡ Ok (x.0, x.1)
GivesImage (Err e) read = Fails e read
