-- The bytes of an image.
use Rattle.std.specs.Prelude.{ℕ, ◌≡◌, List, [], ◌∷◌, ◌++◌, length, Ok}
use Rattle.std.specs.List.{flat_map}
use Rattle.guest_image.specs.declared.image.Kind.{Kind}
use Rattle.guest_image.specs.declared.image.Kind.TheVariants.{Unordered, Ordered}
use Rattle.guest_image.specs.declared.image.ImageTask.{ImageTask}
use Rattle.guest_image.specs.Numbers.{word_bytes, half_bytes}
use Rattle.guest_image.specs.ImageValue.{ImageValue, IsImage}
use Rattle.guest_image.specs.Reading.{image_of}

-- the number that stands for the kind of the root domain
abbrev pub kind_number : Kind → ℕ
kind_number Unordered = 0
kind_number Ordered = 1

-- the six numbers of the header, in the order of their offsets
abbrev pub header_numbers : ImageValue → List ℕ
header_numbers image =
    length image.text ∷ length image.initial ∷ image.data_size ∷ image.window_offset ∷ image.window_words
    ∷ length image.tasks ∷ []

-- the 32 bytes of the header: `FRAC`, the version, the root kind, and six numbers in the order of their offsets
abbrev pub header_bytes : ImageValue → List ℕ
header_bytes image =
    word_bytes 0x43415246 ++ half_bytes image.version ++ half_bytes (kind_number image.kind)
    ++ flat_map word_bytes (header_numbers image)

-- the 20 bytes of a task: its entry address, its timestamp and its arguments
abbrev pub task_bytes : ImageTask → List ℕ
task_bytes task = flat_map word_bytes (task.entry ∷ task.ts ∷ task.args)

-- the bytes of an image: its header, its text, its initial data and its tasks
unfoldable pub image_bytes : ImageValue → List ℕ
image_bytes image =
    header_bytes image ++ flat_map word_bytes image.text ++ image.initial ++ flat_map task_bytes image.tasks

-- an image that was written is read back, whatever follows its bytes
abbrev pub ImageReadsBack : Type 0
ImageReadsBack =
    (image : ImageValue) (rest : List ℕ) → IsImage image
    → image_of (image_bytes image ++ rest) ≡ Ok (image, length (image_bytes image))
