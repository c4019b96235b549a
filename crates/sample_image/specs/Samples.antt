-- The image of a program.
use Rattle.std.specs.Prelude.{ℕ, [], ◌∷◌, map}
use Rattle.guest_image.specs.declared.image.Kind.TheVariants as kinds
use Rattle.guest_image.specs.declared.image.ImageTask.{ImageTask}
use Rattle.guest_image.specs.ImageValue.{ImageValue, image_value}
use Rattle.sample_image.specs.declared.program.Program.{Program}

-- the task of this entry address and timestamp, without arguments
abbrev pub first_task : ℕ × ℕ → ImageTask
first_task entry = record { entry = entry.0; ts = entry.1; args = 0 ∷ 0 ∷ 0 ∷ [] }

-- what the image of a program says: it is ordered, and has no window
abbrev pub value_of_program : Program → ImageValue
value_of_program program =
    image_value kinds.Ordered program.text.now program.initial.now program.data_size 0 0
    (map first_task program.tasks.now)
