-- The image of additions by nested domains.
use Rattle.std.specs.Prelude.{ℕ, ◌+◌, ◌*◌, ◌%◌, [], ◌∷◌, map}
use Rattle.std.specs.List.{range_with_len}
use Rattle.guest_image.specs.ImageValue.{ImageValue}
use Rattle.guest_image.specs.declared.memory_map.TheConstants.{DATA_START, TEXT_START}
use Rattle.guest_image.specs.declared.image.Kind.TheVariants.{Unordered}
use Rattle.guest_image.specs.declared.image.ImageTask.{ImageTask}
use Rattle.load_gen.specs.Programs.{nest_words}

-- the address of a cell: there are eight, and they are counted round
abbrev pub cell : ℕ → ℕ
cell place = DATA_START + 4 * (place % 8)

-- an initial task: its amount and its two cells
abbrev pub nest_task : ℕ → ℕ → ImageTask
nest_task seed place = record {
  entry = TEXT_START;
  ts = 0;
  args = (seed % 1000 + place) ∷ cell place ∷ cell (place + 3) ∷ [];
}

-- the image: the additions as text, eight cells of zeros, which are the window, and `size` tasks
abbrev pub nest_image : ℕ → ℕ → ImageValue
nest_image seed size = record {
  version = 1;
  kind = Unordered;
  text = nest_words;
  initial = [];
  data_size = 32;
  window_offset = 0;
  window_words = 8;
  tasks = map (nest_task seed) (range_with_len 0 size);
}
