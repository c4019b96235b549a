-- What an image says, and its limits.
use Rattle.std.specs.Prelude.{ℕ, ◌≡◌, ◌+◌, ◌*◌, ◌%◌, ◌^◌, ◌≤◌, ◌<◌, ◌⊎◌, List, length, All}
use Rattle.guest_image.specs.declared.image.Kind.{Kind}
use Rattle.guest_image.specs.declared.image.ImageTask.{ImageTask}

-- the version, the kind of the root domain, the words of the text, the first bytes of the data and its size,
-- the window in the data (an offset and a number of words), and the initial tasks
pub record ImageValue : Type 0 where
  pub version : ℕ
  pub kind : Kind
  pub text : List ℕ
  pub initial : List ℕ
  pub data_size : ℕ
  pub window_offset : ℕ
  pub window_words : ℕ
  pub tasks : List ImageTask

-- an image of version 1 of these values
abbrev pub image_value : Kind → List ℕ → List ℕ → ℕ → ℕ → ℕ → List ImageTask → ImageValue
image_value kind text initial data_size window_offset window_words tasks = record {
  version = 1;
  kind = kind;
  text = text;
  initial = initial;
  data_size = data_size;
  window_offset = window_offset;
  window_words = window_words;
  tasks = tasks;
}

-- the same image in another version
abbrev pub in_version : ℕ → ImageValue → ImageValue
in_version version image = record image { version = version }

-- the versions there are
abbrev pub IsVersion : ℕ → Type 0
IsVersion version = (version ≡ 1) ⊎ (version ≡ 2)

-- a task of words: an entry address, a timestamp and three arguments of 4 bytes each
pub record IsTask (task : ImageTask) : Type 0 where
  pub entry : task.entry < 2 ^ 32
  pub ts : task.ts < 2 ^ 32
  pub three : length task.args ≡ 3
  pub args : All (λ arg. arg < 2 ^ 32) task.args

-- the limits of an image: version 1 or 2, 65,536 words of text, 16 MiB of data, a window of 4,096 words that lies in
-- the data, and 1 to 65,536 initial tasks; the text and the tasks are words of 4 bytes, and the initial data are bytes
pub record IsImage (image : ImageValue) : Type 0 where
  pub version : IsVersion image.version
  pub text : length image.text ≤ 65536
  pub initial : length image.initial ≤ image.data_size
  pub data_size : image.data_size ≤ 16777216
  pub window_aligned : image.window_offset % 4 ≡ 0
  pub window_inside : image.window_offset + 4 * image.window_words ≤ image.data_size
  pub window_words : image.window_words ≤ 4096
  pub tasks : length image.tasks ≤ 65536
  pub some_task : 0 < length image.tasks
  pub words : All (λ word. word < 2 ^ 32) image.text
  pub bytes : All (λ byte. byte < 256) image.initial
  pub each_task : All IsTask image.tasks
