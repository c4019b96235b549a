-- The settings of the command line: the option that gives each, its values and its default.
use Rattle.std.specs.Prelude.{ℕ, ◌==◌, ◌&&◌, ◌||◌, Bool, nat_le, List, [], ◌∷◌, codes}

-- a setting: the option that gives it, which numbers it may be, and what it is where the option isn't given
pub record Setting : Type 0 where
  pub name : List ℕ
  pub allows : ℕ → Bool
  pub default : ℕ

abbrev pub setting : List ℕ → (ℕ → Bool) → ℕ → Setting
setting name allows default = record { name = name; allows = allows; default = default }

-- the numbers from the least to the greatest, both included
abbrev pub between : ℕ → ℕ → ℕ → Bool
between least greatest number = nat_le least number && nat_le number greatest

-- the numbers of bytes that a line may have
abbrev pub is_line : ℕ → Bool
is_line bytes = (bytes == 4) || ((bytes == 8) || ((bytes == 16) || ((bytes == 32) || (bytes == 64))))

-- how many tiles there are
abbrev pub tiles : Setting
tiles = setting (codes "tiles") (between 1 16) 4

-- how many cores each tile has
abbrev pub cores : Setting
cores = setting (codes "cores") (between 1 4) 2

-- how many tasks the queue of a tile holds
abbrev pub task_queue : Setting
task_queue = setting (codes "task-queue") (between 4 256) 64

-- how many finished tasks the commit queue of a tile holds
abbrev pub commit_queue : Setting
commit_queue = setting (codes "commit-queue") (between 1 64) 16

-- how many bytes a line of memory has
abbrev pub line : Setting
line = setting (codes "line") is_line 16

-- how many plain instructions a leg may have
abbrev pub quantum : Setting
quantum = setting (codes "quantum") (between 1 1024) 64

-- how many host threads work
abbrev pub workers : Setting
workers = setting (codes "workers") (between 0 16) 0

-- how many tasks may commit
abbrev pub commits : Setting
commits = setting (codes "commits") (between 1 1000000) 1000000

-- how many instructions a task may execute
abbrev pub budget : Setting
budget = setting (codes "budget") (between 1 65536) 65536

-- how many commits a placer serves
abbrev pub phase : Setting
phase = setting (codes "phase") (between 1 1000000) 1000000

-- all of them
unfoldable pub all_settings : List Setting
all_settings =
    tiles ∷ cores ∷ task_queue ∷ commit_queue ∷ line ∷ quantum ∷ workers ∷ commits ∷ budget ∷ phase ∷ []
