-- The ranges of the settings, and which machine a naming speaks of.
use Rattle.std.specs.Prelude.{◌≡◌, ◌⊎◌, ◌≤◌, ℕ}
use Rattle.guest_image.specs.ImageValue.{ImageValue}
use Rattle.task_law.specs.serial_machine.declared.limits.TheConstants.{MAX_BUDGET, MAX_COMMITS}
use Rattle.spec_state.specs.declared.settings.Settings.{Settings}

-- the number lies between these two, both included
abbrev pub IsBetween : ℕ → ℕ → ℕ → Type 0
IsBetween number least greatest = (least ≤ number) × (number ≤ greatest)

-- a line has one of these numbers of bytes
abbrev pub IsLine : ℕ → Type 0
IsLine bytes = (bytes ≡ 4) ⊎ (bytes ≡ 8) ⊎ (bytes ≡ 16) ⊎ (bytes ≡ 32) ⊎ (bytes ≡ 64)

-- each number lies in its range
pub record IsValid (settings : Settings) : Type 0 where
  pub tiles : IsBetween settings.tiles 1 16
  pub cores : IsBetween settings.cores 1 4
  pub task_queue : IsBetween settings.task_queue 4 256
  pub commit_queue : IsBetween settings.commit_queue 1 64
  pub line : IsLine settings.line
  pub quantum : IsBetween settings.quantum 1 1024
  pub workers : IsBetween settings.workers 0 16
  pub commits : IsBetween settings.commits 1 MAX_COMMITS
  pub budget : IsBetween settings.budget 1 MAX_BUDGET
  pub phase : IsBetween settings.phase 1 MAX_COMMITS

-- a machine of this image and these settings is the one that a naming speaks of: its image, its task budget and its
-- commit limit are these
pub record IsNamed (given : ImageValue) (settings : Settings) (image : ImageValue) (budget commits : ℕ) : Type 0 where
  pub image_is : given ≡ image
  pub budget_is : settings.budget ≡ budget
  pub commits_is : settings.commits ≡ commits
