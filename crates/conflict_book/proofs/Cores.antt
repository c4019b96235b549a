-- The task on a core.
use Rattle.std.proofs.Common.{ℕ, ◌≡◌, ◌<◌, ◌≤◌, ◌⊎◌, inl, inr, List, [], Option, Some, sym, ap, subst, is_some, ◌∙◌}
use Rattle.std.proofs.Common.{length, arith}
use Rattle.std.proofs.lemmas.Bool.{cases_lt}
use Rattle.std.proofs.lemmas.List.{get_or_past}
use Rattle.std.proofs.lemmas.List.Elements.{All-get_or}
use Rattle.std.proofs.lemmas.Option.{slice_get_within}
use Rattle.std.specs.Prelude.{IsSome, slice_get}
use Rattle.event_step.specs.spec_state.declared.task.Status.TheVariants.{Running}
use Rattle.event_step.specs.spec_state.declared.task.Task.{Task}
use Rattle.event_step.specs.spec_state.Queries.{IsRunning}
use Rattle.event_step.specs.spec_state.Stored.{HasCore, IsStored}
use Rattle.event_step.specs.spec_state.View.{View, cores_at, task_at}
use Rattle.event_step.specs.spec_law.Sound.{SoundSizes}

module _ (size : ℕ) (view : View) (stored : IsStored size view) (tile core id : ℕ) (held : slice_get (cores_at view tile) core ≡ Some (Some id)) where
  -- a core holds a task that is there
  pub held_is_there : IsSome (task_at view id)
  held_is_there =
      let has = (stored.held_are tile core id).0 held in
      ap is_some has.1

  -- and where it runs, it runs there
  pub held_runs : (task : Task) (at : ℕ) → task_at view id ≡ Some task → task.status ≡ Running at
      → IsRunning view tile core id task
  held_runs task at there runs =
      let has = (stored.held_are tile core id).0 held in
      let both : Some has.0 ≡ Some task = sym has.1 ∙ there in
      let same : has.0 ≡ task = cc in
      let on : HasCore task.status core = subst (λ (t : Task). HasCore t.status core) same has.3 in
      let one : at ≡ core = subst (λ s. HasCore s core) runs on in
      record { on = record { held = held; there = there }; running = runs ∙ ap Running one }

-- where a task runs, the machine has that tile and that core
pub runs_inside : (view : View) → SoundSizes view → (tile core id : ℕ) (task : Task) → IsRunning view tile core id task
    → (tile < view.settings.tiles) × (core < view.settings.cores)
runs_inside view sizes tile core id task runs = go (cases_lt tile view.settings.tiles) where
  inside : core < length (cores_at view tile)
  inside = slice_get_within (cores_at view tile) core (Some id) runs.on.held

  go : (tile < view.settings.tiles) ⊎ (view.settings.tiles ≤ tile)
      → (tile < view.settings.tiles) × (core < view.settings.cores)
  go (inl below) =
      let has : tile < length view.cores = omega (arith, below, sizes.cores) in
      let count : length (cores_at view tile) ≡ view.settings.cores = All-get_or (λ (held : List (Option ℕ)). length held ≡ view.settings.cores) view.cores tile [] has sizes.core_counts in
      (below, omega (arith, inside, count))
  go (inr past) =
      let past_all : length view.cores ≤ tile = omega (arith, past, sizes.cores) in
      let none : length (cores_at view tile) ≡ 0 = ap (λ (held : List (Option ℕ)). length held) (get_or_past view.cores tile [] past_all) in
      absurd (omega (arith, inside, none))
