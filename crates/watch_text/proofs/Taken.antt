-- The task that takes a leg on a core.
use Rattle.std.proofs.Common.{◌≡◌, ◌∙◌, ℕ, Some, None, subst, sym, slice_get}
use Rattle.rv_core.specs.LegValue.{LegValue}
use Rattle.script_text.specs.spec_state.declared.task.Task.{Task}
use Rattle.script_text.specs.spec_state.Changes.{TakesLeg}
use Rattle.script_text.specs.spec_state.View.{View, cores_at}

module _ (view : View) (tile core : ℕ) (leg : LegValue)
    (takes : (id : ℕ) × (task : Task) × TakesLeg view tile core leg id task) where
  -- it is there
  pub some_takes : slice_get (cores_at view tile) core ≡ Some None → ⊥
  some_takes none = let both : Some (Some takes.0) ≡ Some None = sym takes.2.runs.on.held ∙ none in absurd (cc (both))

  -- and is the one that the core holds
  pub held_takes : (held : ℕ) → slice_get (cores_at view tile) core ≡ Some (Some held)
      → (task : Task) × TakesLeg view tile core leg held task
  held_takes held is =
      let both : Some (Some takes.0) ≡ Some (Some held) = sym takes.2.runs.on.held ∙ is in
      let same : takes.0 ≡ held = cc in
      (takes.1, subst (λ (id : ℕ). TakesLeg view tile core leg id takes.1) same takes.2)
