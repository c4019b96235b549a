-- The leg of a step that came to be is one that the task on the core takes.
use Rattle.std.proofs.Common.{◌≡◌, ◌∙◌, ℕ, List, ap, subst, sym}
use Rattle.guest_image.specs.ImageValue.{ImageValue}
use Rattle.rv_core.specs.LegValue.{LegValue}
use Rattle.watch_counts.specs.spec_state.declared.task.Task.{Task}
use Rattle.watch_counts.specs.spec_state.Changes.{TakesLeg}
use Rattle.watch_counts.specs.spec_state.View.{View}
use Rattle.watch_counts.specs.event_def.declared.event.Event.TheVariants as event
use Rattle.watch_counts.specs.step_script.declared.act.Act.{Act}
use Rattle.watch_counts.specs.step_script.declared.act.Act.TheVariants as acts
use Rattle.watch_counts.specs.step_script.declared.asked.Asked.{Asked}
use Rattle.watch_counts.specs.step_script.declared.asked.Asked.TheVariants as asked
use Rattle.watch_counts.specs.step_script.Asking.{Attempt, AsksFor, AsksStep, Hands, asks_of}
use Rattle.watch_counts.specs.step_script.Asking.{step_ended, step_runs, step_stale}
use Rattle.watch_counts.specs.step_script.Playing.{HasLegAt, HeldLeg, PlayState}

-- some task takes it
abbrev pub IsTaken : View → LegValue → ℕ → ℕ → Type 0
IsTaken view leg tile core = (id : ℕ) × (task : Task) × TakesLeg view tile core leg id task

taken : (image : ImageValue) (view : View) (tile core : ℕ) (leg : LegValue) → HasLegAt image view tile core leg
    → IsTaken view leg tile core
taken image view tile core leg has =
    (has.id, has.task, record { runs = has.runs; from = sym has.leg_from.from })

-- of an attempt to hand a step in
by_step : {N : Type 0} (image : ImageValue) (t k : ℕ) (old : PlayState) (held : List HeldLeg) (asks : Attempt N)
    → AsksStep image t k old asks held → (tile core : ℕ) (leg : LegValue) → asks ≡ Hands (event.Step tile core leg)
    → IsTaken old.book.view leg tile core
by_step {N} image t k old held asks (step_runs own going has hands) tile core leg is =
    let both : ◌≡◌ {A = Attempt N} (Hands (event.Step t k own)) (Hands (event.Step tile core leg)) =
    sym hands.asks_is ∙ is in
    let same_tile : t ≡ tile = cc in
    let same_core : k ≡ core = cc in
    let same_leg : own ≡ leg = cc in
    let found : IsTaken old.book.view own t k = taken image old.book.view t k own has in
    let there : IsTaken old.book.view leg t k = subst (λ (l : LegValue). IsTaken old.book.view l t k) same_leg found in
    let of_tile : IsTaken old.book.view leg tile k =
    subst (λ (n : ℕ). IsTaken old.book.view leg n k) same_tile there in
    subst (IsTaken old.book.view leg tile) same_core of_tile
by_step image t k old held asks (step_ended over says) tile core leg is = absurd (cc (sym says.asks_is ∙ is))
by_step image t k old held asks (step_stale going none says) tile core leg is = absurd (cc (sym says.asks_is ∙ is))

-- of what a `step` comes to
pub step_is_taken : (N : Type 0) (image : ImageValue) (view : View) (act : Act) (t k : ℕ) → act ≡ acts.Step t k
    → (word : Asked) (leg : LegValue) → (old : PlayState) × (held : List HeldLeg) × (old.book.view ≡ view)
    × AsksFor {N = N} image act old (asks_of word leg) held → (tile core : ℕ) → word ≡ asked.Ready tile core
    → IsTaken view leg tile core
step_is_taken N image view act t k is word leg asks tile core ready =
    let old = asks.0 in
    let step : AsksStep {N = N} image t k old (asks_of word leg) asks.1 =
    subst (λ (a : Act). AsksFor {N = N} image a old (asks_of word leg) asks.1) is asks.3 in
    let handed : asks_of {N = N} word leg ≡ Hands (event.Step tile core leg) =
    ap (λ (w : Asked). asks_of {N = N} w leg) ready in
    subst (λ (v : View). IsTaken v leg tile core) asks.2
    (by_step {N = N} image t k old asks.1 (asks_of word leg) step tile core leg handed)
