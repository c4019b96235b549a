-- What a course asks for on one of two views that are alike it asks for on the other.
use Rattle.std.proofs.Common.{◌≡◌, ◌⊎◌, ℕ, sym, ap, ◌∙◌, inl, inr}
use Rattle.watch_counts.specs.spec_state.declared.task.Status.TheVariants.{Finished}
use Rattle.watch_counts.specs.spec_state.declared.task.Task.{Task}
use Rattle.watch_counts.specs.spec_state.Least.{IsLeastSpilled, IsTheLeast}
use Rattle.watch_counts.specs.spec_state.Queries.{IsFreeCore}
use Rattle.watch_counts.specs.spec_state.Room.{QueueHasRoom}
use Rattle.watch_counts.specs.spec_state.View.{View}
use Rattle.watch_counts.specs.event_def.End.{IsOver}
use Rattle.watch_counts.specs.step_script.declared.act.Act.{Act}
use Rattle.watch_counts.specs.step_script.declared.act.Act.TheVariants as acts
use Rattle.machine_run.specs.outcome_law.Alike.{AreAlike, IsAlikeTask, IdPermutation, inverse_of}
use Rattle.machine_run.proofs.Below.outcome_law.Proved.{alike_turned, over_too, block_too, least_too, spilled_too}
use Rattle.machine_run.proofs.Below.outcome_law.Proved.{the_least_too}
use Rattle.machine_run.proofs.Below.outcome_law.Proved.{free_core_too, least_idle_too, running_too, has_room_too}
use Rattle.watch_play.specs.Courses.{Course, GoesOnAt, IsAskedBy, IsAskedInRound, LeastWaits, OfLeast, OfRounds}
use Rattle.watch_play.specs.Courses.{OfScript, Stage}

module _ (r : IdPermutation) (a b : View) (alike : AreAlike r a b) where
  -- an alike task stands as the other one does
  status_too : (x y : Task) → IsAlikeTask r.to x y → x.status ≡ Finished → y.status ≡ Finished
  status_too x y same is = ap (λ (t : Task). t.status) same.other_is ∙ is

  core_or_least_too : (tile id : ℕ) → ((core : ℕ) × IsFreeCore a tile core) ⊎ IsTheLeast a id
      → ((core : ℕ) × IsFreeCore b tile core) ⊎ IsTheLeast b (r.to id)
  core_or_least_too tile id (inl free) = inl (free.0, free_core_too r a b alike tile free.0 free.1)
  core_or_least_too tile id (inr least) = inr (the_least_too r a b alike id least)

  room_or_least_too : (tile : ℕ) → QueueHasRoom a tile ⊎ IsLeastSpilled a tile
      → QueueHasRoom b tile ⊎ IsLeastSpilled b tile
  room_or_least_too tile (inl room) = inl (has_room_too r a b alike tile room)
  room_or_least_too tile (inr least) = inr (spilled_too r a b alike tile least)

  asked_in_round_too : (act : Act) → IsAskedInRound a act → IsAskedInRound b act
  asked_in_round_too (acts.Dispatch tile) asked =
      let too = least_idle_too r a b alike tile asked.0 asked.1 asked.2 in
      (r.to asked.0, too.y, too.is, core_or_least_too tile asked.0 asked.3)
  asked_in_round_too (acts.Step tile core) asked =
      let too = running_too r a b alike tile core asked.0 asked.1 asked.2 in (r.to asked.0, too.y, too.is)
  asked_in_round_too acts.Commit asked =
      let too = least_too r a b alike asked.0 asked.1 asked.2 in
      (r.to asked.0, too.y, too.least, status_too asked.1 too.y too.alike asked.3)
  asked_in_round_too (acts.Split tile) asked =
      ((λ none. asked.0 (sym (block_too r a b alike tile) ∙ none)), room_or_least_too tile asked.1)
  asked_in_round_too acts.Advance asked = tt
  asked_in_round_too (acts.Take tile core) asked = absurd asked
  asked_in_round_too (acts.Give tile core) asked = absurd asked
  asked_in_round_too (acts.Abort tile) asked = absurd asked
  asked_in_round_too (acts.Coalesce tile) asked = absurd asked

-- a run that isn't over is so on neither
goes_on_too : (r : IdPermutation) (a b : View) → AreAlike r a b → (IsOver a → ⊥) → IsOver b → ⊥
goes_on_too r a b alike on over = on (over_too (inverse_of r) b a (alike_turned r a b alike) over)

-- a least task that waits on one waits on the other
pub waits_too : (r : IdPermutation) (a b : View) → AreAlike r a b → LeastWaits a → LeastWaits b
waits_too r a b alike (inl idle) =
    let too = least_too r a b alike idle.1 idle.2 idle.3 in
    inl (
      goes_on_too r a b alike idle.0,
      r.to idle.1,
      too.y,
      too.least,
      ap (λ (t : Task). t.status) too.alike.other_is ∙ idle.4,
    )
waits_too r a b alike (inr spilled) =
    inr (goes_on_too r a b alike spilled.0, spilled.1, spilled_too r a b alike spilled.1 spilled.2)

-- where a course goes on at one of the views it does at the other
pub goes_too : (course : Course) (stage : Stage) (r : IdPermutation) (a b : View) → AreAlike r a b
    → GoesOnAt course stage a → GoesOnAt course stage b
goes_too (OfScript script) stage r a b alike goes = tt
goes_too OfLeast stage r a b alike goes = goes_on_too r a b alike goes
goes_too (OfRounds rounds seed most settings) stage r a b alike goes =
    (goes.0, λ over. goes.1 (over_too (inverse_of r) b a (alike_turned r a b alike) over))

pub asked_too : (course : Course) (r : IdPermutation) (a b : View) → AreAlike r a b → (act : Act)
    → IsAskedBy course a act
    → IsAskedBy course b act
asked_too (OfScript script) r a b alike act asked = tt
asked_too OfLeast r a b alike act asked = tt
asked_too (OfRounds rounds seed most settings) r a b alike act asked =
    (goes_on_too r a b alike asked.0, asked_in_round_too r a b alike act asked.1)
