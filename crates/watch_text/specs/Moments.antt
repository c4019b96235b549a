-- A log entry: an act that was made, with the book before and after it.
use Rattle.std.specs.Prelude.{◌≡◌, ℕ, Some, None, slice_get, option_map}
use Rattle.std.specs.declared.option.Option.{Option}
use Rattle.guest_image.specs.ImageValue.{ImageValue}
use Rattle.task_request.specs.declared.request.Request.{Request}
use Rattle.script_text.specs.spec_state.declared.task.Task.{Task}
use Rattle.script_text.specs.spec_state.Effects.{EffectValue}
use Rattle.script_text.specs.spec_state.View.{View, cores_at}
use Rattle.script_text.specs.spec_state.Changes.{TakesLeg, request_of}
use Rattle.script_text.specs.spec_state.Least.{IsTheLeast}
use Rattle.script_text.specs.spec_state.Queries.{IsDispatched, IsIdle, IsLatestDispatched, IsLeastIdle}
use Rattle.script_text.specs.event_def.declared.event.Event.TheVariants as event
use Rattle.script_text.specs.event_def.declared.event.Reply.{Reply}
use Rattle.script_text.specs.event_def.Book.{BookView}
use Rattle.script_text.specs.event_def.Causes.{IsStale}
use Rattle.script_text.specs.step_script.declared.act.Act.{Act}
use Rattle.script_text.specs.step_script.Asking.{AsksFor, Attempt, AttemptTells, ComesOf, Hands, Says}
use Rattle.script_text.specs.step_script.Playing.{PlayState}
use Rattle.watch_text.specs.declared.about.About.{About}

-- the number of the act, and the number of its log entry, both from 1; the act, what it asked for, the task that this
-- is about and that task's request; the reply, how many tasks were aborted, what the event did beside its one change,
-- and the book before and after
pub record Moment (N : Type 0) : Type 0 where
  pub at : ℕ
  pub number : ℕ
  pub act : Act
  pub asks : Attempt N
  pub task : Option ℕ
  pub request : Option Request
  pub reply : Reply
  pub aborted : ℕ
  pub effect : EffectValue
  pub old : BookView
  pub new : BookView

-- the id that the code has of the task
abbrev pub task_of : About → Option ℕ
task_of about = option_map (λ id. id.0) about.task

-- the task that an event is about: the one that is dispatched, holds the core, is aborted or commits; None where no
-- task is, and where tasks move between a queue and a block
abbrev pub IsAbout : {N : Type 0} → View → Attempt N → Option ℕ → Type 0
IsAbout view (Says reply) task = task ≡ None
IsAbout view (Hands (event.Dispatch tile)) None = (id : ℕ) (task : Task) → IsIdle view tile id task → ⊥
IsAbout view (Hands (event.Dispatch tile)) (Some id) = (task : Task) × IsLeastIdle view tile id task
IsAbout view (Hands (event.Step tile core leg)) task = slice_get (cores_at view tile) core ≡ Some task
IsAbout view (Hands (event.Abort tile)) None = (id : ℕ) (task : Task) → IsDispatched view tile id task → ⊥
IsAbout view (Hands (event.Abort tile)) (Some id) = (task : Task) × IsLatestDispatched view tile id task
IsAbout view (Hands event.Commit) None = (id : ℕ) → IsTheLeast view id → ⊥
IsAbout view (Hands event.Commit) (Some id) = IsTheLeast view id
IsAbout view (Hands (event.Coalesce tile)) task = task ≡ None
IsAbout view (Hands (event.Split tile)) task = task ≡ None

-- what the task on the core asks for at the end of the leg, where it takes the leg
abbrev pub IsAskedFor : {N : Type 0} → View → Attempt N → Option Request → Type 0
IsAskedFor view (Hands (event.Step tile core leg)) None = IsStale view tile core leg
IsAskedFor view (Hands (event.Step tile core leg)) (Some request) =
    (id : ℕ) × (task : Task) × TakesLeg view tile core leg id task × (request_of view task leg ≡ request)
IsAskedFor view other request = request ≡ None

-- the log entry leads from one of these states of a play to the other: its act has this outcome, and all that the entry
-- says of it is true
pub record IsMoment {N : Type 0} (image : ImageValue) (m : Moment N) (before after : PlayState) : Type 0 where
  pub old_is : m.old ≡ before.book
  pub new_is : m.new ≡ after.book
  pub asked : AsksFor image m.act before m.asks after.held
  pub about : IsAbout m.old.view m.asks m.task
  pub asked_for : IsAskedFor m.old.view m.asks m.request
  pub came : ComesOf m.asks m.reply m.aborted m.old m.new
  pub told : AttemptTells m.asks m.reply m.aborted m.old m.new m.effect
