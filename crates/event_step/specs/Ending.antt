-- Whether a task in a commit queue is later than one that makes its end call, and what that call reports.
use Rattle.std.specs.Prelude.{◌≡◌, ◌↔◌, ℕ, Bool, None, IsTrue, IfSome}
use Rattle.std.specs.declared.cmp.Ordering.TheVariants.{Less}
use Rattle.fractal_vt.specs.Keys.{key_cmp}
use Rattle.rv_core.specs.LegValue.{LegValue}
use Rattle.event_prelude.specs.spec_state.declared.task.Task.{Task}
use Rattle.event_prelude.specs.spec_state.Effects.{EffectValue}
use Rattle.event_prelude.specs.spec_state.View.{View, task_at}
use Rattle.event_prelude.specs.spec_state.Queries.{IsFinished, IsLater, IsLatestFinished}
use Rattle.event_prelude.specs.event_def.Events.{EndEvent}
use Rattle.event_prelude.specs.event_def.Telling.{TellsCommit}

-- the task of this id is the latest one in the commit queue of the tile, and is later than the given one
abbrev pub HasLater : View → ℕ → ℕ → Task → Type 0
HasLater view tile last task = (x : Task) × IsLatestFinished view tile last x × IsLater view task last x

-- no task in the commit queue of the tile is later
abbrev pub HasNoLater : View → ℕ → Task → Type 0
HasNoLater view tile task = (k : ℕ) (x : Task) → IsFinished view tile k x → IsLater view task k x → ⊥

-- the answer is whether the task of this id has a greater key than the given task
abbrev pub SaysLater : View → ℕ → Task → Bool → Type 0
SaysLater view other task answer = IfSome (task_at view other) (λ x. IsTrue answer ↔ (key_cmp task.key x.key ≡ Less))

-- an end call, which reports what was aborted for it
abbrev pub EndsTelling : ℕ → ℕ → LegValue → ℕ → Task → View → ℕ → View → EffectValue → Type 0
EndsTelling tile core leg id task old aborted new effect =
    (ends : EndEvent tile core leg id task old aborted new)
    × TellsCommit tile task old aborted ends.mid ends.forced effect × (effect.arrived ≡ None)
