-- Views, and books of them, that are alike: the same but for the ids of tasks, what follows the last task, and how a
-- filter holds its lines.
use Rattle.std.specs.Prelude.{◌≡◌, ℕ, map, Option, Some, None, option_map}
use Rattle.step_script.specs.spec_state.declared.task.Creator.{Creator}
use Rattle.step_script.specs.spec_state.declared.task.Creator.TheVariants.{Committed, Live}
use Rattle.step_script.specs.spec_state.declared.task.Task.{Task}
use Rattle.step_script.specs.spec_state.Filters.{has_touched, has_written}
use Rattle.step_script.specs.spec_state.View.{View, task_at}
use Rattle.step_script.specs.event_def.Book.{BookView}

-- each id is given an id, maybe the same, and no two are given the same one: all ids, so that it maps lists of them,
-- and a new task swaps two of them
pub record IdPermutation : Type 0 where
  pub to : ℕ → ℕ
  pub from : ℕ → ℕ
  pub back : (k : ℕ) → from (to k) ≡ k
  pub forth : (k : ℕ) → to (from k) ≡ k

-- the ids the other way round
abbrev pub inverse_of : IdPermutation → IdPermutation
inverse_of r = record { to = r.from; from = r.to; back = r.forth; forth = r.back }

-- the creator under the id that it is given
abbrev pub permuted_creator : (ℕ → ℕ) → Creator → Creator
permuted_creator to (Committed turn index) = Committed turn index
permuted_creator to (Live task index) = Live (record { 0 = to task.0 }) index

-- the second task is the first one, its creator has the other id, and its filter answers alike
pub record IsAlikeTask (to : ℕ → ℕ) (x y : Task) : Type 0 where
  pub other_is : y ≡ record x { creator = permuted_creator to x.creator; lines = y.lines }
  pub touched : (line : ℕ) → has_touched y line ≡ has_touched x line
  pub written : (line : ℕ) → has_written y line ≡ has_written x line

-- what is under one id in two views that are alike
abbrev pub IsAlikeAt : (ℕ → ℕ) → Option Task → Option Task → Type 0
IsAlikeAt to None None = Unit {0}
IsAlikeAt to (Some x) (Some y) = IsAlikeTask to x y
IsAlikeAt to None (Some y) = ⊥
IsAlikeAt to (Some x) None = ⊥

-- the second view is the first one under other ids
pub record AreAlike (r : IdPermutation) (a b : View) : Type 0 where
  pub tasks : (k : ℕ) → IsAlikeAt r.to (task_at a k) (task_at b (r.to k))
  pub queues : b.queues ≡ map (map r.to) a.queues
  pub finished : b.finished ≡ map (map r.to) a.finished
  pub cores : b.cores ≡ map (map (option_map r.to)) a.cores
  pub frame : b ≡ record a { tasks = b.tasks; queues = b.queues; finished = b.finished; cores = b.cores }

-- books that are alike: their views are, and all else is the same
pub record AreAlikeBooks (r : IdPermutation) (a b : BookView) : Type 0 where
  pub view : AreAlike r a.view b.view
  pub placers : b.placers ≡ a.placers
  pub taps : b.taps ≡ a.taps
  pub steps : b.steps ≡ a.steps
  pub stopped : b.stopped ≡ a.stopped
