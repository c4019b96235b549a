-- Drivers: which acts there are, and which of them a driver asks for in a given state of the machine.
use Rattle.std.specs.Prelude.{◌≡◌, ◌≢◌, ◌⊎◌, ◌&&◌, ◌+◌, ◌*◌, ◌/◌, ◌%◌, ◌^◌, ◌<◌, ◌==◌, ℕ, zero, suc}
use Rattle.std.specs.Prelude.{List, [], ◌∷◌, ◌++◌, length}
use Rattle.std.specs.Prelude.{Bool, true, false, map}
use Rattle.std.specs.Prelude.{Some, replicate, slice_get, if◌then◌else◌}
use Rattle.std.specs.declared.option.Option.{Option}
use Rattle.std.specs.List.{flat_map, range_with_len, swap}
use Rattle.watch_counts.specs.spec_state.declared.settings.Settings.{Settings}
use Rattle.watch_counts.specs.spec_state.declared.task.Status.TheVariants.{Finished}
use Rattle.watch_counts.specs.spec_state.declared.task.Task.{Task}
use Rattle.watch_counts.specs.spec_state.Least.{IsLeastSpilled, IsLeastTask, IsTheLeast}
use Rattle.watch_counts.specs.spec_state.Queries.{IsFreeCore, IsLeastIdle, IsRunning}
use Rattle.watch_counts.specs.spec_state.Room.{QueueHasRoom}
use Rattle.watch_counts.specs.spec_state.View.{View, block_at}
use Rattle.watch_counts.specs.spec_state.task_law.Advance as standing
use Rattle.watch_counts.specs.event_def.Advancing.{StandsSo}
use Rattle.watch_counts.specs.event_def.End.{IsOver}
use Rattle.watch_counts.specs.step_script.declared.act.Act.{Act}
use Rattle.watch_counts.specs.step_script.declared.act.Act.TheVariants as acts
use Rattle.watch_counts.specs.watch_text.declared.head.CourseWord.{CourseWord}
use Rattle.watch_counts.specs.watch_text.declared.head.CourseWord.TheVariants as courses

-- the acts of a script; advances of the least task; or so many rounds in lockstep, in an order that is drawn, where the
-- least task is advanced after so many starved rounds in a row
pub data Course : Type 0 where
  OfScript : List Act → Course
  OfLeast : Course
  OfRounds : (rounds seed most : ℕ) → Settings → Course

abbrev pub course_word : Course → CourseWord
course_word (OfScript script) = courses.Steps
course_word OfLeast = courses.Least
course_word (OfRounds rounds seed most settings) = courses.Lockstep rounds seed most

-- the course of a word, with the acts of its script
abbrev pub course_of : CourseWord → Settings → List Act → Course
course_of courses.Steps settings script = OfScript script
course_of courses.Least settings script = OfLeast
course_of (courses.Lockstep rounds seed most) settings script = OfRounds rounds seed most settings

-- ---- the order of a round

-- what a tile does in a round: it dispatches, and each of its cores makes a step
abbrev pub tile_acts : ℕ → ℕ → List Act
tile_acts cores tile = acts.Dispatch tile ∷ map (acts.Step tile) (range_with_len 0 cores)

-- a round: what each tile does, then a commit for each tile, then a split of each
unfoldable pub round_acts : ℕ → ℕ → List Act
round_acts tiles cores =
    flat_map (tile_acts cores) (range_with_len 0 tiles) ++ replicate tiles acts.Commit
    ++ map acts.Split (range_with_len 0 tiles)

-- how many acts that are
abbrev pub round_length : Settings → ℕ
round_length settings = settings.tiles * (settings.cores + 3)

-- the number that is drawn after another
unfoldable pub next_draw : ℕ → ℕ
next_draw drawn = (1664525 * drawn + 1013904223) % 2 ^ 32

-- acts in an order, and the number that was drawn last
pub record Order : Type 0 where
  pub drawn : ℕ
  pub acts : List Act

-- the last of so many acts changes places with one that is drawn among them
abbrev pub with_drawn : ℕ → Order → Order
with_drawn last order = let drawn = next_draw order.drawn in record {
  drawn = drawn;
  acts = swap order.acts last (drawn * (last + 1) / 2 ^ 32);
}

-- so many acts are shuffled, from the last of them on
abbrev pub shuffled : ℕ → Order → Order
shuffled zero order = order
shuffled (suc last) order = shuffled last (with_drawn last order)

-- the order of the next round, which shuffles that of the round before; the seed 0 leaves the acts as they are
unfoldable pub next_order : ℕ → Order → Order
next_order seed order = if seed == 0 then order else shuffled (length order.acts) order

-- ---- the position of a driver

-- the acts of the round that is played, in their order, how many rounds ended before it, and the place of its next act;
-- how many tasks had committed when it began; how many rounds in a row before it were starved; and whether it advances
-- the least task instead. The acts of a script are one round that never ends, and so are the advances of `least`
pub record Stage : Type 0 where
  pub order : Order
  pub round : ℕ
  pub place : ℕ
  pub begun : ℕ
  pub starved : ℕ
  pub forced : Bool

-- where a round begins, in this order
abbrev pub at_round : Order → (round begun starved : ℕ) → Stage
at_round order round begun starved =
    record { order = order; round = round; place = 0; begun = begun; starved = starved; forced = false }

-- where a round begins that advances the least task
abbrev pub at_forced : Order → (round begun : ℕ) → Stage
at_forced order round begun = record (at_round order round begun 0) { forced = true }

-- before the first act, where so many tasks have committed
unfoldable pub first_stage : Course → ℕ → Stage
first_stage (OfScript script) commits = at_round (record { drawn = 0; acts = script }) 0 commits 0
first_stage OfLeast commits = at_forced (record { drawn = 0; acts = [] }) 0 commits
first_stage (OfRounds rounds seed most settings) commits =
    at_round (next_order seed (record { drawn = seed; acts = round_acts settings.tiles settings.cores })) 0 commits 0

-- the next act, where there is one
abbrev pub act_of : Stage → Option Act
act_of stage = if stage.forced then Some acts.Advance else slice_get stage.order.acts stage.place

-- the run goes on, and its least task waits: it is idle or spilled, and so isn't dispatched
abbrev pub LeastWaits : View → Type 0
LeastWaits view = StandsSo view standing.Idle ⊎ StandsSo view standing.Spilled

-- a round that ends where so many tasks have committed is starved, if none did in it and the least task waits
abbrev pub is_starved : Stage → (commits : ℕ) → (waits : Bool) → Bool
is_starved stage commits waits = commits == stage.begun && waits

-- how many rounds in a row are starved, with this one
abbrev pub starved_after : Stage → (commits : ℕ) → (waits : Bool) → ℕ
starved_after stage commits waits = if is_starved stage commits waits then stage.starved + 1 else 0

-- the round that follows, in the next order
abbrev pub following : (seed : ℕ) → Stage → (commits starved : ℕ) → Stage
following seed stage commits starved = at_round (next_order seed stage.order) (stage.round + 1) commits starved

-- the next round: it advances the least task where so many in a row were starved
abbrev pub next_round : (seed most : ℕ) → Stage → (commits : ℕ) → (waits : Bool) → Stage
next_round seed most stage commits waits =
    if starved_after stage commits waits == most then at_forced stage.order (stage.round + 1) commits
    else following seed stage commits (starved_after stage commits waits)

-- after an act, where so many tasks have committed, and the least task waits or doesn't: it is advanced until it
-- doesn't wait; else the next act of the round comes, or the next round
abbrev pub stage_after : (seed most : ℕ) → Stage → (commits : ℕ) → (waits : Bool) → Stage
stage_after seed most stage commits waits =
    if stage.forced then (if waits then stage else following seed stage commits 0)
    else if stage.place + 1 == length stage.order.acts then next_round seed most stage commits waits
    else record stage { place = stage.place + 1 }

abbrev pub next_stage : Course → Stage → (commits : ℕ) → (waits : Bool) → Stage
next_stage (OfScript script) stage commits waits = record stage { place = stage.place + 1 }
next_stage OfLeast stage commits waits = stage
next_stage (OfRounds rounds seed most settings) stage commits waits = stage_after seed most stage commits waits

-- ---- which acts are asked for

-- a tile dispatches its least idle task, where a core is free for it, or it is the least task; a running task makes a
-- step; the least task commits, once it is finished; a tile brings a task back, where there is room for it, or it is
-- the least task; and an advance makes the event for the least task
abbrev pub IsAskedInRound : View → Act → Type 0
IsAskedInRound view (acts.Dispatch tile) =
    (id : ℕ) × (task : Task) × IsLeastIdle view tile id task
    × (((core : ℕ) × IsFreeCore view tile core) ⊎ IsTheLeast view id)
IsAskedInRound view (acts.Step tile core) = (id : ℕ) × (task : Task) × IsRunning view tile core id task
IsAskedInRound view acts.Commit = (id : ℕ) × (task : Task) × IsLeastTask view id task × (task.status ≡ Finished)
IsAskedInRound view (acts.Split tile) =
    (block_at view tile ≢ []) × (QueueHasRoom view tile ⊎ IsLeastSpilled view tile)
IsAskedInRound view acts.Advance = Unit {0}
IsAskedInRound view other = ⊥

-- each act of a script is asked for, and each advance of `least`; in rounds none is once the run is over
abbrev pub IsAskedBy : Course → View → Act → Type 0
IsAskedBy (OfRounds rounds seed most settings) view act = (IsOver view → ⊥) × IsAskedInRound view act
IsAskedBy other view act = Unit {0}

-- ---- the end

-- the driver has a next act: a script up to its last act, and `least` until the run is over; so do rounds, but a round
-- in which the run ends is played to its end
abbrev pub GoesOnAt : Course → Stage → View → Type 0
GoesOnAt (OfScript script) stage view = Unit {0}
GoesOnAt OfLeast stage view = IsOver view → ⊥
GoesOnAt (OfRounds rounds seed most settings) stage view =
    (stage.round < rounds) × (IsOver view → stage.place ≢ 0)

-- it has an act at this stage, and goes on with it; so each story of it has exactly one end
abbrev pub HasNext : Course → Stage → View → Act → Type 0
HasNext course stage view act = (act_of stage ≡ Some act) × GoesOnAt course stage view

-- the driver ends at this stage
abbrev pub EndsAt : Course → Stage → View → Type 0
EndsAt course stage view = (act : Act) → HasNext course stage view act → ⊥
