-- The stage that the code has.
use Rattle.std.specs.Prelude.{◌<◌, ◌≤◌, ◌^◌, ℕ, All, length}
use Rattle.watch_counts.specs.step_script.Ranges.{ActIsInRange}
use Rattle.watch_play.specs.declared.stage.Stage.{Stage}
use Rattle.watch_play.specs.Courses as courses

-- the stage that it stands for
abbrev pub stage_of : Stage → courses.Stage
stage_of s = record {
  order = record { drawn = s.drawn; acts = s.acts.items };
  round = s.round;
  place = s.place;
  begun = s.begun;
  starved = s.starved;
  forced = s.forced;
}

-- after `number` acts no number of a stage is greater than that, so that none of them overflows
pub record IsSmall (number : ℕ) (stage : courses.Stage) : Type 0 where
  pub few : length stage.order.acts < 2 ^ 32
  pub round : stage.round ≤ number
  pub place : stage.place ≤ number
  pub starved : stage.starved ≤ number

-- its acts stand within a machine of so many tiles and cores
abbrev pub AreWithin : (tiles cores : ℕ) → courses.Stage → Type 0
AreWithin tiles cores stage = All (ActIsInRange tiles cores) stage.order.acts
