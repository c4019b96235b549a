-- How far the least task is from its commit.
use Rattle.std.specs.Prelude.{ℕ, ◌+◌, ◌-◌, ◌<◌, ◌≤◌}

-- how the least task stands: spilled, idle, running with so many instructions used, or finished; or the run is over
pub data Standing : Type 0 where
  Over : Standing
  Finished : Standing
  Running : (used : ℕ) → Standing
  Idle : Standing
  Spilled : Standing

-- what is left of its way to its commit, with a budget of instructions
abbrev pub rest_of_way : ℕ → Standing → ℕ
rest_of_way budget Over = 1
rest_of_way budget Finished = 1
rest_of_way budget (Running used) = budget - used + 2
rest_of_way budget Idle = budget + 3
rest_of_way budget Spilled = budget + 4

-- what an event for the least task makes of it, a commit aside. A trapped least task is an end
pub data StandingMoves (budget : ℕ) : Standing → Standing → Type 0 where
  Split : StandingMoves budget Spilled Idle
  Dispatch : StandingMoves budget Idle (Running 0)
  Step : (used now : ℕ) → used < now → now ≤ budget → StandingMoves budget (Running used) (Running now)
  End_call : (used : ℕ) → StandingMoves budget (Running used) Finished
  Trap : (used : ℕ) → StandingMoves budget (Running used) Over

-- so many events, one after another, a commit aside
pub data MovesOn (budget : ℕ) (first : Standing) : ℕ → Standing → Type 0 where
  stays : MovesOn budget first 0 first
  moves : {n : ℕ} {mid : Standing} (last : Standing) → MovesOn budget first n mid → StandingMoves budget mid last
      → MovesOn budget first (n + 1) last

-- each event for the least task, a commit aside, brings it nearer to its commit or the end
abbrev pub EventsAdvance : Type 0
EventsAdvance = (budget : ℕ) (old new : Standing) → StandingMoves budget old new
    → rest_of_way budget new < rest_of_way budget old

-- at most budget + 3 events for the least task come before its commit or the end
abbrev pub AdvancesAreFew : Type 0
AdvancesAreFew = (budget n : ℕ) (first last : Standing) → MovesOn budget first n last → n ≤ budget + 3
