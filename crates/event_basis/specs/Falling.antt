-- A bound of what is left of the least task's way, up to and with its commit.
use Rattle.std.specs.Prelude.{ℕ, ◌≤◌}
use Rattle.event_law.specs.spec_state.View.{View}
use Rattle.event_law.specs.event_def.Advancing.{HasRest}

-- what is left (`HasRest`) is at most this
abbrev pub RestIsWithin : View → ℕ → Type 0
RestIsWithin view most = (left : ℕ) → HasRest view left → left ≤ most
