-- What is read of where the least task stands.
use Rattle.std.specs.Prelude.{ℕ, Option, Some, None}
use Rattle.event_law.specs.spec_state.declared.task.Where.{Where}
use Rattle.event_law.specs.spec_state.declared.task.Where.TheVariants as where_

-- the id of the least task, where it is queued
abbrev pub queued_in : Where → Option ℕ
queued_in (where_.Idle id) = Some id.0
queued_in (where_.Running id) = Some id.0
queued_in (where_.Trapped id) = Some id.0
queued_in (where_.Finished id) = Some id.0
queued_in (where_.Spilled tile) = None

-- its tile, where it is spilled
abbrev pub spilled_in : Where → Option ℕ
spilled_in (where_.Spilled tile) = Some tile
spilled_in other = None

-- it is not trapped
abbrev pub IsUntrapped : Where → Type 0
IsUntrapped (where_.Trapped id) = ⊥
IsUntrapped other = Unit {0}

-- it is not finished
abbrev pub IsUnfinished : Where → Type 0
IsUnfinished (where_.Finished id) = ⊥
IsUnfinished other = Unit {0}
