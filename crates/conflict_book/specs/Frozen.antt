-- What a frozen book means.
use Rattle.std.specs.Prelude.{ℕ}
use Rattle.guest_image.specs.ImageValue.{ImageValue}
use Rattle.event_step.specs.spec_state.Pendings.{RunLeaves}
use Rattle.conflict_book.specs.declared.freezing.Frozen.{Frozen}

-- what a stopped run of the image left
abbrev pub IsFrozenOf : ImageValue → ℕ → Frozen → Type 0
IsFrozenOf image budget frozen =
    RunLeaves image budget frozen.closed.journal frozen.closed.memory frozen.closed.output frozen.pending
