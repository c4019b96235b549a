-- To whom a tile's task queue gives room.
use Rattle.std.specs.Prelude.{◌⊎◌, ℕ}
use Rattle.event_basis.specs.spec_state.View.{View}
use Rattle.event_basis.specs.spec_state.Room.{Asker, QueueHasRoom, IsMovable, IsLeastAsker}

-- the tile's task queue has a free place or holds an idle firm task, or who asks for a place does so as the least task
abbrev pub MayEnter : View → ℕ → Asker → Type 0
MayEnter view tile asker =
    QueueHasRoom view tile ⊎ ((id : ℕ) × IsMovable view tile id) ⊎ IsLeastAsker view tile asker
