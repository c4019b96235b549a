use Rattle.std.proofs.Common.{◌≡◌, ℕ, option_map}
use Rattle.std.specs.Prelude.{IfSome, IsNone}
use Rattle.spec_state.specs.Room.{Enqueuer, asker_of}
use Rattle.spec_commit.specs.Latest.{IsAmong, IsLatestOther}
use Rattle.spec_commit.proofs.victim.latest_other.Given as goal

abbrev pub invariant-loop-id : goal.invariant-loop-id
invariant-loop-id g l = record {
  some : IfSome l.latest (IsLatestOther l.state.view l.tile (asker_of (option_map (λ id. id.0) l.asker)) l.id-index);
  none : IsNone l.latest → (id : ℕ) → IsAmong l.state.view l.tile l.id-index id
      → asker_of (option_map (λ id. id.0) l.asker) ≡ Enqueuer id;
}
