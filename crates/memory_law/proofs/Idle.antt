-- Idle tasks change nothing of the replay, and where all are idle it is empty.
use Rattle.std.proofs.Common.{◌≡◌, ℕ, Bool, true, false, List, [], ◌∷◌, length, Option, Some, refl, sym, ap, subst, ◌∙◌}
use Rattle.undo_log.specs.Number.{AreBytes}
use Rattle.memory_law.specs.Accesses.{after_accesses, Replays}
use Rattle.memory_law.specs.Tasks.{Logged, IsNoted, AreNotedInFilter, logs, In, Ascends}
use Rattle.memory_law.specs.Chain.{IsReplay}
use Rattle.memory_law.specs.Events.{KeepsDispatched}
use Rattle.memory_law.proofs.Latest.{member_dispatched}

-- an empty log is noted by any filter
pub noted_empty : (size line : ℕ) (task : Logged) → task.log ≡ [] → IsNoted size line task
noted_empty size line task empty = subst (AreNotedInFilter size line task.touched task.wrote) (sym empty) tt

module _ (old new : ℕ → Option Logged) (keeps : KeepsDispatched old new) where
  stays_there : (id : ℕ) (ids : List ℕ) → Ascends old ids → In id ids
      → (task : Logged) × (old id ≡ Some task) × (new id ≡ Some task)
  stays_there id ids up at =
      let runs = member_dispatched old id ids at up in
      (runs.0, runs.1, (keeps.stay id runs.0 runs.2).0 runs.1)

  was_there : (id : ℕ) (other : Logged) (ids : List ℕ) → Ascends old ids → In id ids → new id ≡ Some other
      → old id ≡ Some other
  was_there id other ids up at there =
      let stays = stays_there id ids up at in
      stays.1 ∙ sym stays.2 ∙ there

  same_logs : (ids : List ℕ) → Ascends old ids → logs new ids ≡ logs old ids
  same_logs [] up = refl
  same_logs (id ∷ ids) up =
      let one : new id ≡ old id = (keeps.stay id up.0 up.2).0 up.1 ∙ sym up.1 in
      let rest = same_logs ids up.4 in
      cc

  same_ascent : (ids : List ℕ) → Ascends old ids → Ascends new ids
  same_ascent [] up = tt
  same_ascent (id ∷ ids) up = (
    up.0,
    (keeps.stay id up.0 up.2).0 up.1,
    up.2,
    λ k other at there. up.3 k other at (was_there k other ids up.4 at there),
    same_ascent ids up.4,
  )

  pub idle_keeps : (line : ℕ) (serial memory : List ℕ) → IsReplay line old serial memory
      → IsReplay line new serial memory
  idle_keeps line serial memory replay =
      let same = same_logs replay.ids replay.by_key.ascends in
      record {
        ids = replay.ids;
        by_key = record {
          ascends = same_ascent replay.ids replay.by_key.ascends;
          complete = λ id task there runs. replay.by_key.complete id task ((keeps.stay id task runs).1 there) runs;
        };
        replays = subst (Replays serial) (sym same) replay.replays;
        memory_is = replay.memory_is ∙ ap (after_accesses serial) (sym same);
        noted = λ id task there. by_place id task there task.dispatched refl;
        bytes = replay.bytes;
      }
    where
      by_place : (id : ℕ) (task : Logged) → new id ≡ Some task → (b : Bool) → task.dispatched ≡ b
          → IsNoted (length serial) line task
      by_place id task there true runs = replay.noted id task ((keeps.stay id task runs).1 there)
      by_place id task there false idle = noted_empty (length serial) line task (keeps.idle id task there idle)

pub none_chained : (line : ℕ) (tasks : ℕ → Option Logged) (serial : List ℕ) → AreBytes serial
    → ((id : ℕ) (task : Logged) → tasks id ≡ Some task → (task.dispatched ≡ false) × (task.log ≡ []))
    → IsReplay line tasks serial serial
none_chained line tasks serial bytes idle =
    record {
      ids = [];
      by_key = record { ascends = tt; complete = λ id task there runs. absurd (cc ((idle id task there).0, runs)) };
      replays = tt;
      memory_is = refl;
      noted = λ id task there. noted_empty (length serial) line task (idle id task there).1;
      bytes = bytes;
    }
