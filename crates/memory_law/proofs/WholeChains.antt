-- The laws, over the chain of each byte.
use Rattle.std.proofs.Common.{Bool, ◌≡◌, ℕ, true, refl, List, length, Option, sym, ap, subst, ◌∙◌, false, Some}
use Rattle.std.specs.Prelude.{slice_index}
use Rattle.memory_law.specs.ByteChain.{byte_accesses, IsByteChain}
use Rattle.memory_law.specs.Accesses.{after_accesses}
use Rattle.memory_law.specs.Tasks.{Logged, logs, undone_set}
use Rattle.memory_law.specs.Chain.{IsChained, IsReplay}
use Rattle.memory_law.specs.Laws.{ChainIsReplay, LoadKeepsChain, StoreKeepsChain, AbortKeepsChain, DispatchKeepsChain}
use Rattle.memory_law.specs.Laws.{CommitKeepsChain, AllLogsUndoneIsSerial, UndispatchedIsChained, IdleTasksKeepChain}
use Rattle.memory_law.specs.Laws.{LatestFirst, LinesShareNoByte, NoConflictIsLeft}
use Rattle.memory_law.proofs.Joins.{length-after_accesses}
use Rattle.memory_law.proofs.ByteChains.{inside-of_replay, bytes-of_replay, replay-of_bytes}
use Rattle.memory_law.proofs.Orders.{one_order}
use Rattle.memory_law.proofs.Aborts.{taken_back, all_back}
use Rattle.memory_law.proofs.Access.{load_keeps, store_keeps}
use Rattle.memory_law.proofs.Lines.{lines_apart}
use Rattle.memory_law.proofs.Idle.{idle_keeps, none_chained}
use Rattle.memory_law.proofs.Latest.{latest_first}
use Rattle.memory_law.proofs.Heads.{dispatch_keeps, commit_keeps}

module _ (line : ℕ) (tasks : ℕ → Option Logged) (serial memory : List ℕ) where
  pub to_replay : IsChained line tasks serial memory → IsReplay line tasks serial memory
  to_replay c =
      let both = replay-of_bytes serial memory (logs tasks c.ids) c.bytes c.inside c.size c.chain in
      record { ids = c.ids; by_key = c.by_key; replays = both.0; memory_is = both.1; noted = c.noted; bytes = c.bytes }

  pub to_chain : IsReplay line tasks serial memory → IsChained line tasks serial memory
  to_chain r =
      record {
        ids = r.ids;
        by_key = r.by_key;
        inside = inside-of_replay serial (logs tasks r.ids) r.bytes r.replays;
        size = ap length r.memory_is ∙ length-after_accesses serial (logs tasks r.ids);
        chain =
            λ k. subst (λ m. IsByteChain (slice_index serial k) (byte_accesses k (logs tasks r.ids)) (slice_index m k)) (sym r.memory_is) (bytes-of_replay serial (logs tasks r.ids) k r.bytes r.replays);
        noted = r.noted;
        bytes = r.bytes;
      }

pub chain_is_replay : ChainIsReplay
chain_is_replay line tasks serial memory = (to_replay line tasks serial memory, to_chain line tasks serial memory)

pub load_keeps_chain : LoadKeepsChain
load_keeps_chain line old new id was now access serial memory sized accesses is_load none chained =
    to_chain line new serial memory (load_keeps line memory old new id was now access accesses serial sized is_load none (to_replay line old serial memory chained))

pub store_keeps_chain : StoreKeepsChain
store_keeps_chain line old new id was now access value serial memory sized accesses is_store none chained =
    to_chain line new serial _ (store_keeps line memory old new id was now access accesses serial value sized is_store none (to_replay line old serial memory chained))

pub abort_keeps_chain : AbortKeepsChain
abort_keeps_chain line set old new ids serial memory sized holds takes by_key chained =
    let replay = to_replay line old serial memory chained in
    let same : replay.ids ≡ ids = one_order old replay.ids ids replay.by_key by_key in
    subst (λ order. IsChained line new serial (undone_set set old order memory)) same (to_chain line new serial _ (taken_back line set old new serial memory sized holds takes replay))

pub dispatch_keeps_chain : DispatchKeepsChain
dispatch_keeps_chain line old new id now serial memory dispatches chained =
    to_chain line new serial memory (dispatch_keeps old new id now dispatches line serial memory (to_replay line old serial memory chained))

pub commit_keeps_chain : CommitKeepsChain
commit_keeps_chain line old new id task serial memory commits chained =
    let both = commit_keeps old new id task commits line serial memory (to_replay line old serial memory chained) in
    (both.0, to_chain line new (after_accesses serial task.log) memory both.1)

pub all_undone_is_serial : AllLogsUndoneIsSerial
all_undone_is_serial line tasks ids serial memory by_key chained =
    let replay = to_replay line tasks serial memory chained in
    let same : replay.ids ≡ ids = one_order tasks replay.ids ids replay.by_key by_key in
    subst (λ order. undone_set (λ id. true) tasks order memory ≡ serial) same (all_back line tasks serial memory replay)

pub undispatched_is_chained : UndispatchedIsChained
undispatched_is_chained line tasks serial bytes idle =
    to_chain line tasks serial serial (none_chained line tasks serial bytes idle)

pub idle_tasks_keep_chain : IdleTasksKeepChain
idle_tasks_keep_chain line old new serial memory keeps chained =
    to_chain line new serial memory (idle_keeps old new keeps line serial memory (to_replay line old serial memory chained))

pub latest_is_first : LatestFirst
latest_is_first set tasks id task ids memory by_key latest =
    latest_first set tasks id task latest ids memory by_key.ascends (by_key.complete id task latest.there latest.dispatched)

pub lines_share_no_byte : LinesShareNoByte
lines_share_no_byte size line offset width other wide sized first second differ =
    lines_apart size offset width other wide line sized first second differ

pub no_conflict_is_left : NoConflictIsLeft
no_conflict_is_left set old new task at takes = (
  λ holds k other there runs later. by_answer k other there runs (other.wrote at) (other.wrote at) refl (holds k other (was k other there runs) runs later),
  λ holds k other there runs later. by_answer k other there runs (other.touched at) (other.touched at) refl (holds k other (was k other there runs) runs later),
)
  where
    stays : (k : ℕ) (other : Logged) → new k ≡ Some other → other.dispatched ≡ true → (b : Bool) → set k ≡ b
        → set k ≡ false
    stays k other there runs true is = absurd (cc ((takes.members k other is there).0, runs))
    stays k other there runs false is = is

    was : (k : ℕ) (other : Logged) → new k ≡ Some other → other.dispatched ≡ true → old k ≡ Some other
    was k other there runs = sym (takes.others k (stays k other there runs (set k) refl)) ∙ there

    by_answer : (k : ℕ) (other : Logged) → new k ≡ Some other → other.dispatched ≡ true → (answer : Bool) → (b : Bool)
        → answer ≡ b → (answer ≡ true → set k ≡ true) → answer ≡ false
    by_answer k other there runs answer true is member = absurd (cc (member is, stays k other there runs (set k) refl))
    by_answer k other there runs answer false is member = is
