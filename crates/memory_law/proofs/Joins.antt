-- Taking back a closed set of logs, and the accesses that join them.
use Rattle.std.proofs.Common.{◌≡◌, ℕ, ◌+◌, ◌≤◌, true, false, List, [], ◌∷◌, ◌++◌, length, Some, None, refl, sym, ap}
use Rattle.std.proofs.Common.{◌∙◌, arith}
use Rattle.undo_log.specs.declared.access.Access.{Access}
use Rattle.undo_log.specs.Number.{number_at, after_write, AreBytes}
use Rattle.undo_log.specs.Undo.{undone}
use Rattle.memory_law.specs.Accesses.{written_if, after_access, after_accesses, FindsOldValue, Replays}
use Rattle.memory_law.proofs.Marks.{Untouched, Unwritten, Marks, all_of, kept_of, without, IsClosed}
use Rattle.memory_law.proofs.Replays.{Skipped, Replays-append, Replays-front, Replays-back, after_accesses-append}
use Rattle.memory_law.proofs.Replays.{AreBytes-after_access, length-after_access, replayed_comm, Replays_comm}
use Rattle.memory_law.proofs.Replays.{number_at-after_accesses}

pub AreBytes-after_accesses : (m : List ℕ) (log : List Access) → AreBytes m → AreBytes (after_accesses m log)
AreBytes-after_accesses m [] bytes = bytes
AreBytes-after_accesses m (a ∷ log) bytes =
    AreBytes-after_accesses (after_access m a) log (AreBytes-after_access m a bytes)

-- a closed set of logs leaves the chain, and taking it back gives what the rest makes
pub taken_back_closed : (m : List ℕ) (ts : Marks) → AreBytes m → IsClosed ts → Replays m (all_of ts)
    → Replays m (kept_of ts) × (without (after_accesses m (all_of ts)) ts ≡ after_accesses m (kept_of ts))
taken_back_closed m [] bytes closed chain = (chain, refl)
taken_back_closed m ((false, log) ∷ rest) bytes closed chain =
    let first = Replays-front m log (all_of rest) chain in
    let later = taken_back_closed (after_accesses m log) rest (AreBytes-after_accesses m log bytes) closed (Replays-back m log (all_of rest) chain) in (
      Replays-append m log (kept_of rest) first later.0,
      ap (λ n. without n rest) (after_accesses-append m log (all_of rest)) ∙ later.1
          ∙ sym (after_accesses-append m log (kept_of rest)),
    )
taken_back_closed m ((true, log) ∷ rest) bytes closed chain =
    let first = Replays-front m log (all_of rest) chain in
    let later = taken_back_closed (after_accesses m log) rest (AreBytes-after_accesses m log bytes) closed.1 (Replays-back m log (all_of rest) chain) in
    let skipped = Skipped m bytes log (kept_of rest) closed.0 (Replays-append m log (kept_of rest) first later.0) in (
      skipped.0,
      ap (λ n. undone log (without n rest)) (after_accesses-append m log (all_of rest))
          ∙ ap (undone log) (later.1 ∙ sym (after_accesses-append m log (kept_of rest)))
          ∙ skipped.1,
    )

pub length-after_accesses : (m : List ℕ) (log : List Access) → length (after_accesses m log) ≡ length m
length-after_accesses m [] = refl
length-after_accesses m (a ∷ log) = length-after_accesses (after_access m a) log ∙ length-after_access m a

-- an access joins the end of a log below later ones that did not write there
joined_fits : (m : List ℕ) (front back : List Access) (a : Access) → a.offset + a.width ≤ length m
    → a.old ≡ number_at (after_accesses m (front ++ back)) a.offset a.width → Unwritten a.offset a.width back
    → FindsOldValue (after_accesses m front) a
joined_fits m front back a within old clear =
    record {
      within = omega (arith, within, length-after_accesses m front);
      old_is =
          old ∙ ap (λ n. number_at n a.offset a.width) (after_accesses-append m front back)
          ∙ number_at-after_accesses (after_accesses m front) a.offset a.width back clear;
    }

-- a load joins the end of a log below later ones that did not write there
pub load_joins : (m : List ℕ) (front back : List Access) (a : Access) → a.new ≡ None → a.offset + a.width ≤ length m
    → a.old ≡ number_at (after_accesses m (front ++ back)) a.offset a.width → Unwritten a.offset a.width back
    → Replays m (front ++ back)
    → Replays m (front ++ a ∷ back) × (after_accesses m (front ++ a ∷ back) ≡ after_accesses m (front ++ back))
load_joins m front back a is_load within old clear chain =
    let same : after_access (after_accesses m front) a ≡ after_accesses m front = ap (written_if (after_accesses m front) a.offset a.width) is_load in
    let fits = joined_fits m front back a within old clear in
    let later : Replays (after_access (after_accesses m front) a) back = rw same (Replays-back m front back chain) in (
      Replays-append m front (a ∷ back) (Replays-front m front back chain) (fits, later),
      after_accesses-append m front (a ∷ back) ∙ ap (λ n. after_accesses n back) same
          ∙ sym (after_accesses-append m front back),
    )

-- a store joins the end of a log below later ones that did not touch there
pub store_joins : (m : List ℕ) (front back : List Access) (a : Access) (v : ℕ) → a.new ≡ Some v
    → a.offset + a.width ≤ length m → a.old ≡ number_at (after_accesses m (front ++ back)) a.offset a.width
    → Untouched a.offset a.width back → Unwritten a.offset a.width back → Replays m (front ++ back)
    → Replays m (front ++ a ∷ back) × (after_accesses m (front ++ a ∷ back) ≡ after_write (after_accesses m (front ++ back)) a.offset a.width v)
store_joins m front back a v is_store within old clear apart chain =
    let put : after_access (after_accesses m front) a ≡ after_write (after_accesses m front) a.offset a.width v = ap (written_if (after_accesses m front) a.offset a.width) is_store in
    let fits = joined_fits m front back a within old apart in
    let later : Replays (after_access (after_accesses m front) a) back = rw put (Replays_comm (after_accesses m front) a.offset a.width v back clear (Replays-back m front back chain)) in (
      Replays-append m front (a ∷ back) (Replays-front m front back chain) (fits, later),
      after_accesses-append m front (a ∷ back) ∙ ap (λ n. after_accesses n back) put
          ∙ replayed_comm (after_accesses m front) a.offset a.width v back clear
          ∙ ap (λ n. after_write n a.offset a.width v) (sym (after_accesses-append m front back)),
    )
