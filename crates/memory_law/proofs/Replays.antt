-- Logs that chain: what a write or a read apart from them meets, two logs one after the other, and a log that leaves.
use Rattle.std.proofs.Common.{◌≡◌, ℕ, List, [], ◌∷◌, ◌++◌, length, Option, Some, None, refl, sym, ap, ◌∙◌, arith}
use Rattle.undo_log.specs.declared.access.Access.{Access}
use Rattle.undo_log.specs.Number.{number_at, after_write, AreBytes}
use Rattle.undo_log.specs.Undo.{after_restore, access_undone, undone}
use Rattle.memory_law.specs.Accesses.{written_if, after_access, after_accesses, FindsOldValue, Replays, Apart}
use Rattle.memory_law.proofs.Marks.{Untouched, ApartIfStore, Unwritten, UntouchedIfStore, Clear}
use Rattle.undo_log.proofs.Proved.{AreBytes-after_write, length-after_write, number_at-written_apart}
use Rattle.undo_log.proofs.Proved.{after_write-restored, written_comm}

length-accessed_by : (m : List ℕ) (o w : ℕ) (n : Option ℕ) → length (written_if m o w n) ≡ length m
length-accessed_by m o w None = refl
length-accessed_by m o w (Some v) = length-after_write m o w v

pub length-after_access : (m : List ℕ) (a : Access) → length (after_access m a) ≡ length m
length-after_access m a = length-accessed_by m a.offset a.width a.new

AreBytes-accessed_by : (m : List ℕ) (o w : ℕ) (n : Option ℕ) → AreBytes m → AreBytes (written_if m o w n)
AreBytes-accessed_by m o w None bytes = bytes
AreBytes-accessed_by m o w (Some v) bytes = AreBytes-after_write m o w v bytes

pub AreBytes-after_access : (m : List ℕ) (a : Access) → AreBytes m → AreBytes (after_access m a)
AreBytes-after_access m a = AreBytes-accessed_by m a.offset a.width a.new

accessed_by_comm : (m : List ℕ) (o w v b u : ℕ) (n : Option ℕ) → Apart o w b u
    → written_if (after_write m o w v) b u n ≡ after_write (written_if m b u n) o w v
accessed_by_comm m o w v b u None apart = refl
accessed_by_comm m o w v b u (Some y) apart = written_comm m o w v b u y apart

accessed_comm : (m : List ℕ) (o w v : ℕ) (a : Access) → Apart o w a.offset a.width
    → after_access (after_write m o w v) a ≡ after_write (after_access m a) o w v
accessed_comm m o w v a = accessed_by_comm m o w v a.offset a.width a.new

-- a write that a log does not touch, before it or after it
pub replayed_comm : (m : List ℕ) (o w v : ℕ) (log : List Access) → Untouched o w log
    → after_accesses (after_write m o w v) log ≡ after_write (after_accesses m log) o w v
replayed_comm m o w v [] clear = refl
replayed_comm m o w v (a ∷ log) clear =
    ap (λ n. after_accesses n log) (accessed_comm m o w v a clear.0)
    ∙ replayed_comm (after_access m a) o w v log clear.1

Fits_comm : (m : List ℕ) (o w v : ℕ) (a : Access) → Apart o w a.offset a.width → FindsOldValue m a
    → FindsOldValue (after_write m o w v) a
Fits_comm m o w v a apart fits =
    record {
      within = omega (arith, fits.within, length-after_write m o w v);
      old_is = fits.old_is ∙ sym (number_at-written_apart m o w v a.offset a.width apart);
    }

pub Replays_comm : (m : List ℕ) (o w v : ℕ) (log : List Access) → Untouched o w log → Replays m log
    → Replays (after_write m o w v) log
Replays_comm m o w v [] clear chain = tt
Replays_comm m o w v (a ∷ log) clear chain = (
  Fits_comm m o w v a clear.0 chain.0,
  rw (accessed_comm m o w v a clear.0) (Replays_comm (after_access m a) o w v log clear.1 chain.1),
)

-- a number that no store of the log shares a byte with is as it was
number_at-accessed_by : (m : List ℕ) (o w b u : ℕ) (n : Option ℕ) → ApartIfStore o w b u n
    → number_at (written_if m b u n) o w ≡ number_at m o w
number_at-accessed_by m o w b u None apart = refl
number_at-accessed_by m o w b u (Some y) apart = number_at-written_apart m b u y o w (grind arith)

pub number_at-after_accesses : (m : List ℕ) (o w : ℕ) (log : List Access) → Unwritten o w log
    → number_at (after_accesses m log) o w ≡ number_at m o w
number_at-after_accesses m o w [] clear = refl
number_at-after_accesses m o w (a ∷ log) clear =
    number_at-after_accesses (after_access m a) o w log clear.1
    ∙ number_at-accessed_by m o w a.offset a.width a.new clear.0

-- replaying and chaining over two logs, one after the other
pub after_accesses-append : (m : List ℕ) (xs ys : List Access)
    → after_accesses m (xs ++ ys) ≡ after_accesses (after_accesses m xs) ys
after_accesses-append m [] ys = refl
after_accesses-append m (a ∷ xs) ys = after_accesses-append (after_access m a) xs ys

pub Replays-append : (m : List ℕ) (xs ys : List Access) → Replays m xs → Replays (after_accesses m xs) ys
    → Replays m (xs ++ ys)
Replays-append m [] ys first second = second
Replays-append m (a ∷ xs) ys first second = (first.0, Replays-append (after_access m a) xs ys first.1 second)

pub Replays-front : (m : List ℕ) (xs ys : List Access) → Replays m (xs ++ ys) → Replays m xs
Replays-front m [] ys chain = tt
Replays-front m (a ∷ xs) ys chain = (chain.0, Replays-front (after_access m a) xs ys chain.1)

pub Replays-back : (m : List ℕ) (xs ys : List Access) → Replays m (xs ++ ys) → Replays (after_accesses m xs) ys
Replays-back m [] ys chain = chain
Replays-back m (a ∷ xs) ys chain = Replays-back (after_access m a) xs ys chain.1

-- one access is taken back below a later log that is clear of it
module _ (m : List ℕ) (bytes : AreBytes m) (later : List Access) where
  skip_chained : (o w : ℕ) (n : Option ℕ) → UntouchedIfStore o w n later → Replays (written_if m o w n) later
      → Replays m later
  skip_chained o w None clear chain = chain
  skip_chained o w (Some v) clear chain =
      let back = after_write-restored m o w v bytes in
      rw back at (Replays_comm (after_write m o w v) o w (number_at m o w) later clear chain)

  skip_replayed : (o w : ℕ) (n : Option ℕ) → UntouchedIfStore o w n later
      → after_restore o w (number_at m o w) n (after_accesses (written_if m o w n) later) ≡ after_accesses m later
  skip_replayed o w None clear = refl
  skip_replayed o w (Some v) clear =
      sym (replayed_comm (after_write m o w v) o w (number_at m o w) later clear)
      ∙ ap (λ n. after_accesses n later) (after_write-restored m o w v bytes)

-- a log that later ones are clear of leaves the chain, and taking it back gives what the rest makes
pub Skipped : (m : List ℕ) → AreBytes m → (log later : List Access) → Clear log later → Replays m (log ++ later)
    → Replays m later × (undone log (after_accesses m (log ++ later)) ≡ after_accesses m later)
Skipped m bytes [] later clear chain = (chain, refl)
Skipped m bytes (a ∷ log) later clear chain =
    let rest = Skipped (after_access m a) (AreBytes-after_access m a bytes) log later clear.1 chain.1 in (
      skip_chained m bytes later a.offset a.width a.new clear.0 rest.0,
      ap (access_undone a) rest.1
          ∙ ap (λ old. after_restore a.offset a.width old a.new
          (after_accesses (after_access m a) later)) chain.0.old_is
          ∙ skip_replayed m bytes later a.offset a.width a.new clear.0,
    )
