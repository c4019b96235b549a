-- Texts that are written one after another.
use Rattle.std.proofs.Common.{◌≡◌, ◌+◌, ◌≤◌, List, ℕ, ◌++◌, take, length, Result, Ok, Err, arith, length-append}
use Rattle.std.proofs.lemmas.List.{take-append-le}
use Rattle.std.proofs.Math.Seq.{take-append-add}
use Rattle.std.proofs.KnownBytes.{Appends-trans}
use Rattle.sim_io.specs.Parts.{SinkTakes, TakesFront, Writes}
use Rattle.sim_io.specs.Streams.{SinkState}

-- one text and then another
pub SinkTakes-trans : (a b c : SinkState) (x y : List ℕ) → SinkTakes a b x → SinkTakes b c y → SinkTakes a c (x ++ y)
SinkTakes-trans a b c x y first second = Appends-trans a.taken b.taken c.taken x y first second

-- a front of the first text is a front of both
pub TakesFront-more : (a b : SinkState) (x y : List ℕ) → TakesFront a b x → TakesFront a b (x ++ y)
TakesFront-more a b x y h =
    let k = h.count in
    let le : k ≤ length x = h.within in
    record { count = k; within = omega (arith, length-append x y); front = rw (take-append-le k x y le) h.front }

-- the first text, and a front of the second
pub TakesFront-then : (a b c : SinkState) (x y : List ℕ) → SinkTakes a b x → TakesFront b c y → TakesFront a c (x ++ y)
TakesFront-then a b c x y first h =
    let k = h.count in
    let le : k ≤ length y = h.within in
    record {
      count = length x + k;
      within = omega (arith, length-append x y);
      front = rw (take-append-add x y k) (SinkTakes-trans a b c x (take k y) first h.front);
    }

-- a call behind one that wrote its text
pub writes_then : {E F : Type 0} (a b c : SinkState) (r : Result (Unit {0}) E) (q : Result (Unit {0}) F) (x y : List ℕ)
    → r ≡ Ok tt → Writes a b r x → Writes b c q y → Writes a c q (x ++ y)
writes_then a b c (Err e) q x y p h k = let z : ⊥ = cc in absurd z
writes_then a b c (Ok u) (Ok v) x y p h k = record {
  ok = SinkTakes-trans a b c x y h.ok k.ok;
  err = tt;
  cause = record { later = omega (arith, h.cause.later, k.cause.later); failed = tt };
}
writes_then a b c (Ok u) (Err e) x y p h k = record {
  ok = tt;
  err = TakesFront-then a b c x y h.ok k.err;
  cause =
      record {
        later = omega (arith, h.cause.later, k.cause.later);
        failed = omega (arith, h.cause.later, k.cause.failed);
      };
}

-- no call behind one that failed
pub writes_front : {E : Type 0} (a b : SinkState) (r : Result (Unit {0}) E) (e : E) (x y : List ℕ) → r ≡ Err e
    → Writes a b r x → Writes a b r (x ++ y)
writes_front a b (Ok u) e x y p h = let z : ⊥ = cc in absurd z
writes_front a b (Err f) e x y p h = record { ok = tt; err = TakesFront-more a b x y h.err; cause = h.cause }
