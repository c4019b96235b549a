-- The texts of a list's items, written one after another in a loop.
use Rattle.std.proofs.Common.{◌≡◌, ℕ, zero, suc, ◌+◌, ◌<◌, ◌≤◌, List, [], ◌∷◌, ◌++◌, length, take, drop, get_or, Ok}
use Rattle.std.proofs.Common.{Err, refl, arith, append_assoc, append-nil}
use Rattle.std.proofs.Math.Seq.{take-length}
use Rattle.std.specs.List.{flat_map}
use Rattle.sim_io.specs.Parts.{SinkTakes, Writes}
use Rattle.sim_io.specs.Streams.{SinkState}
use Rattle.sim_io.proofs.Fronts.{SinkTakes-trans, TakesFront-more, TakesFront-then}

-- this text was written so far, and the count of faults didn't fall
pub record Wrote (old new : SinkState) (text : List ℕ) : Type 0 where
  pub taken : SinkTakes old new text
  pub later : old.faults ≤ new.faults

-- and then another one
pub wrote_more : {E : Type 0} (a b c : SinkState) (x y : List ℕ) → Wrote a b x → Writes {E = E} b c (Ok tt) y
    → Wrote a c (x ++ y)
wrote_more a b c x y w h =
    record { taken = SinkTakes-trans a b c x y w.taken h.ok; later = omega (arith, w.later, h.cause.later) }

-- and then a front of another one, with more to come
pub wrote_front : {E : Type 0} (a b c : SinkState) (e : E) (x y z : List ℕ) → Wrote a b x → Writes b c (Err e) y
    → Writes a c (Err e) (x ++ (y ++ z))
wrote_front a b c e x y z w h = record {
  ok = tt;
  err = TakesFront-then a b c x (y ++ z) w.taken (TakesFront-more b c y z h.err);
  cause = record { later = omega (arith, w.later, h.cause.later); failed = omega (arith, w.later, h.cause.failed) };
}

-- all of it
pub wrote_whole : {E : Type 0} (a b : SinkState) (x : List ℕ) → Wrote a b x → Writes {E = E} a b (Ok tt) x
wrote_whole a b x w = record { ok = w.taken; err = tt; cause = record { later = w.later; failed = tt } }

-- the texts of one item more
pub flat_map-more : {X : Type 0} (f : X → List ℕ) (xs : List X) (i : ℕ) (d : X) → i < length xs
    → flat_map f (take (i + 1) xs) ≡ flat_map f (take i xs) ++ f (get_or xs i d)
flat_map-more f [] i d h = absurd (omega arith)
flat_map-more f (x ∷ xs) zero d h = append-nil (f x)
flat_map-more f (x ∷ xs) (suc i) d h =
    let lt : i < length xs = omega arith in
    let k : suc i + 1 ≡ suc (i + 1) = omega arith in
    rw (k, flat_map-more f xs i d lt, append_assoc) refl

-- the texts before an item, its own, and those behind it
pub flat_map-split : {X : Type 0} (f : X → List ℕ) (xs : List X) (i : ℕ) (d : X) → i < length xs
    → flat_map f xs ≡ flat_map f (take i xs) ++ (f (get_or xs i d) ++ flat_map f (drop (i + 1) xs))
flat_map-split f [] i d h = absurd (omega arith)
flat_map-split f (x ∷ xs) zero d h = refl
flat_map-split f (x ∷ xs) (suc i) d h =
    let lt : i < length xs = omega arith in
    let k : suc i + 1 ≡ suc (i + 1) = omega arith in
    rw (k, flat_map-split f xs i d lt, append_assoc) refl

-- the items before the i-th were written, and then that one
pub wrote_item : {E X : Type 0} (f : X → List ℕ) (xs : List X) (i : ℕ) (d : X) (a b c : SinkState) → i < length xs
    → Wrote a b (flat_map f (take i xs)) → Writes {E = E} b c (Ok tt) (f (get_or xs i d))
    → Wrote a c (flat_map f (take (i + 1) xs))
wrote_item f xs i d a b c lt w h = rw (flat_map-more f xs i d lt) (wrote_more a b c _ _ w h)

-- and then a front of that one
pub wrote_item_front : {E X : Type 0} (f : X → List ℕ) (xs : List X) (i : ℕ) (d : X) (a b c : SinkState) (e : E)
    → i < length xs
    → Wrote a b (flat_map f (take i xs)) → Writes b c (Err e) (f (get_or xs i d)) → Writes a c (Err e) (flat_map f xs)
wrote_item_front f xs i d a b c e lt w h = rw (flat_map-split f xs i d lt) (wrote_front a b c e _ _ _ w h)

-- all items were written
pub wrote_items : {E X : Type 0} (f : X → List ℕ) (xs : List X) (i : ℕ) (a b : SinkState) → i ≡ length xs
    → Wrote a b (flat_map f (take i xs)) → Writes {E = E} a b (Ok tt) (flat_map f xs)
wrote_items f xs i a b e w =
    let all : take i xs ≡ xs = rw (e, take-length xs) refl in wrote_whole a b (flat_map f xs) (rw all at w)
