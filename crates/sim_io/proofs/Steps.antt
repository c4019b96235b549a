-- What two writes took of one piece, and the bytes from a place on, of which the first were copied.
use Rattle.std.proofs.Common.{◌≡◌, ℕ, ◌+◌, ◌≤◌, List, ◌++◌, take, drop, length, ap, sym, ◌∙◌, arith}
use Rattle.std.proofs.lemmas.List.{take_at, drop-drop, take-append-drop, length-drop, length-take-le}
use Rattle.std.proofs.Math.Seq.{take-add}
use Rattle.sim_io.specs.Parts.{SinkTakes}
use Rattle.sim_io.specs.Streams.{SinkState}
use Rattle.sim_io.proofs.Fronts.{SinkTakes-trans}

-- the bytes of one piece that two writes took
pub SinkTakes-take : (a b c : SinkState) (piece : List ℕ) (k n : ℕ) → SinkTakes a b (take k piece)
    → SinkTakes b c (take n (drop k piece)) → SinkTakes a c (take (k + n) piece)
SinkTakes-take a b c piece k n first second = rw (take-add k n piece) (SinkTakes-trans a b c _ _ first second)

-- the bytes from a place on are those copied, and the rest
pub drop-copied : (bytes buf part : List ℕ) (at n : ℕ) → at + n ≤ length bytes → part ≡ take n (drop at bytes)
    → drop at bytes ≡ take n (part ++ drop n buf) ++ drop (at + n) bytes
drop-copied bytes buf part at n fits is =
    let len : length (take n (drop at bytes)) ≡ n = length-take-le n (drop at bytes) (rw length-drop (omega arith)) in
    sym (ap (λ p. take n (p ++ drop n buf) ++ drop (at + n) bytes) is
    ∙ ap (λ p. p ++ drop (at + n) bytes) (take_at (take n (drop at bytes)) (drop n buf) n len)
    ∙ ap (λ p. take n (drop at bytes) ++ p) (sym (drop-drop n at bytes))
    ∙ take-append-drop n (drop at bytes))
