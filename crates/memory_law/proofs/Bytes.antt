-- A lemma on numbers kept in bytes, beyond those of the log's crate.
use Rattle.std.proofs.Common.{ℕ, zero, suc, ◌+◌, ◌^◌, ◌<◌, List, arith}
use Rattle.std.proofs.Math.Nat.{pow-suc}
use Rattle.undo_log.specs.Number.{number_at, AreBytes}

-- a number in so many bytes is below that power of 256
pub number_at-below : (bytes : List ℕ) (offset width : ℕ) → AreBytes bytes → number_at bytes offset width < 256 ^ width
number_at-below bytes offset zero small = omega arith
number_at-below bytes offset (suc width) small =
    let rest = number_at-below bytes (offset + 1) width small in
    omega (arith, rest, small offset, pow-suc 256 width)
