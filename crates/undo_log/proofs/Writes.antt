-- A number written into part of a slice at once, as its bytes set one after another.
use Rattle.std.proofs.Common.{◌≡◌, ℕ, ◌+◌, ◌-◌, ◌/◌, ◌%◌, ◌≤◌, List, [], ◌∷◌, ◌++◌, length, take, drop, refl, ◌∙◌}
use Rattle.std.proofs.Common.{arith, add-one}
use Rattle.std.proofs.lemmas.Grind.{common_steps}
use Rattle.std.proofs.lemmas.List.Edits.{sets-eq}
use Rattle.std.proofs.Math.Seq.{sets}
use borrow.Rule.Slice.PartMut.{put_mid}
use Rattle.undo_log.specs.Number.{after_write}

-- to overwrite the part from the offset on, from its start, is to set the values one after another
overwritten : (bytes : List ℕ) (offset : ℕ) (values part : List ℕ) → offset + length values ≤ length bytes
    → part ≡ values ++ drop (length values) (take (length bytes - offset) (drop offset bytes))
    → put_mid offset (length bytes - offset) bytes part ≡ sets bytes offset values
overwritten bytes offset values part within is = grind (arith, common_steps, is, sets-eq values bytes offset within)

-- two bytes of a number, written at once
pub written_half : (bytes : List ℕ) (offset value : ℕ) (part : List ℕ) → offset + 2 ≤ length bytes
    → part ≡ value % 65536 % 256 ∷ value % 65536 / 256 % 256 ∷ drop 2 (take (length bytes - offset) (drop offset bytes))
    → put_mid offset (length bytes - offset) bytes part ≡ after_write bytes offset 2 value
written_half bytes offset value part within is =
    let low : value % 65536 % 256 ≡ value % 256 = omega arith in
    let high : value % 65536 / 256 % 256 ≡ value / 256 % 256 = omega arith in
    overwritten bytes offset (value % 65536 % 256 ∷ value % 65536 / 256 % 256 ∷ []) part within is
    ∙ rw (low, high, add-one) refl

-- four bytes of a number, written at once
pub written_whole : (bytes : List ℕ) (offset value : ℕ) (part : List ℕ) → offset + 4 ≤ length bytes
    → part ≡ value % 256 ∷ value / 256 % 256 ∷ value / 65536 % 256 ∷ value / 16777216 % 256 ∷ drop 4 (take (length bytes - offset) (drop offset bytes))
    → put_mid offset (length bytes - offset) bytes part ≡ after_write bytes offset 4 value
written_whole bytes offset value part within is =
    let third : value / 65536 ≡ value / 256 / 256 = omega arith in
    let fourth : value / 16777216 ≡ value / 256 / 256 / 256 = omega arith in
    overwritten bytes offset (value % 256 ∷ value / 256 % 256 ∷ value / 65536 % 256 ∷ value / 16777216 % 256 ∷ []) part within is
    ∙ rw (third, fourth) (simp add-one refl)
