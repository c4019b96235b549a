-- Numbers kept in bytes, and what a write of one leaves of them.
use Rattle.std.proofs.Common.{◌≡◌, ◌≢◌, ◌⊎◌, ℕ, zero, suc, ◌+◌, ◌*◌, ◌/◌, ◌%◌, ◌<◌, ◌≤◌, List, length, get_or, set}
use Rattle.std.proofs.Common.{refl, sym, ap, ◌∙◌, inl, inr, arith}
use Rattle.std.proofs.lemmas.Grind.{common_steps}
use Rattle.std.proofs.lemmas.List.{get_or-set_other, length-set, set-get_or, set-set, set_comm}
use Rattle.std.proofs.Math.Nat.{div-add-mod}
use Rattle.undo_log.specs.Number.{number_at, after_write, AreBytes}

pub length-after_write : (bytes : List ℕ) (offset width value : ℕ)
    → length (after_write bytes offset width value) ≡ length bytes
length-after_write bytes offset zero value = refl
length-after_write bytes offset (suc width) value =
    length-after_write (set bytes offset (value % 256)) (offset + 1) width (value / 256)
    ∙ length-set bytes offset (value % 256)

-- a byte before or behind the range stays
pub get_or-written_before : (bytes : List ℕ) (offset width value k : ℕ) → k < offset
    → get_or (after_write bytes offset width value) k 0 ≡ get_or bytes k 0
get_or-written_before bytes offset zero value k before = refl
get_or-written_before bytes offset (suc width) value k before =
    get_or-written_before (set bytes offset (value % 256)) (offset + 1) width (value / 256) k (omega arith)
    ∙ get_or-set_other bytes offset k (value % 256) 0 (omega arith)

pub get_or-written_behind : (bytes : List ℕ) (offset width value k : ℕ) → offset + width ≤ k
    → get_or (after_write bytes offset width value) k 0 ≡ get_or bytes k 0
get_or-written_behind bytes offset zero value k behind = refl
get_or-written_behind bytes offset (suc width) value k behind =
    get_or-written_behind (set bytes offset (value % 256)) (offset + 1) width (value / 256) k (omega arith)
    ∙ get_or-set_other bytes offset k (value % 256) 0 (omega arith)

-- a number depends on its bytes alone
pub number_at-same : (xs ys : List ℕ) (offset width : ℕ)
    → ((k : ℕ) → offset ≤ k → k < offset + width → get_or xs k 0 ≡ get_or ys k 0)
    → number_at xs offset width ≡ number_at ys offset width
number_at-same xs ys offset zero same = refl
number_at-same xs ys offset (suc width) same =
    let low : get_or xs offset 0 ≡ get_or ys offset 0 = same offset (omega arith) (omega arith) in
    let rest : number_at xs (offset + 1) width ≡ number_at ys (offset + 1) width = number_at-same xs ys (offset + 1) width (λ k from below. same k (omega arith) (omega arith)) in
    cc

-- a number stays where another range is written
pub number_at-written_apart : (bytes : List ℕ) (offset width value other size : ℕ)
    → (offset + width ≤ other) ⊎ (other + size ≤ offset)
    → number_at (after_write bytes offset width value) other size ≡ number_at bytes other size
number_at-written_apart bytes offset width value other size (inl before) =
    number_at-same _ _ other size (λ k from below. get_or-written_behind bytes offset width value k (omega arith))
number_at-written_apart bytes offset width value other size (inr behind) =
    number_at-same _ _ other size (λ k from below. get_or-written_before bytes offset width value k (omega arith))

-- one byte written outside a range, before or after a number in it
pub after_write-set : (bytes : List ℕ) (offset width value k byte : ℕ) → (k < offset) ⊎ (offset + width ≤ k)
    → after_write (set bytes k byte) offset width value ≡ set (after_write bytes offset width value) k byte
after_write-set bytes offset zero value k byte outside = refl
after_write-set bytes offset (suc width) value k byte outside =
    let other : k ≢ offset = omega arith in
    let inner : (k < offset + 1) ⊎ (offset + 1 + width ≤ k) = grind arith in
    ap (λ b. after_write b (offset + 1) width (value / 256)) (set_comm bytes k offset byte (value % 256) other)
    ∙ after_write-set (set bytes offset (value % 256)) (offset + 1) width (value / 256) k byte inner

-- numbers written to two ranges that share no byte, in either order
pub written_comm : (bytes : List ℕ) (offset width value other size value' : ℕ)
    → (offset + width ≤ other) ⊎ (other + size ≤ offset)
    → after_write (after_write bytes offset width value) other size value' ≡ after_write (after_write bytes other size value') offset width value
written_comm bytes offset width value other zero value' apart = refl
written_comm bytes offset width value other (suc size) value' apart =
    let outside : (other < offset) ⊎ (offset + width ≤ other) = grind arith in
    let inner : (offset + width ≤ other + 1) ⊎ (other + 1 + size ≤ offset) = grind arith in
    ap (λ b. after_write b (other + 1) size (value' / 256)) (sym (after_write-set bytes offset width value other (value' % 256) outside))
    ∙ written_comm (set bytes other (value' % 256)) offset width value (other + 1) size (value' / 256) inner

pub low_digit : (digit rest : ℕ) → digit < 256
    → ((digit + 256 * rest) % 256 ≡ digit) × ((digit + 256 * rest) / 256 ≡ rest)
low_digit digit rest small =
    let split = div-add-mod (digit + 256 * rest) 256 in
    (omega (arith, split), omega (arith, split))

-- the number that stood there, written back, gives the bytes back
pub after_write-restored : (bytes : List ℕ) (offset width value : ℕ) → AreBytes bytes
    → after_write (after_write bytes offset width value) offset width (number_at bytes offset width) ≡ bytes
after_write-restored bytes offset zero value small = refl
after_write-restored bytes offset (suc width) value small =
    let digit = low_digit (get_or bytes offset 0) (number_at bytes (offset + 1) width) (small offset) in
    let first : set (after_write (set bytes offset (value % 256)) (offset + 1) width (value / 256)) offset (get_or bytes offset 0) ≡ after_write bytes (offset + 1) width (value / 256) =
    sym (after_write-set (set bytes offset (value % 256)) (offset + 1) width (value / 256) offset (get_or bytes offset 0) (inl (omega arith)))
    ∙ ap (λ b. after_write b (offset + 1) width (value / 256)) (set-set bytes offset (value % 256) (get_or bytes offset 0) ∙ set-get_or bytes offset 0)
    in
    rw (digit.0, digit.1, first) (after_write-restored bytes (offset + 1) width (value / 256) small)

AreBytes-set : (bytes : List ℕ) (k byte : ℕ) → byte < 256 → AreBytes bytes → AreBytes (set bytes k byte)
AreBytes-set bytes k byte small each j = grind (arith, common_steps, each j)

pub AreBytes-after_write : (bytes : List ℕ) (offset width value : ℕ) → AreBytes bytes
    → AreBytes (after_write bytes offset width value)
AreBytes-after_write bytes offset zero value each = each
AreBytes-after_write bytes offset (suc width) value each =
    AreBytes-after_write (set bytes offset (value % 256)) (offset + 1) width (value / 256) (AreBytes-set bytes offset (value % 256) (omega arith) each)
