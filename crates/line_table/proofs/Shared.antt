-- Lines that two filters share, which the numbers below 2^32 show; and filters with no notes.
use Rattle.std.proofs.Common.{◌≡◌, ◌==◌, ◌&&◌, ℕ, ◌+◌, ◌*◌, ◌/◌, ◌%◌, ◌^◌, ◌<◌, zero, suc, Bool, true}
use Rattle.std.proofs.Common.{[], refl, sym, ap, subst, ◌∙◌, arith}
use Rattle.std.specs.Prelude.{bit_xor, slice_index, if◌then◌else◌}
use Rattle.std.specs.Int.{bit_at}
use Rattle.std.specs.List.{fold}
use Rattle.std.proofs.lemmas.Nat.Bits.{bit_at_cat_low}
use Rattle.line_table.specs.declared.hash.TheConstants.{DIGITS}
use Rattle.line_table.specs.declared.lines.FilterKind.{FilterKind}
use Rattle.line_table.specs.declared.lines.FilterKind.TheVariants.{Modulo, Bloom, Exact}
use Rattle.line_table.specs.declared.lines.Lines.{Lines}
use Rattle.line_table.specs.declared.row.BitRow.{BitRow}
use Rattle.line_table.specs.declared.signature.Signature.{Signature}
use Rattle.line_table.specs.Note.{Meet}
use Rattle.line_table.specs.Row.{is_set}
use Rattle.line_table.specs.Signature.{IsSignature, touched_of, wrote_of}
use Rattle.line_table.specs.Hash.{mix, digits_below, hashes}
use Rattle.line_table.specs.Banks.{each_bank}
use Rattle.line_table.specs.SignatureLaws.{is_signature_of_none}
use Rattle.line_table.specs.Lines.{HasLines, IsLines, has_bits, bits_touch, bits_write, unmarked_of}
use Rattle.line_table.proofs.Hashes.{mixed_more}

-- a number and what is left of it modulo 2^32 have the same 32 lowest bits
same_low : (line bit : ℕ) → bit < 32 → bit_at (line % 4294967296) bit ≡ bit_at line bit
same_low line bit low =
    let parts : line / 4294967296 * 2 ^ 32 + line % 4294967296 ≡ line = omega arith in
    sym (bit_at_cat_low (line / 4294967296) 32 (line % 4294967296) bit low) ∙ ap (λ n. bit_at n bit) parts

same_digits : (line bits : ℕ) → bits < 33
    → fold bit_xor 0 (digits_below (line % 4294967296) bits) ≡ fold bit_xor 0 (digits_below line bits)
same_digits line zero few = refl
same_digits line (suc bits) few =
    let low = line % 4294967296 in
    let before = same_digits line bits (omega (arith, few)) in
    let next : bits + 1 ≡ suc bits = omega arith in
    subst (λ n. fold bit_xor 0 (digits_below low n) ≡ fold bit_xor 0 (digits_below line n)) next
    (mixed_more low bits
    ∙ ap (λ mixed. mix low mixed bits) before
    ∙ ap (λ bit. if bit == 1
    then bit_xor (fold bit_xor 0 (digits_below line bits)) (slice_index DIGITS bits)
    else (fold bit_xor 0 (digits_below line bits)))
    (same_low line bits (omega (arith, few)))
    ∙ sym (mixed_more line bits))

same_hashes : (line : ℕ) → hashes (line % 4294967296) ≡ hashes line
unfolding hashes
same_hashes line = same_digits line 32 (omega arith)

-- so rows say the same of both
same_set : (row : BitRow) (line : ℕ) → is_set row (line % 4294967296) ≡ is_set row line
same_set row line =
    let word : line % 4294967296 % 1024 / 64 ≡ line % 1024 / 64 = ap (λ n. n / 64) (omega arith) in
    let place : line % 4294967296 % 64 ≡ line % 64 = omega arith in
    λ i. bit_at (slice_index row.words (word i)) (place i) == 1

same_bits : (row : Signature → ℕ → Bool) (kind : FilterKind) (lines : Lines) (line : ℕ)
    → ((s : Signature) → row s (line % 4294967296) ≡ row s line)
    → has_bits row kind lines (line % 4294967296) ≡ has_bits row kind lines line
same_bits row Modulo lines line same = same lines.near
same_bits row Exact lines line same = same lines.near
same_bits row Bloom lines line same =
    ap (λ h. each_bank (row lines.near) (h % 4294967296) && each_bank (row lines.far) (h / 4294967296)) (same_hashes line)

-- where two filters share no line below 2^32, they share none
pub none_meet : (earlier later : Lines)
    → ((line : ℕ) → line < 4294967296 → bits_write earlier line ≡ true → bits_touch later line ≡ true → ⊥)
    → Meet (bits_write earlier) (bits_touch later) → ⊥
none_meet earlier later none meet =
    none (meet.0 % 4294967296) (omega arith)
    (same_bits wrote_of earlier.kind earlier meet.0 (λ s. same_set s.wrote meet.0) ∙ meet.1)
    (same_bits touched_of later.kind later meet.0 (λ s. same_set s.touched meet.0) ∙ meet.2)

-- rows with no notes are lines with none, of each kind
none_has : (kind : FilterKind) (size : ℕ) (lines : Lines) → IsSignature lines.near [] → IsSignature lines.far []
    → IsLines kind size lines []
none_has Modulo size lines near far = record { near_is = near; far_is = far; are_of = tt }
none_has Bloom size lines near far = record { near_is = near; far_is = far; are_of = tt }
none_has Exact size lines near far = record { near_is = near; far_is = far; are_of = tt }

pub none_of : (kind : FilterKind) (size : ℕ) → HasLines (unmarked_of kind size) []
unfolding unmarked_of
none_of kind size = none_has kind size (unmarked_of kind size) is_signature_of_none is_signature_of_none
