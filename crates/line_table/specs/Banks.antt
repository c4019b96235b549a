-- Four banks of 256 bits in one row of 1,024, one behind another: half of a Bloom filter.
use Rattle.std.specs.Prelude.{◌&&◌, ◌+◌, ◌/◌, ◌%◌, ℕ, Bool, List, [], ◌∷◌, map, flat_map}
use Rattle.line_table.specs.declared.signature.Signature.{Signature}
use Rattle.line_table.specs.Note.{Note}
use Rattle.line_table.specs.Signature.{touched_of, wrote_of}

-- one bit in each bank: the place that a byte of the half gives, the lowest byte in the first bank
abbrev pub places : ℕ → List ℕ
places half =
    (half % 256) ∷ (256 + half / 256 % 256) ∷ (512 + half / 65536 % 256) ∷ (768 + half / 16777216 % 256) ∷ []

-- a note of each of these bits
abbrev pub notes_in_banks : ℕ → Bool → List Note
notes_in_banks half write = map (λ place. record { line = place; write = write }) (places half)

-- the notes of the bits, where a line has this half of its hashes
abbrev pub banks_of : (ℕ → ℕ) → List Note → List Note
banks_of half notes = flat_map (λ note. notes_in_banks (half note.line) note.write) notes

-- the test holds of each of the bits
abbrev pub each_bank : (ℕ → Bool) → ℕ → Bool
each_bank test half =
    test (half % 256) && test (256 + half / 256 % 256) && test (512 + half / 65536 % 256)
    && test (768 + half / 16777216 % 256)

-- the bits of all banks are set among those of touches
abbrev pub touched_in_banks : Signature → ℕ → Bool
touched_in_banks signature = each_bank (touched_of signature)

-- the bits of all banks are set among those of writes
abbrev pub wrote_in_banks : Signature → ℕ → Bool
wrote_in_banks signature = each_bank (wrote_of signature)
