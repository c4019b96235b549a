-- What a note adds to lines of each kind.
use Rattle.std.proofs.Common.{◌≡◌, ◌⊎◌, ℕ, List, [], ◌∷◌, ◌++◌, refl, sym, ap, subst, ◌∙◌, inl, inr}
use Rattle.std.proofs.lemmas.List.Concat.{flat_map-append}
use Rattle.line_table.specs.declared.lines.FilterKind.{FilterKind}
use Rattle.line_table.specs.declared.lines.FilterKind.TheVariants.{Modulo, Bloom, Exact}
use Rattle.line_table.specs.declared.lines.Lines.{Lines}
use Rattle.line_table.specs.Note.{Note}
use Rattle.line_table.specs.Signature.{IsSignature}
use Rattle.line_table.specs.Banks.{notes_in_banks, banks_of}
use Rattle.line_table.specs.Hash.{near_half, far_half}
use Rattle.line_table.specs.Lines.{AreOf, IsLines}

append_nil : (notes : List Note) → notes ++ [] ≡ notes
append_nil [] = refl
append_nil (note ∷ notes) = ap (λ rest. note ∷ rest) (append_nil notes)

-- four notes, one after another
pub four_more : (notes : List Note) (a b c d : Note)
    → (((notes ++ a ∷ []) ++ b ∷ []) ++ c ∷ []) ++ d ∷ [] ≡ notes ++ a ∷ b ∷ c ∷ d ∷ []
four_more [] a b c d = refl
four_more (note ∷ notes) a b c d = ap (λ rest. note ∷ rest) (four_more notes a b c d)

-- lines of this kind and size are so with any notes
pub are_of : (kind : FilterKind) (size : ℕ) (lines : Lines) (notes : List Note) → lines.kind ≡ kind → lines.size ≡ size
    → AreOf kind size lines notes
are_of kind size lines [] one two = tt
are_of kind size lines (note ∷ notes) one two = (one, two)

-- the bits of one note more
pub banks_more : (half : ℕ → ℕ) (notes : List Note) (note : Note)
    → banks_of half notes ++ notes_in_banks (half note.line) note.write ≡ banks_of half (notes ++ note ∷ [])
banks_more half notes note =
    ap (λ rest. banks_of half notes ++ rest) (sym (append_nil (notes_in_banks (half note.line) note.write)))
    ∙ sym (flat_map-append (λ n. notes_in_banks (half n.line) n.write) notes (note ∷ []))

-- the lines behind a note, of the kinds that note the line itself
pub row_marked : (kind : FilterKind) (size : ℕ) (old new : Lines) (notes : List Note) (note : Note)
    → (kind ≡ Modulo) ⊎ (kind ≡ Exact) → new.kind ≡ kind → new.size ≡ size → new.far ≡ old.far
    → ((some : List Note) → IsSignature old.near some → IsSignature new.near (some ++ note ∷ []))
    → IsLines kind size old notes → IsLines kind size new (notes ++ note ∷ [])
row_marked Modulo size old new notes note which one two far near is = record {
  near_is = near notes is.near_is;
  far_is = subst (λ s. IsSignature s []) (sym far) is.far_is;
  are_of = are_of Modulo size new (notes ++ note ∷ []) one two;
}
row_marked Exact size old new notes note which one two far near is = record {
  near_is = near notes is.near_is;
  far_is = subst (λ s. IsSignature s []) (sym far) is.far_is;
  are_of = are_of Exact size new (notes ++ note ∷ []) one two;
}
row_marked Bloom size old new notes note (inl which) one two far near is = absurd (cc which)
row_marked Bloom size old new notes note (inr which) one two far near is = absurd (cc which)

-- and of the kind that notes a bit in each bank
pub banks_marked : (kind : FilterKind) (size : ℕ) (old new : Lines) (notes : List Note) (note : Note)
    → kind ≡ Bloom → new.kind ≡ kind → new.size ≡ size
    → ((some : List Note) → IsSignature old.near some
    → IsSignature new.near (some ++ notes_in_banks (near_half note.line) note.write))
    → ((some : List Note) → IsSignature old.far some
    → IsSignature new.far (some ++ notes_in_banks (far_half note.line) note.write))
    → IsLines kind size old notes → IsLines kind size new (notes ++ note ∷ [])
banks_marked Bloom size old new notes note which one two near far is = record {
  near_is = subst (IsSignature new.near) (banks_more near_half notes note) (near (banks_of near_half notes) is.near_is);
  far_is = subst (IsSignature new.far) (banks_more far_half notes note) (far (banks_of far_half notes) is.far_is);
  are_of = are_of Bloom size new (notes ++ note ∷ []) one two;
}
banks_marked Modulo size old new notes note which one two near far is = absurd (cc which)
banks_marked Exact size old new notes note which one two near far is = absurd (cc which)
