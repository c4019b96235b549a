use Rattle.std.proofs.Common.{◌%◌, ◌/◌, ◌++◌, List, inl, inr, refl, subst}
use Rattle.line_table.specs.Note.{Note}
use Rattle.line_table.specs.Signature.{IsSignature}
use Rattle.line_table.specs.Banks.{notes_in_banks}
use Rattle.line_table.proofs.Marked.{banks_marked, row_marked}
use Rattle.line_table.proofs.lines.Lines.mark.Goals as goal

pub returns-in-Modulo : goal.returns-in-Modulo
returns-in-Modulo c = λ notes is.
    row_marked c.args.kind c.args.size c.args.self.now _ notes _ (inl c.in-Modulo.is) refl refl refl c.mark.ensures is

pub returns-in-Bloom : goal.returns-in-Bloom
returns-in-Bloom c = λ notes is.
    banks_marked c.args.kind c.args.size c.args.self.now _ notes _ c.in-Bloom.is refl refl
    (subst (λ m. (some : List Note) → IsSignature c.args.self.now.near some
    → IsSignature c.mark_banks.new.signature (some ++ notes_in_banks (m % 4294967296) c.args.write)) c.hashes-mixed.ensures c.mark_banks.ensures)
    (subst (λ m. (some : List Note) → IsSignature c.args.self.now.far some
    → IsSignature c.mark_banks-in-Bloom.new.signature (some ++ notes_in_banks (m / 4294967296) c.args.write)) c.hashes-mixed.ensures c.mark_banks-in-Bloom.ensures)
    is

pub returns-in-Exact : goal.returns-in-Exact
returns-in-Exact c = λ notes is.
    row_marked c.args.kind c.args.size c.args.self.now _ notes _ (inr c.in-Exact.is) refl refl refl c.mark-in-Exact.ensures is
