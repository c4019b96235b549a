-- How runs are put together and taken apart.
use Rattle.std.proofs.Common.{◌≡◌, refl, sym, ap, ◌∙◌, subst, ℕ, List, [], ◌∷◌, ◌++◌, Some}
use Rattle.std.proofs.lemmas.Option.{same_Some}
use Rattle.guest_image.specs.ImageValue.{ImageValue}
use Rattle.run_journal.specs.declared.journal.Entry.{Entry}
use Rattle.serial_machine.specs.State.{SerialState}
use Rattle.serial_machine.specs.Turn.{turn}
use Rattle.serial_machine.specs.Run.{Runs, IsRun, opening}
pub use Rattle.serial_machine.proofs.Proved.{Runs-more}
use Rattle.run_law.specs.Laws.{IsTurnOf}

-- a run is a run of its first entries and then one of the others
pub Runs-append : (image : ImageValue) (budget : ℕ) (es more : List Entry) (s after : SerialState)
    → Runs image budget s (es ++ more) after
    → (mid : SerialState) × Runs image budget s es mid × Runs image budget mid more after
Runs-append image budget [] more s after run = (s, refl, run)
Runs-append image budget (e ∷ es) more s after (mid, t, run) =
    let parts = Runs-append image budget es more mid after run in (parts.0, (mid, t, parts.1), parts.2)

-- where the same entries lead is the same
pub Runs-same : (image : ImageValue) (budget : ℕ) (es : List Entry) (s one two : SerialState)
    → Runs image budget s es one → Runs image budget s es two → one ≡ two
Runs-same image budget [] s one two a b = sym a ∙ b
Runs-same image budget (e ∷ es) s one two (mid, t, a) (other, u, b) =
    let same : mid ≡ other = ap (λ p. p.0) (same_Some _ _ (sym t ∙ u)) in
    Runs-same image budget es mid one two a (subst (λ m. Runs image budget m es two) (sym same) b)

-- what a turn of a run's journal led to, and the run from there on
pub record IsTaken (image : ImageValue) (budget : ℕ) (before : SerialState) (entry : Entry) (rest : List Entry) (last : SerialState) : Type 0 where
  pub after : SerialState
  pub taken : turn image budget before entry.name ≡ Some (after, entry)
  pub on : Runs image budget after rest last

pub turn-taken : (image : ImageValue) (budget : ℕ) (journal : List Entry) (last : SerialState) (front : List Entry) (before : SerialState) (entry : Entry)
    → IsRun image budget journal last → (t : IsTurnOf image budget journal front before entry)
    → IsTaken image budget before entry t.entries_behind last
turn-taken image budget journal last front before entry run t =
    let parts = Runs-append image budget front (entry ∷ t.entries_behind) (opening image) last (subst (λ j. Runs image budget (opening image) j last) t.stands run) in
    let same : parts.0 ≡ before = Runs-same image budget front (opening image) parts.0 before parts.1 t.run in
    let on = subst (λ m. Runs image budget m (entry ∷ t.entries_behind) last) same parts.2 in
    record { after = on.0; taken = on.1; on = on.2 }
