-- What a new writer has told.
use Rattle.std.proofs.Common.{◌≡◌, [], ◌∷◌, ℕ, List, All, sym, subst}
use Rattle.std.proofs.lemmas.List.Elements.{All-cons, All-nil}
use Rattle.guest_image.specs.ImageValue.{ImageValue}
use Rattle.progress_cell.specs.Readings.{opening_reading}
use Rattle.progress_cell.specs.declared.reading.Reading.{Reading}
use Rattle.run_journal.specs.declared.journal.Entry.{Entry}
use Rattle.machine_run.specs.tile_worker.Readings.{IsReading, AreReadings, OpeningIsReading}

-- where the opening is a reading of every journal, so is all that a new writer has told
pub opening_told : OpeningIsReading → (image : ImageValue) (budget : ℕ) (journal : List Entry) (told : List Reading)
    → told ≡ opening_reading ∷ []
    → AreReadings image budget journal told
opening_told every image budget journal told is =
    let P : Reading → Type 0 = λ reading. ∥ IsReading image budget journal reading ∥₁ in
    subst (AreReadings image budget journal) (sym is)
    (All-cons P opening_reading [] ∣ every image budget journal ∣₁ (All-nil P))
