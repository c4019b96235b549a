-- Readings of a journal that goes on.
use Rattle.std.proofs.Common.{arith, ◌≡◌, ◌≤◌, ◌<◌, ◌+◌, ◌++◌, ◌∷◌, [], ℕ, List, All, length, take, get_or, refl, sym}
use Rattle.std.proofs.Common.{ap, subst, ◌∙◌, le_refl, min}
use mathlib.Core.Logic.{∥∥₁_map}
use Rattle.std.proofs.Math.Nat.{min-le_right}
use Rattle.std.specs.List.{AllZip}
use Rattle.std.proofs.lemmas.List.{length-append, length-take, take-append-le, take_all}
use Rattle.std.proofs.lemmas.List.Elements.{All-cons, All-nil, All-push, All-weaker}
use Rattle.std.proofs.lemmas.Option.{slice_get_within, get_or_from_slice_get}
use Rattle.guest_image.specs.ImageValue.{ImageValue}
use Rattle.progress_cell.specs.Readings.{IsAtMost, IsAtPlace}
use Rattle.progress_cell.specs.declared.reading.Reading.{Reading}
use Rattle.run_journal.specs.declared.journal.Entry.{Entry}
use Rattle.conflict_book.specs.serial_machine.Run as run
use Rattle.conflict_book.specs.serial_machine.Run.{IsRun}
use Rattle.conflict_book.specs.spec_state.View.{View}
use Rattle.conflict_book.specs.spec_law.Sound.{Sound}
use Rattle.conflict_book.specs.event_def.Book.{BookView}
use Rattle.conflict_book.specs.Counts.{counts_of}
use Rattle.tile_worker.specs.Grows.{Grows}
use Rattle.tile_worker.specs.Holds.{HoldsOnce}
use Rattle.tile_worker.specs.Readings.{IsReading, AreReadings, OpeningIsReading, SeenAreReadings}
use Rattle.tile_worker.proofs.Holding.{holds_grow}

-- a reading of a journal is one of each journal that goes on where this one ended
longer : (image : ImageValue) (budget : ℕ) (journal more : List Entry) (reading : Reading)
    → IsReading image budget journal reading
    → IsReading image budget (journal ++ more) reading
longer image budget journal more reading is =
    let size : length (journal ++ more) ≡ length journal + length more = length-append journal more in
    let within = is.within in
    record {
      within = omega (arith, size, within);
      after = is.after;
      is_run =
          subst (λ front. IsRun image budget front is.after) (sym (take-append-le reading.commits journal more within)) is.is_run;
      output = is.output;
    }

-- readings of a journal stay readings of it
pub readings_grow : (image : ImageValue) (budget : ℕ) (old new : View) (told : List Reading) → Grows old new
    → AreReadings image budget old.history told
    → AreReadings image budget new.history told
readings_grow image budget old new told grows are =
    let P : Reading → Type 0 = λ reading. ∥ IsReading image budget old.history reading ∥₁ in
    let Q : Reading → Type 0 = λ reading. ∥ IsReading image budget (old.history ++ grows.entries) reading ∥₁ in
    subst (λ journal. AreReadings image budget journal told) (sym grows.history)
    (All-weaker P Q (λ reading one. ∥∥₁_map one (longer image budget old.history grows.entries reading)) told are)

-- what a view has come to isn't below the last that was told of it before
pub counts_rise : (old new : View) (last : Reading) → Grows old new → last ≡ counts_of old
    → IsAtMost last (counts_of new)
counts_rise old new last grows is =
    let history : length new.history ≡ length old.history + length grows.entries = ap length grows.history ∙ length-append old.history grows.entries in
    let output : length new.output ≡ length old.output + length grows.bytes = ap length grows.output ∙ length-append old.output grows.bytes in
    subst (λ reading. IsAtMost reading (counts_of new)) (sym is) (omega (arith, history), omega (arith, output))

-- both after a hold
pub readings_held : (N : Type 0) (image : ImageValue) (budget : ℕ) (old new : BookView) (told : List Reading)
    → HoldsOnce N old new
    → AreReadings image budget old.view.history told → AreReadings image budget new.view.history told
readings_held N image budget old new told once are =
    readings_grow image budget old.view new.view told (holds_grow N old new once) are

pub counts_held : (N : Type 0) (old new : BookView) (last : Reading) → HoldsOnce N old new → last ≡ counts_of old.view
    → IsAtMost last (counts_of new.view)
counts_held N old new last once is = counts_rise old.view new.view last (holds_grow N old new once) is

-- the counts of a sound view are a reading of its journal
pub counts_are_reading : (image : ImageValue) (budget : ℕ) (view : View) → Sound image view
    → view.settings.budget ≡ budget
    → IsReading image budget view.history (counts_of view)
counts_are_reading image budget view sound same =
    let whole : take (length view.history) view.history ≡ view.history = take_all (length view.history) view.history (le_refl _) in
    record {
      within = le_refl _;
      after = sound.serial;
      is_run = subst (λ front. IsRun image budget front sound.serial) (sym whole)
          (subst (λ b. IsRun image b view.history sound.serial) same sound.is_run);
      output = ap length sound.tasks.output;
    }

-- and with it what was told are readings still
pub readings_told : (image : ImageValue) (budget : ℕ) (view : View) (told : List Reading) → Sound image view
    → view.settings.budget ≡ budget
    → AreReadings image budget view.history told → AreReadings image budget view.history (told ++ counts_of view ∷ [])
readings_told image budget view told sound same are =
    let P : Reading → Type 0 = λ reading. ∥ IsReading image budget view.history reading ∥₁ in
    All-push P told (counts_of view) are ∣ counts_are_reading image budget view sound same ∣₁

-- and what was told before stands in front of it
pub goes_on : (before told more : List Reading) → take (length before) told ≡ before
    → take (length before) (told ++ more) ≡ before
goes_on before told more front =
    let size : min (length before) (length told) ≡ length before = sym (length-take (length before) told) ∙ ap length front in
    let within : length before ≤ length told = subst (λ n. n ≤ length told) size (min-le_right (length before) (length told)) in
    take-append-le (length before) told more within ∙ front

-- nothing committed and nothing emitted
pub opening_is_reading : OpeningIsReading
opening_is_reading image budget journal =
    record { within = omega arith; after = run.opening image; is_run = refl; output = refl }

-- what holds of all readings of a list holds of those that stand in it
all_stand : (P : Reading → Type 0) (told : List Reading) (places : List ℕ) (seen : List Reading) → All P told
    → AllZip (IsAtPlace told) places seen → All P seen
all_stand P told [] [] all stand = All-nil P
all_stand P told [] (x ∷ xs) all stand = absurd stand
all_stand P told (p ∷ ps) [] all stand = absurd stand
all_stand P told (p ∷ ps) (x ∷ xs) all stand =
    let within : p < length told = slice_get_within told p x stand.0 in
    let is : get_or told p x ≡ x = get_or_from_slice_get told p x x stand.0 in
    All-cons P x xs (subst P is (all p x within)) (all_stand P told ps xs all stand.1)

pub seen_are_readings : SeenAreReadings
seen_are_readings image budget journal seen told are stands =
    let P : Reading → Type 0 = λ reading. ∥ IsReading image budget journal reading ∥₁ in
    all_stand P told stands.places seen are stands.stand
