-- Readings at places of a list.
use Rattle.std.proofs.Common.{◌≡◌, ℕ, zero, suc, ◌+◌, ◌<◌, ◌≤◌, List, [], ◌∷◌, ◌++◌, length, get_or, ⊎_elim, refl}
use Rattle.std.proofs.Common.{subst, le_refl, le_trans, arith}
use Rattle.std.specs.List.{AllZip}
use Rattle.std.proofs.lemmas.Bool.{cases_lt}
use Rattle.std.proofs.lemmas.List.Quantifiers.{all_pairs_push}
use Rattle.std.proofs.lemmas.Option.{slice_get_within, get_or_from_slice_get}
use Rattle.progress_cell.specs.Readings.{IsAtMost, NeverFalls, IsAtPlace, StandsIn, last_of}
use Rattle.progress_cell.specs.declared.reading.Reading.{Reading}

pub IsAtMost-refl : (one : Reading) → IsAtMost one one
IsAtMost-refl one = (le_refl _, le_refl _)

pub IsAtMost-trans : (one other third : Reading) → IsAtMost one other → IsAtMost other third → IsAtMost one third
IsAtMost-trans one other third p q = (le_trans p.0 q.0, le_trans p.1 q.1)

-- one more reading is the last
pub last_pushed : (readings : List Reading) (reading : Reading) → last_of (readings ++ reading ∷ []) ≡ reading
last_pushed [] reading = refl
last_pushed (x ∷ []) reading = refl
last_pushed (x ∷ y ∷ ys) reading = last_pushed (y ∷ ys) reading

-- the last reading stands at the last place
last_after : (x : Reading) (rest : List Reading) → IsAtPlace (x ∷ rest) (length rest) (last_of (x ∷ rest))
last_after x [] = refl
last_after x (y ∷ ys) = last_after y ys

pub last_place : (readings : List Reading) → 0 < length readings
    → (place : ℕ) × (place + 1 ≡ length readings) × IsAtPlace readings place (last_of readings)
last_place [] some = absurd (omega (arith, some))
last_place (x ∷ rest) some = (length rest, (omega arith), last_after x rest)

-- no reading of a list that never falls is above its last
at_most_last : (readings : List Reading) → NeverFalls readings → (k : ℕ) (d : Reading) → k < length readings
    → IsAtMost (get_or readings k d) (last_of readings)
at_most_last readings rises k d within =
    let end = last_place readings (omega (arith, within)) in
    let last : get_or readings end.0 d ≡ last_of readings = get_or_from_slice_get readings end.0 (last_of readings) d end.2 in
    ⊎_elim
    (λ (before : k < end.0). subst (IsAtMost (get_or readings k d)) last (rises k end.0 d before (omega (arith, end.1))))
    (λ (behind : end.0 ≤ k).
    let same : end.0 ≡ k = omega (arith, behind, within, end.1) in
    subst (λ place. IsAtMost (get_or readings place d) (last_of readings)) same (subst (IsAtMost (get_or readings end.0 d)) last (IsAtMost-refl _)))
    (cases_lt k end.0)

pub NeverFalls-push : (readings : List Reading) (reading : Reading) → NeverFalls readings
    → IsAtMost (last_of readings) reading → NeverFalls (readings ++ reading ∷ [])
NeverFalls-push readings reading rises above =
    all_pairs_push IsAtMost readings reading rises (λ k d within. IsAtMost-trans _ _ _ (at_most_last readings rises k d within) above)

-- places stay where one more reading comes
IsAtPlace-longer : (readings : List Reading) (reading : Reading) (place : ℕ) (x : Reading) → IsAtPlace readings place x
    → IsAtPlace (readings ++ reading ∷ []) place x
IsAtPlace-longer [] reading place x at = cc
IsAtPlace-longer (y ∷ ys) reading zero x at = at
IsAtPlace-longer (y ∷ ys) reading (suc place) x at = IsAtPlace-longer ys reading place x at

all_longer : (told : List Reading) (reading : Reading) (places : List ℕ) (seen : List Reading)
    → AllZip (IsAtPlace told) places seen → AllZip (IsAtPlace (told ++ reading ∷ [])) places seen
all_longer told reading [] [] stand = tt
all_longer told reading [] (x ∷ xs) stand = absurd stand
all_longer told reading (p ∷ ps) [] stand = absurd stand
all_longer told reading (p ∷ ps) (x ∷ xs) stand =
    (IsAtPlace-longer told reading p x stand.0, all_longer told reading ps xs stand.1)

-- what stands in a list stands there when one more reading was told
pub StandsIn-longer : (seen told : List Reading) (reading : Reading) → StandsIn seen told
    → StandsIn seen (told ++ reading ∷ [])
StandsIn-longer seen told reading there = record {
  places = there.places;
  never_fall = there.never_fall;
  stand = all_longer told reading there.places seen there.stand;
}

places_within : (told : List Reading) (places : List ℕ) (seen : List Reading) → AllZip (IsAtPlace told) places seen
    → (k d : ℕ) → k < length places → get_or places k d < length told
places_within told [] seen stand k d within = absurd (omega (arith, within))
places_within told (p ∷ ps) [] stand k d within = absurd stand
places_within told (p ∷ ps) (x ∷ xs) stand zero d within = slice_get_within told p x stand.0
places_within told (p ∷ ps) (x ∷ xs) stand (suc k) d within =
    places_within told ps xs stand.1 k d (omega (arith, within))

-- one more place, with one more reading
all_stand_push : (told : List Reading) (places : List ℕ) (seen : List Reading) (place : ℕ) (reading : Reading)
    → AllZip (IsAtPlace told) places seen → IsAtPlace told place reading
    → AllZip (IsAtPlace told) (places ++ place ∷ []) (seen ++ reading ∷ [])
all_stand_push told [] [] place reading stand at = (at, tt)
all_stand_push told [] (x ∷ xs) place reading stand at = absurd stand
all_stand_push told (p ∷ ps) [] place reading stand at = absurd stand
all_stand_push told (p ∷ ps) (x ∷ xs) place reading stand at =
    (stand.0, all_stand_push told ps xs place reading stand.1 at)

-- the last reading that was told may be seen after whatever stands there
pub StandsIn-last : (seen told : List Reading) → 0 < length told → StandsIn seen told
    → StandsIn (seen ++ last_of told ∷ []) told
StandsIn-last seen told some there = let end = last_place told some in record {
  places = there.places ++ end.0 ∷ [];
  never_fall = all_pairs_push (λ place later. place ≤ later) there.places end.0 there.never_fall (λ k d within.
      let inside : get_or there.places k d < length told = places_within told there.places seen there.stand k d within in
      omega (arith, inside, end.1));
  stand = all_stand_push told there.places seen end.0 (last_of told) there.stand end.2;
}

-- one reading that stands at a place
pub StandsIn-one : (told : List Reading) (place : ℕ) (reading : Reading) → IsAtPlace told place reading
    → StandsIn (reading ∷ []) told
StandsIn-one told place reading at = record {
  places = place ∷ [];
  never_fall = λ i j d before within. absurd (omega (arith, before, within));
  stand = (at, tt);
}

last_of_all : (told : List Reading) (places : List ℕ) (seen : List Reading) → AllZip (IsAtPlace told) places seen
    → 0 < length seen → (place : ℕ) × IsAtPlace told place (last_of seen)
last_of_all told places [] stand some = absurd (omega (arith, some))
last_of_all told [] (x ∷ xs) stand some = absurd stand
last_of_all told (p ∷ ps) (x ∷ []) stand some = (p, stand.0)
last_of_all told (p ∷ ps) (x ∷ y ∷ ys) stand some = last_of_all told ps (y ∷ ys) stand.1 (omega arith)

-- the last of what stands in a list stands there too
pub StandsIn-last_seen : (seen told : List Reading) → 0 < length seen → StandsIn seen told
    → StandsIn (last_of seen ∷ []) told
StandsIn-last_seen seen told some there =
    let last = last_of_all told there.places seen there.stand some in StandsIn-one told last.0 (last_of seen) last.1
