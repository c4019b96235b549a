-- Lists of records as numbers, five for each.
use Rattle.std.proofs.Common.{◌≡◌, ℕ, ◌+◌, ◌*◌, ◌-◌, ◌/◌, ◌%◌, ◌<◌, List, [], ◌∷◌, ◌++◌, zero, suc, refl, ap, sym, ◌∙◌}
use Rattle.std.proofs.Common.{length, drop, slice_get, arith, Some, None}
use Rattle.std.specs.List.{flat_map}
use Rattle.std.proofs.lemmas.List.Concat.{flat_map-append}
use Rattle.std.proofs.lemmas.List.{length-append}
use Rattle.circular_buffer.specs.Buffer.{Buffer, buffer, keep_last}
use Rattle.trace_tap.specs.declared.record.Record.{Record}
use Rattle.trace_tap.specs.Numbers.{numbers_of_record}
use Rattle.trace_tap.specs.TapValue.{TapValue, after_note}
use Rattle.trace_tap.specs.TapValues.{last_records}

-- a list of records has five numbers for each
length_of_fives : (xs : List Record) → length (flat_map numbers_of_record xs) ≡ 5 * length xs
length_of_fives [] = refl
length_of_fives (x ∷ xs) = omega (arith, length_of_fives xs)

-- without the first k records the first 5 k numbers are gone
drop_fives : (k : ℕ) (xs : List Record)
    → flat_map numbers_of_record (drop k xs) ≡ drop (5 * k) (flat_map numbers_of_record xs)
drop_fives zero xs = refl
drop_fives (suc k) [] = let e : 5 * suc k ≡ suc (5 * k + 4) = omega arith in rw e refl
drop_fives (suc k) (x ∷ xs) =
    drop_fives k xs
    ∙ ap (λ m. drop m (numbers_of_record x ++ flat_map numbers_of_record xs)) (let e : suc (suc (suc (suc (suc (5 * k))))) ≡ 5 * suc k = omega arith in e)

-- the numbers of the last n records are the last 5 n numbers
last_fives : (n : ℕ) (xs : List Record) (x : Record)
    → flat_map numbers_of_record (keep_last n (xs ++ x ∷ [])) ≡ keep_last (5 * n) (flat_map numbers_of_record xs ++ numbers_of_record x)
last_fives n xs x =
    drop_fives (length (xs ++ x ∷ []) - n) (xs ++ x ∷ [])
    ∙ ap (drop (5 * (length (xs ++ x ∷ []) - n))) (flat_map-append numbers_of_record xs (x ∷ []))
    ∙ ap (λ m. drop m (flat_map numbers_of_record xs ++ numbers_of_record x))
    (
    let
    e : 5 * (length (xs ++ x ∷ []) - n) ≡ length (flat_map numbers_of_record xs ++ numbers_of_record x) - 5 * n
    = omega (arith, length-append xs (x ∷ []), length-append (flat_map numbers_of_record xs) (numbers_of_record x), length_of_fives xs)
    in e
    )

front : (x : Record) (rest : List ℕ) (r : ℕ) → r < 5
    → slice_get (numbers_of_record x ++ rest) r ≡ slice_get (numbers_of_record x) r
front x rest zero lt = refl
front x rest (suc zero) lt = refl
front x rest (suc (suc zero)) lt = refl
front x rest (suc (suc (suc zero))) lt = refl
front x rest (suc (suc (suc (suc zero)))) lt = refl
front x rest (suc (suc (suc (suc (suc r))))) lt = absurd (omega (arith, lt))

number_from : (xs : List Record) (q r : ℕ) (x : Record) → r < 5 → slice_get xs q ≡ Some x
    → slice_get (flat_map numbers_of_record xs) (5 * q + r) ≡ slice_get (numbers_of_record x) r
number_from [] q r x lt at = cc
number_from (y ∷ ys) zero r x lt at =
    ap (slice_get (numbers_of_record y ++ flat_map numbers_of_record ys)) (let e : 5 * 0 + r ≡ r = omega arith in e)
    ∙ front y (flat_map numbers_of_record ys) r lt
    ∙ ap (λ z. slice_get (numbers_of_record z) r) (let e : y ≡ x = cc in e)
number_from (y ∷ ys) (suc q) r x lt at =
    ap (slice_get (numbers_of_record y ++ flat_map numbers_of_record ys)) (let e : 5 * suc q + r ≡ suc (suc (suc (suc (suc (5 * q + r))))) = omega arith in e)
    ∙ number_from ys q r x lt at

-- a number by its place: the record at a fifth of it, and what is left among its five
number_at : (xs : List Record) (place : ℕ) (x : Record) → slice_get xs (place / 5) ≡ Some x
    → slice_get (flat_map numbers_of_record xs) place ≡ slice_get (numbers_of_record x) (place % 5)
number_at xs place x at =
    ap (slice_get (flat_map numbers_of_record xs)) (let e : place ≡ 5 * (place / 5) + place % 5 = omega arith in e)
    ∙ number_from xs (place / 5) (place % 5) x (omega arith) at

none_from : (xs : List Record) (q r : ℕ) → slice_get xs q ≡ None
    → slice_get (flat_map numbers_of_record xs) (5 * q + r) ≡ None
none_from [] q r at = refl
none_from (y ∷ ys) zero r at = cc
none_from (y ∷ ys) (suc q) r at =
    ap (slice_get (numbers_of_record y ++ flat_map numbers_of_record ys)) (let e : 5 * suc q + r ≡ suc (suc (suc (suc (suc (5 * q + r))))) = omega arith in e)
    ∙ none_from ys q r at

-- past the last record there is no number
no_number_at : (xs : List Record) (place : ℕ) → slice_get xs (place / 5) ≡ None
    → slice_get (flat_map numbers_of_record xs) place ≡ None
no_number_at xs place at =
    ap (slice_get (flat_map numbers_of_record xs)) (let e : place ≡ 5 * (place / 5) + place % 5 = omega arith in e)
    ∙ none_from xs (place / 5) (place % 5) at

-- the tap of a ring of records
abbrev tap_of : Buffer Record → TapValue
tap_of ring = last_records ring.capacity (flat_map numbers_of_record ring.items)

-- a ring to which a record was added is a tap to which that record was told
pub added_is_noted : (old new : Buffer Record) (seen : Record)
    → new ≡ buffer (keep_last old.capacity (old.items ++ seen ∷ [])) old.capacity
    → last_records new.capacity (flat_map numbers_of_record new.items) ≡ after_note seen (last_records old.capacity (flat_map numbers_of_record old.items))
added_is_noted old new seen added =
    ap tap_of added ∙ ap (last_records old.capacity) (last_fives old.capacity old.items seen)

-- five numbers for each record
pub five_for_each : (xs : List Record) (count : ℕ) → count ≡ length xs
    → 5 * count ≡ length (flat_map numbers_of_record xs)
five_for_each xs count e = omega (arith, length_of_fives xs, e)

-- the number at a place, by its record
pub number_found : (xs : List Record) (place number : ℕ) (x : Record) → Some x ≡ slice_get xs (place / 5)
    → slice_get (numbers_of_record x) (place % 5) ≡ Some number
    → Some number ≡ slice_get (flat_map numbers_of_record xs) place
number_found xs place number x at own = sym (number_at xs place x (sym at) ∙ own)

-- no number past the last record
pub number_missing : (xs : List Record) (place : ℕ) → None ≡ slice_get xs (place / 5)
    → None ≡ slice_get (flat_map numbers_of_record xs) place
number_missing xs place at = sym (no_number_at xs place (sym at))
