-- The hashes, bit by bit.
use Rattle.std.proofs.Common.{◌≡◌, ◌==◌, ◌++◌, ℕ, ◌+◌, Bool, true, false, [], ◌∷◌, refl, sym, ap, arith, ◌∙◌}
use Rattle.std.specs.Prelude.{map, filter, cond, bit_xor, slice_index, if◌then◌else◌}
use Rattle.std.specs.Int.{bit_at}
use Rattle.std.specs.List.{fold, range_with_len}
use Rattle.std.proofs.lemmas.List.{map-append, map-id}
use Rattle.std.proofs.lemmas.List.FromFn.{filter_of_map_range_with_len_more}
use Rattle.std.proofs.lemmas.List.Sums.{fold-append}
use Rattle.line_table.specs.declared.hash.TheConstants.{DIGITS}
use Rattle.line_table.specs.Hash.{mix, digits_below}

-- what one bit more adds
module _ (line bit : ℕ) where
  abbrev is_set : ℕ → Bool
  is_set bit = bit_at line bit == 1

  added : (sum : ℕ) (set : Bool)
      → fold bit_xor sum (map (slice_index DIGITS) (cond set (bit ∷ []) []))
      ≡ (if set then bit_xor sum (slice_index DIGITS bit) else sum)
  added sum true = refl
  added sum false = refl

  set_more : filter is_set (range_with_len 0 (bit + 1))
      ≡ filter is_set (range_with_len 0 bit) ++ cond (is_set bit) (bit ∷ []) []
  set_more =
      ap (filter is_set) (sym (map-id (range_with_len 0 (bit + 1))))
      ∙ filter_of_map_range_with_len_more is_set (λ n. n) 0 bit bit (omega arith)
      ∙ ap (λ ns. filter is_set ns ++ cond (is_set bit) (bit ∷ []) []) (map-id (range_with_len 0 bit))

  pub mixed_more : fold bit_xor 0 (digits_below line (bit + 1)) ≡ mix line (fold bit_xor 0 (digits_below line bit)) bit
  mixed_more =
      ap (λ bits. fold bit_xor 0 (map (slice_index DIGITS) bits)) set_more
      ∙ ap (fold bit_xor 0)
      (map-append (slice_index DIGITS) (filter is_set (range_with_len 0 bit)) (cond (is_set bit) (bit ∷ []) []))
      ∙ fold-append bit_xor 0 (digits_below line bit) (map (slice_index DIGITS) (cond (is_set bit) (bit ∷ []) []))
      ∙ added (fold bit_xor 0 (digits_below line bit)) (is_set bit)
