-- When two maps of lines meet.
use Rattle.std.proofs.Common.{◌≡◌, ◌&&◌, ◌↔◌, ℕ, Bool, true, false, List, Option, Some, None, unwrap_or, All, refl, sym}
use Rattle.std.proofs.Common.{ap, subst, ◌∙◌, arith}
use Rattle.std.specs.BTreeMap.{is_at}
use Rattle.std.specs.List.{list_any}
use Rattle.std.specs.Ordering.{nat_cmp}
use Rattle.std.proofs.lemmas.Bool.{and_parts}
use Rattle.std.proofs.lemmas.Bool.Decides.{nat_tests}
use Rattle.std.proofs.lemmas.List.Elements.{All-contains}
use Rattle.std.proofs.lemmas.List.Folds.{Any-from_list_any}
use Rattle.std.proofs.lemmas.Map.Entries.{place_from_lookup}
use Rattle.std.proofs.lemmas.Map.Keys.{any_passes_from_place}
use Rattle.line_table.specs.Exact.{written_at, touched_of, wrote_of}
use Rattle.line_table.specs.Note.{Meet}

-- the pair is of a line that was written, and that the other map has
abbrev pub meets_pair : List (ℕ × Bool) → ℕ × Bool → Bool
meets_pair later pair = pair.1 && touched_of later pair.0

same_key : (line key : ℕ) → is_at (nat_cmp line) key ≡ true → line ≡ key
same_key line key is = grind (arith, nat_tests)

module _ (lines later : List (ℕ × Bool)) where
  from_pair : All (λ e. written_at lines e.0 ≡ Some e.1) lines → list_any (meets_pair later) lines ≡ true
      → Meet (wrote_of lines) (touched_of later)
  from_pair found any =
      let one = Any-from_list_any (meets_pair later) lines any in
      let kept = All-contains (λ e. written_at lines e.0 ≡ Some e.1) lines one.1 found (one.0, one.2, one.3) in
      let parts = and_parts one.1.1 (touched_of later one.1.0) one.4 in
      (one.1.0, ap (λ o. unwrap_or o false) kept ∙ parts.0, parts.1)

  to_pair : (line : ℕ) → wrote_of lines line ≡ true → touched_of later line ≡ true
      → list_any (meets_pair later) lines ≡ true
  to_pair line wrote touched = go (written_at lines line) refl wrote
    where
      go : (at : Option Bool) → written_at lines line ≡ at → unwrap_or at false ≡ true
          → list_any (meets_pair later) lines ≡ true
      go None is wrote = absurd (cc wrote)
      go (Some false) is wrote = absurd (cc wrote)
      go (Some true) is wrote =
          let place = place_from_lookup (is_at (nat_cmp line)) lines true is in
          any_passes_from_place (meets_pair later) lines place.0 (place.1, true) place.2
          (subst (λ key. touched_of later key ≡ true) (same_key line place.1 place.3) touched)

  -- the maps meet exactly where some pair of the first does
  pub pairs-meet : All (λ e. written_at lines e.0 ≡ Some e.1) lines → (r : Bool) → r ≡ list_any (meets_pair later) lines
      → (r ≡ true) ↔ Meet (wrote_of lines) (touched_of later)
  pairs-meet found r is = (λ yes. from_pair found (sym is ∙ yes), λ meet. is ∙ to_pair meet.0 meet.1 meet.2)
