-- The first place of `--filter` among words.
use denote.Ref.{Bor}
use Rattle.std.proofs.Common.{◌≡◌, ◌<◌, ◌≤◌, ◌+◌, ℕ, Bool, true, false, List, [], ◌∷◌, length, map, get_or, codes}
use Rattle.std.proofs.Common.{arith}
use Rattle.std.proofs.Common.{sym, ap, subst, ◌∙◌, inl, inr}
use Rattle.std.specs.Str.{bytes_eq}
use Rattle.std.proofs.lemmas.Bool.{cases_eq}
use Rattle.std.proofs.lemmas.List.{get_or-map, length-map}
use Rattle.std.proofs.lemmas.List.Sums.{position_or_len_is}
use Rattle.fractal_watch.specs.Words.{filter_place}

-- the word is `--filter`
abbrev pub is_filter : List ℕ → Bool
is_filter word = bytes_eq word (codes "--filter")

-- the words, as the code has them
abbrev pub texts : List (Bor (List ℕ)) → List (List ℕ)
texts words = map (λ w. w.now) words

-- no word before this place is `--filter`
abbrev pub NoneBefore : List (Bor (List ℕ)) → ℕ → Type 0
NoneBefore words place = (k : ℕ) → k < place → is_filter (get_or (texts words) k []) ≡ false

pub none_more : (words : List (Bor (List ℕ))) (place : ℕ) → NoneBefore words place
    → is_filter (get_or (texts words) place []) ≡ false → NoneBefore words (place + 1)
none_more words place none here k low = elim (cases_eq k place) [
  | inl same ↦ subst (λ p. is_filter (get_or (texts words) p []) ≡ false) (sym same) here
  | inr other ↦ none k (omega (arith, low, other))
]

-- a word that was looked at, and is no `--filter`
pub none_at : (words : List (Bor (List ℕ))) (place : ℕ) (d : Bor (List ℕ)) → place < length words
    → NoneBefore words place → is_filter (get_or words place d).now ≡ false → NoneBefore words (place + 1)
none_at words place d inside none other =
    none_more words place none (ap is_filter (get_or-map (λ (w : Bor (List ℕ)). w.now) words place d [] inside) ∙ other)

-- the first place that is `--filter`
pub place_is : (words : List (Bor (List ℕ))) (place : ℕ) (d : Bor (List ℕ)) → place ≤ length words
    → NoneBefore words place
    → (place < length words → is_filter (get_or words place d).now ≡ true) → place ≡ filter_place (texts words)
place_is words place d within none there =
    let long = length-map words (λ (w : Bor (List ℕ)). w.now) in
    sym (position_or_len_is is_filter (texts words) place [] (omega (arith, within, long)) none
    (λ low.
    let inside : place < length words = omega (arith, low, long) in
    ap is_filter (get_or-map (λ (w : Bor (List ℕ)). w.now) words place d [] inside) ∙ there inside))
