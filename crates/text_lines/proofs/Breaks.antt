-- A text is cut at its first line break, and the lines behind that are those of the rest.
use Rattle.std.proofs.Common.{◌≡◌, ℕ, ◌<◌, ◌==◌, List, [], ◌∷◌, length, take, drop, Some, None, refl, ◌∙◌, arith, true}
use Rattle.std.proofs.Common.{false, option_map, Bool, subst}
use Rattle.std.proofs.Math.Seq.{take-length, drop-length}
use Rattle.std.specs.declared.option.Option.{Option}
use Rattle.text_lines.specs.Lines.{cut, lines_of}

-- the lines of a byte and the rest, by what a cut of them gives
abbrev OneMore : ℕ → List ℕ → Option (List ℕ × List ℕ) → Type 0
OneMore x xs None = lines_of (x ∷ xs) ≡ (x ∷ xs) ∷ []
OneMore x xs (Some p) = (lines_of (x ∷ xs) ≡ p.0 ∷ lines_of p.1) × (length p.1 < length (x ∷ xs))

joined : (x y : ℕ) (ys : List ℕ) (found : Option (List ℕ × List ℕ)) → (x == 10) ≡ false → OneMore y ys found
    → OneMore x (y ∷ ys) (option_map (λ p. (x ∷ p.0, p.1)) found)
joined x y ys None ne h = rw (ne, h) refl
joined x y ys (Some p) ne h = (rw (ne, h.0) refl, omega (arith, h.1))

by_first : (x : ℕ) (xs : List ℕ) (b : Bool) → (x == 10) ≡ b → OneMore x xs (cut 10 (x ∷ xs))
by_first x xs true is = rw is (rw is refl, omega arith)
by_first x [] false is = rw is (rw is refl)
by_first x (y ∷ ys) false is =
    let P : Option (List ℕ × List ℕ) → Type 0 = OneMore x (y ∷ ys) in
    subst P (let e : option_map (λ p. (x ∷ p.0, p.1)) (cut 10 (y ∷ ys)) ≡ cut 10 (x ∷ y ∷ ys) = rw is refl in e) (joined x y ys (cut 10 (y ∷ ys)) is (by_first y ys (y == 10) refl))

one_more : (x : ℕ) (xs : List ℕ) → OneMore x xs (cut 10 (x ∷ xs))
one_more x xs = by_first x xs (x == 10) refl

pub lines_cut : (bs l r : List ℕ) → cut 10 bs ≡ Some (l, r) → lines_of bs ≡ l ∷ lines_of r
lines_cut [] l r h = cc
lines_cut (x ∷ xs) l r h = let P : Option (List ℕ × List ℕ) → Type 0 = OneMore x xs in (subst P h (one_more x xs)).0

pub rest_shorter : (bs l r : List ℕ) → cut 10 bs ≡ Some (l, r) → length r < length bs
rest_shorter [] l r h = cc
rest_shorter (x ∷ xs) l r h = let P : Option (List ℕ × List ℕ) → Type 0 = OneMore x xs in (subst P h (one_more x xs)).1

pub lines_whole : (bs : List ℕ) → 0 < length bs → cut 10 bs ≡ None → lines_of bs ≡ bs ∷ []
lines_whole [] some h = absurd (omega (arith, some))
lines_whole (x ∷ xs) some h = let P : Option (List ℕ × List ℕ) → Type 0 = OneMore x xs in subst P h (one_more x xs)

pub no_lines : (bs : List ℕ) → length bs ≡ 0 → lines_of bs ≡ []
no_lines [] e = refl
no_lines (x ∷ xs) e = absurd (omega (arith, e))

-- a text with some byte and no newline is one line
pub lines_last : (bs front back : List ℕ) → 0 < length bs → cut 10 bs ≡ None → front ≡ take (length bs) bs
    → back ≡ drop (length bs) bs → lines_of bs ≡ front ∷ lines_of back
lines_last bs front back some h f b = lines_whole bs some h ∙ (rw (f, b, take-length bs, drop-length bs) refl)

-- what the lines of a text are, by whether it has a newline
pub ruleset line_breaks = (lines_cut, lines_last, rest_shorter, no_lines)
