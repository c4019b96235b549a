-- Texts over the numbers from 0 on.
use Rattle.std.proofs.Common.{◌≡◌, ◌∙◌, ℕ, ◌+◌, ◌++◌, ◌∷◌, [], List, map, ap, sym, arith, suc, zero, append_assoc}
use Rattle.std.specs.Prelude.{codes}
use Rattle.std.specs.List.{flat_map, range_with_len}
use Rattle.std.proofs.lemmas.List.Concat.{flat_map-append}
use Rattle.std.proofs.lemmas.List.Folds.{flat_map-map}
use Rattle.std.proofs.lemmas.List.FromFn.{map-range_with_len_more}
use Rattle.std.proofs.lemmas.List.{append-nil}
use Rattle.watch_text.specs.Fields.{comma_before, items_text, more_items}

-- one piece more
pub flat_map-range_more : {A : Type 0} (f : ℕ → List A) (a n j : ℕ) → a + n ≡ j
    → flat_map f (range_with_len a (n + 1)) ≡ flat_map f (range_with_len a n) ++ (f j ++ [])
flat_map-range_more f a n j h =
    sym (flat_map-map (λ x. x) f (range_with_len a (n + 1)))
    ∙ ap (flat_map (λ x. x)) (map-range_with_len_more f a n j h)
    ∙ flat_map-append (λ x. x) (map f (range_with_len a n)) (f j ∷ [])
    ∙ ap (λ front. front ++ (f j ++ [])) (flat_map-map (λ x. x) f (range_with_len a n))

-- a text of pieces, one of which is added
pub flat_step : (f : ℕ → List ℕ) (k : ℕ) (start old new : List ℕ)
    → old ≡ start ++ flat_map f (range_with_len 0 k) → new ≡ old ++ f k
    → new ≡ start ++ flat_map f (range_with_len 0 (k + 1))
flat_step f k start old new so more =
    more ∙ ap (λ front. front ++ f k) so ∙ append_assoc start (flat_map f (range_with_len 0 k)) (f k)
    ∙ ap (λ (last : List ℕ). start ++ (flat_map f (range_with_len 0 k) ++ last)) (sym (append-nil (f k)))
    ∙ ap (λ (all : List ℕ). start ++ all) (sym (flat_map-range_more f 0 k k (omega arith)))

comma_there : (j : ℕ) → comma_before (suc j) ≡ codes ","
comma_there j = grind arith

-- one item more, with the comma before it
items_more : (f : ℕ → List ℕ) (k : ℕ)
    → items_text f (range_with_len 0 (k + 1)) ≡ items_text f (range_with_len 0 k) ++ (comma_before k ++ f k)
items_more f zero = append-nil (f 0)
items_more f (suc j) =
    let e : suc j + 1 ≡ suc (j + 1) = omega arith in
    let more : List ℕ = codes "," ++ f (suc j) in
    ap (λ n. items_text f (range_with_len 0 n)) e
    ∙ ap (λ (rest : List ℕ). f 0 ++ rest) (flat_map-range_more (λ k. codes "," ++ f k) 1 j (suc j) (omega arith))
    ∙ sym (append_assoc (f 0) (more_items f (range_with_len 1 j)) (more ++ []))
    ∙ ap (λ (last : List ℕ). (f 0 ++ more_items f (range_with_len 1 j)) ++ last) (append-nil more)
    ∙ ap (λ (comma : List ℕ). items_text f (range_with_len 0 (suc j)) ++ (comma ++ f (suc j))) (sym (comma_there j))

-- a text of items, one of which is added behind its comma
pub items_step : (f : ℕ → List ℕ) (k : ℕ) (start old mid new : List ℕ)
    → old ≡ start ++ items_text f (range_with_len 0 k) → mid ≡ old ++ comma_before k → new ≡ mid ++ f k
    → new ≡ start ++ items_text f (range_with_len 0 (k + 1))
items_step f k start old mid new so comma more =
    more ∙ ap (λ front. front ++ f k) comma ∙ append_assoc old (comma_before k) (f k)
    ∙ ap (λ front. front ++ (comma_before k ++ f k)) so
    ∙ append_assoc start (items_text f (range_with_len 0 k)) (comma_before k ++ f k)
    ∙ ap (λ (all : List ℕ). start ++ all) (sym (items_more f k))
