-- What an exchange, or another element at a place, leaves of a heap; and that its root is least.
use Rattle.std.proofs.Common.{◌≡◌, ◌≢◌, ◌⊎◌, inl, inr, ℕ, zero, suc, ◌<◌, ◌≤◌, ◌/◌, sym, ap, subst, ◌∙◌, arith}
use Rattle.std.proofs.lemmas.Bool.{cases_eq}
use Rattle.std.proofs.lemmas.List.Edits.{Swapped}
use Rattle.commit_arbiter.specs.Heap.{parent, IsHeapBy, IsHeapUp, IsHeapApart}

parent_less : (k : ℕ) → 0 < k → parent k < k
parent_less k pos = omega arith

module _ {X : Type 0} (le : X → X → Type 0) (trans : (x y z : X) → le x y → le y z → le x z) where
  moved : (a b c d : X) → a ≡ c → b ≡ d → le c d → le a b
  moved a b c d one two fact = subst (λ x. le x b) (sym one) (subst (le c) (sym two) fact)

  pub up_exchanged : (f g : ℕ → X) (many i : ℕ) → IsHeapUp le f many i → 0 < i → i < many → le (f i) (f (parent i))
      → Swapped f g i (parent i) → IsHeapUp le g many (parent i)
  up_exchanged f g many i is pos inside less swapped = record { order = order; over = over }
    where
      above : parent i < i
      above = parent_less i pos

      order : (k : ℕ) → 0 < k → k < many → k ≢ parent i → le (g (parent k)) (g k)
      order k kpos kin differ = by_case (cases_eq k i) (cases_eq (parent k) i) (cases_eq (parent k) (parent i))
        where
          by_case : (k ≡ i) ⊎ (k ≢ i) → (parent k ≡ i) ⊎ (parent k ≢ i) → (parent k ≡ parent i) ⊎ (parent k ≢ parent i)
              → le (g (parent k)) (g k)
          by_case (inl here) q p =
              moved (g (parent k)) (g k) (f i) (f (parent i)) (ap (λ m. g (parent m)) here ∙ swapped.1) (ap g here ∙ swapped.0) less
          by_case (inr other) (inl child) p =
              moved (g (parent k)) (g k) (f (parent i)) (f k) (ap g child ∙ swapped.0) (swapped.2 k other differ) (is.over k pos kpos kin child)
          by_case (inr other) (inr not_child) (inl sibling) =
              moved (g (parent k)) (g k) (f i) (f k) (ap g sibling ∙ swapped.1) (swapped.2 k other differ)
              (trans (f i) (f (parent i)) (f k) less (subst (λ m. le (f m) (f k)) sibling (is.order k kpos kin other)))
          by_case (inr other) (inr not_child) (inr not_sibling) =
              moved (g (parent k)) (g k) (f (parent k)) (f k) (swapped.2 (parent k) not_child not_sibling) (swapped.2 k other differ) (is.order k kpos kin other)

      over : (k : ℕ) → 0 < parent i → 0 < k → k < many → parent k ≡ parent i → le (g (parent (parent i))) (g k)
      over k ppos kpos kin sibling = by_case (cases_eq k i)
        where
          grand : g (parent (parent i)) ≡ f (parent (parent i))
          grand =
              swapped.2 (parent (parent i)) (λ e. (let low = parent_less (parent i) ppos in let no_way : ⊥ = omega arith in no_way)) (λ e. (let low = parent_less (parent i) ppos in let no_way : ⊥ = omega arith in no_way))

          below : k ≢ parent i
          below e = let low = parent_less k kpos in let no_way : ⊥ = omega arith in no_way

          top : le (f (parent (parent i))) (f (parent i))
          top = is.order (parent i) ppos (omega arith) (λ e. (let no_way : ⊥ = omega arith in no_way))

          by_case : (k ≡ i) ⊎ (k ≢ i) → le (g (parent (parent i))) (g k)
          by_case (inl here) =
              moved (g (parent (parent i))) (g k) (f (parent (parent i))) (f (parent i)) grand (ap g here ∙ swapped.0) top
          by_case (inr other) =
              moved (g (parent (parent i))) (g k) (f (parent (parent i))) (f k) grand (swapped.2 k other below)
              (trans (f (parent (parent i))) (f (parent i)) (f k) top (subst (λ m. le (f m) (f k)) sibling (is.order k kpos kin other)))

  pub up_end : (f : ℕ → X) (many i : ℕ) → IsHeapUp le f many i → (0 < i → le (f (parent i)) (f i)) → IsHeapBy le f many
  up_end f many i is last k kpos kin = by_case (cases_eq k i)
    where
      by_case : (k ≡ i) ⊎ (k ≢ i) → le (f (parent k)) (f k)
      by_case (inl here) = subst (λ m. le (f (parent m)) (f m)) (sym here) (last (omega arith))
      by_case (inr other) = is.order k kpos kin other

  -- below its least child
  pub apart_exchanged : (f g : ℕ → X) (many i c : ℕ) → IsHeapApart le f many i → 0 < c → c < many → parent c ≡ i
      → ((k : ℕ) → 0 < k → k < many → parent k ≡ i → le (f c) (f k)) → Swapped f g i c → IsHeapApart le g many c
  apart_exchanged f g many i c is pos inside child least swapped = record { order = order; over = over }
    where
      above : i < c
      above = let low = parent_less c pos in omega arith

      order : (k : ℕ) → 0 < k → k < many → k ≢ c → parent k ≢ c → le (g (parent k)) (g k)
      order k kpos kin other differ = by_case (cases_eq (parent k) i) (cases_eq k i)
        where
          by_case : (parent k ≡ i) ⊎ (parent k ≢ i) → (k ≡ i) ⊎ (k ≢ i) → le (g (parent k)) (g k)
          by_case (inl sibling) p =
              moved (g (parent k)) (g k) (f c) (f k) (ap g sibling ∙ swapped.0) (swapped.2 k (λ e. (let low = parent_less k kpos in let no_way : ⊥ = omega arith in no_way)) other) (least k kpos kin sibling)
          by_case (inr not_child) (inl mine) =
              moved (g (parent k)) (g k) (f (parent i)) (f c) (ap (λ m. g (parent m)) mine ∙ swapped.2 (parent i) (λ e. (let low = parent_less k kpos in let no_way : ⊥ = omega arith in no_way)) (λ e. (let low = parent_less k kpos in let no_way : ⊥ = omega arith in no_way))) (ap g mine ∙ swapped.0) (is.over c (omega arith) pos inside child)
          by_case (inr not_child) (inr not_mine) =
              moved (g (parent k)) (g k) (f (parent k)) (f k) (swapped.2 (parent k) not_child differ) (swapped.2 k not_mine other) (is.order k kpos kin not_mine not_child)

      over : (k : ℕ) → 0 < c → 0 < k → k < many → parent k ≡ c → le (g (parent c)) (g k)
      over k cpos kpos kin grand =
          let low = parent_less k kpos in
          moved (g (parent c)) (g k) (f c) (f k) (ap g child ∙ swapped.0) (swapped.2 k (λ e. (let no_way : ⊥ = omega arith in no_way)) (λ e. (let no_way : ⊥ = omega arith in no_way)))
          (subst (λ m. le (f m) (f k)) grand (is.order k kpos kin (λ e. (let no_way : ⊥ = omega arith in no_way)) (λ e. (let no_way : ⊥ = omega arith in no_way))))

  -- at a place with no child
  pub at_leaf : (f : ℕ → X) (many i : ℕ) → IsHeapApart le f many i → many / 2 ≤ i → IsHeapUp le f many i
  at_leaf f many i is leaf = record {
    order = λ k kpos kin other. is.order k kpos kin other (λ child. (let no_way : ⊥ = omega arith in no_way));
    over = is.over;
  }

  -- the root
  pub root_least : (itself : (x : X) → le x x) (f : ℕ → X) (many : ℕ) → IsHeapBy le f many → (bound k : ℕ) → k ≤ bound
      → k < many → le (f 0) (f k)
  root_least itself f many heap bound zero upto inside = itself (f 0)
  root_least itself f many heap zero (suc k) upto inside = absurd (omega arith)
  root_least itself f many heap (suc bound) (suc k) upto inside =
      let low = parent_less (suc k) (omega arith) in
      trans (f 0) (f (parent (suc k))) (f (suc k)) (root_least itself f many heap bound (parent (suc k)) (omega arith) (omega arith)) (heap (suc k) (omega arith) inside)

  -- one more at the end
  pub grown : (f g : ℕ → X) (many : ℕ) → ((k : ℕ) → k < many → g k ≡ f k) → IsHeapBy le f many
      → IsHeapUp le g (suc many) many
  grown f g many same heap = record {
    order =
        λ k kpos kin differ. moved (g (parent k)) (g k) (f (parent k)) (f k) (same (parent k) (let low = parent_less k kpos in omega arith)) (same k (omega arith)) (heap k kpos (omega arith));
    over = λ k pos kpos kin child. absurd (let low = parent_less k kpos in omega arith);
  }

  -- another at one place, and one fewer
  pub apart_from : (f g : ℕ → X) (many i : ℕ) → ((k : ℕ) → k < many → k ≢ i → g k ≡ f k) → IsHeapBy le f (suc many)
      → i < many → IsHeapApart le g many i
  apart_from f g many i same heap inside = record {
    order =
        λ k kpos kin other not_child. moved (g (parent k)) (g k) (f (parent k)) (f k) (same (parent k) (let low = parent_less k kpos in omega arith) not_child) (same k kin other) (heap k kpos (omega arith));
    over = λ k pos kpos kin child. beyond k pos kpos kin child;
  }
    where
      beyond : (k : ℕ) → 0 < i → 0 < k → k < many → parent k ≡ i → le (g (parent i)) (g k)
      beyond k pos kpos kin child =
          let low = parent_less k kpos in
          let up = parent_less i pos in
          moved (g (parent i)) (g k) (f (parent i)) (f k) (same (parent i) (omega arith) (λ e. (let no_way : ⊥ = omega arith in no_way))) (same k kin (λ e. (let no_way : ⊥ = omega arith in no_way)))
          (trans (f (parent i)) (f i) (f k) (heap i pos (omega arith)) (subst (λ m. le (f m) (f k)) child (heap k kpos (omega arith))))

  -- another at one place
  module _ (f g : ℕ → X) (many i : ℕ) (same : (k : ℕ) → k ≢ i → g k ≡ f k) (heap : IsHeapBy le f many) (inside : i < many) where
    across : (k : ℕ) → 0 < i → 0 < k → k < many → parent k ≡ i → le (g (parent i)) (g k)
    across k pos kpos kin child =
        let low = parent_less k kpos in
        let up = parent_less i pos in
        moved (g (parent i)) (g k) (f (parent i)) (f k) (same (parent i) (λ e. (let no_way : ⊥ = omega arith in no_way))) (same k (λ e. (let no_way : ⊥ = omega arith in no_way)))
        (trans (f (parent i)) (f i) (f k) (heap i pos inside) (subst (λ m. le (f m) (f k)) child (heap k kpos kin)))

    pub changed : IsHeapApart le g many i
    changed = record {
      order =
          λ k kpos kin other not_child. moved (g (parent k)) (g k) (f (parent k)) (f k) (same (parent k) not_child) (same k other) (heap k kpos kin);
      over = across;
    }

    -- that is not greater
    pub lowered : le (g i) (f i) → IsHeapUp le g many i
    lowered less = record {
      order = λ k kpos kin other. by_case k kpos kin other (cases_eq (parent k) i);
      over = across;
    }
      where
        by_case : (k : ℕ) → 0 < k → k < many → k ≢ i → (parent k ≡ i) ⊎ (parent k ≢ i) → le (g (parent k)) (g k)
        by_case k kpos kin other (inl child) =
            moved (g (parent k)) (g k) (g i) (f k) (ap g child) (same k other)
            (trans (g i) (f i) (f k) less (subst (λ m. le (f m) (f k)) child (heap k kpos kin)))
        by_case k kpos kin other (inr not_child) =
            moved (g (parent k)) (g k) (f (parent k)) (f k) (same (parent k) not_child) (same k other) (heap k kpos kin)
