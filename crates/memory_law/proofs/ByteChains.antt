-- A log chains and makes the memory exactly where the chain of each byte holds.
use Rattle.std.proofs.Common.{◌≡◌, ◌⊎◌, ℕ, zero, suc, ◌+◌, ◌-◌, ◌/◌, ◌%◌, ◌^◌, ◌<◌, ◌≤◌, Bool, true, false, List, []}
use Rattle.std.proofs.Common.{◌∷◌, length, get_or, set, Option, Some, None, refl, sym, ap, subst, ◌∙◌, inl, inr, arith}
use Rattle.std.proofs.Common.{cond, unwrap_or}
use Rattle.std.proofs.lemmas.Bool.Decides.{nat_tests}
use Rattle.std.proofs.lemmas.List.{get_or-set_same, length-set, ext_get_or}
use Rattle.undo_log.specs.declared.access.Access.{Access}
use Rattle.undo_log.specs.Number.{number_at, after_write, AreBytes}
use Rattle.memory_law.specs.Accesses.{written_if, after_access, after_accesses, FindsOldValue, Replays, AllLieIn}
use Rattle.memory_law.specs.ByteChain.{digit, covers, new_digit, byte_accesses, IsByteChain}
use Rattle.undo_log.proofs.Proved.{get_or-written_before, get_or-written_behind, low_digit}
use Rattle.memory_law.proofs.Bytes.{number_at-below}
use Rattle.memory_law.proofs.Replays.{length-after_access, AreBytes-after_access}

-- a byte of a written word is its digit
pub get_or-written_in : (m : List ℕ) (o w v i : ℕ) → i < w → o + w ≤ length m
    → get_or (after_write m o w v) (o + i) 0 ≡ digit v i
get_or-written_in m o zero v i below within = absurd (omega arith)
get_or-written_in m o (suc w) v zero below within =
    ap (λ k. get_or (after_write (set m o (v % 256)) (o + 1) w (v / 256)) k 0) (let e : o + 0 ≡ o = omega arith in e)
    ∙ get_or-written_before (set m o (v % 256)) (o + 1) w (v / 256) o (omega arith)
    ∙ get_or-set_same m o (v % 256) 0 (omega arith)
get_or-written_in m o (suc w) v (suc i) below within =
    ap (λ k. get_or (after_write (set m o (v % 256)) (o + 1) w (v / 256)) k 0) (let e : o + suc i ≡ o + 1 + i = omega arith in e)
    ∙ get_or-written_in (set m o (v % 256)) (o + 1) w (v / 256) i (omega arith) (omega (arith, length-set m o (v % 256)))

-- a byte of the memory is its digit of a word there
pub digit-number_at : (m : List ℕ) (o w i : ℕ) → AreBytes m → i < w → digit (number_at m o w) i ≡ get_or m (o + i) 0
digit-number_at m o zero i bytes below = absurd (omega arith)
digit-number_at m o (suc w) zero bytes below =
    (low_digit (get_or m o 0) (number_at m (o + 1) w) (bytes o)).0
    ∙ ap (λ k. get_or m k 0) (let e : o ≡ o + 0 = omega arith in e)
digit-number_at m o (suc w) (suc i) bytes below =
    ap (λ v. digit v i) (low_digit (get_or m o 0) (number_at m (o + 1) w) (bytes o)).1
    ∙ digit-number_at m (o + 1) w i bytes (omega arith)
    ∙ ap (λ k. get_or m k 0) (let e : o + 1 + i ≡ o + suc i = omega arith in e)

-- a word whose digits are the bytes there
pub number_at-digits : (m : List ℕ) (o w v : ℕ) → v < 256 ^ w → ((i : ℕ) → i < w → digit v i ≡ get_or m (o + i) 0)
    → number_at m o w ≡ v
number_at-digits m o zero v small each = omega arith
number_at-digits m o (suc w) v small each =
    let first : v % 256 ≡ get_or m o 0 = each 0 (omega arith) ∙ ap (λ k. get_or m k 0) (let e : o + 0 ≡ o = omega arith in e) in
    let rest : number_at m (o + 1) w ≡ v / 256 = number_at-digits m (o + 1) w (v / 256) (omega (arith, small, Rattle.std.proofs.Math.Nat.pow-suc 256 w, Rattle.std.proofs.Math.Nat.div-add-mod v 256)) (λ i below. each (suc i) (omega arith) ∙ ap (λ k. get_or m k 0) (let e : o + suc i ≡ o + 1 + i = omega arith in e)) in
    omega (arith, first, rest, Rattle.std.proofs.Math.Nat.div-add-mod v 256)

module _ (a : Access) (k : ℕ) where
  inside : covers a k ≡ true → (a.offset ≤ k) × (k < a.offset + a.width)
  inside e = grind (arith, nat_tests)

  outside : covers a k ≡ false → (k < a.offset) ⊎ (a.offset + a.width ≤ k)
  outside e = grind (arith, nat_tests)

-- the byte after an access
pub byte_after : (m : List ℕ) (a : Access) (k : ℕ) → a.offset + a.width ≤ length m
    → get_or (after_access m a) k 0 ≡ cond (covers a k) (unwrap_or (new_digit a.new (k - a.offset)) (get_or m k 0)) (get_or m k 0)
byte_after m a k within = by_new a.new
  where
    by_cover : (v : ℕ) (b : Bool) → covers a k ≡ b
        → get_or (after_write m a.offset a.width v) k 0 ≡ cond b (digit v (k - a.offset)) (get_or m k 0)
    by_cover v true e =
        let in' = inside a k e in
        let at : k ≡ a.offset + (k - a.offset) = omega (arith, in'.0) in
        ap (λ j. get_or (after_write m a.offset a.width v) j 0) at
        ∙ get_or-written_in m a.offset a.width v (k - a.offset) (omega (arith, in'.0, in'.1)) within
    by_cover v false e = elim (outside a k e) [
      | inl before ↦ get_or-written_before m a.offset a.width v k before
      | inr after ↦ get_or-written_behind m a.offset a.width v k after
    ]

    same : (b : Bool) → get_or m k 0 ≡ cond b (get_or m k 0) (get_or m k 0)
    same true = refl
    same false = refl

    by_new : (n : Option ℕ)
        → get_or (written_if m a.offset a.width n) k 0 ≡ cond (covers a k) (unwrap_or (new_digit n (k - a.offset)) (get_or m k 0)) (get_or m k 0)
    by_new None = same (covers a k)
    by_new (Some v) = by_cover v (covers a k) refl

-- a chain makes the chain of each byte
pub bytes-of_replay : (m : List ℕ) (log : List Access) (k : ℕ) → AreBytes m → Replays m log
    → IsByteChain (get_or m k 0) (byte_accesses k log) (get_or (after_accesses m log) k 0)
bytes-of_replay m [] k bytes chain = refl
bytes-of_replay m (a ∷ log) k bytes chain =
    by_cover (covers a k) refl (bytes-of_replay (after_access m a) log k (AreBytes-after_access m a bytes) chain.1) (byte_after m a k chain.0.within)
  where
    by_cover : (b : Bool) → covers a k ≡ b
        → IsByteChain (get_or (after_access m a) k 0) (byte_accesses k log) (get_or (after_accesses (after_access m a) log) k 0)
        → get_or (after_access m a) k 0 ≡ cond b (unwrap_or (new_digit a.new (k - a.offset)) (get_or m k 0)) (get_or m k 0)
        → IsByteChain (get_or m k 0) (cond b ((digit a.old (k - a.offset), new_digit a.new (k - a.offset)) ∷ byte_accesses k log) (byte_accesses k log)) (get_or (after_accesses (after_access m a) log) k 0)
    by_cover true e rest after =
        let in' = inside a k e in
        let at : k ≡ a.offset + (k - a.offset) = omega (arith, in'.0) in
        let old : get_or m k 0 ≡ digit a.old (k - a.offset) =
        ap (λ j. get_or m j 0) at
        ∙ sym (digit-number_at m a.offset a.width (k - a.offset) bytes (omega (arith, in'.0, in'.1)))
        ∙ ap (λ v. digit v (k - a.offset)) (sym chain.0.old_is)
        in (
          old,
          subst
              (λ b. IsByteChain b (byte_accesses k log) (get_or (after_accesses (after_access m a) log) k 0))
              after rest,
        )
    by_cover false e rest after =
        subst (λ b. IsByteChain b (byte_accesses k log) (get_or (after_accesses (after_access m a) log) k 0)) after rest

-- the accesses of a replay lie in the memory, and each old value is a number of its width
pub inside-of_replay : (m : List ℕ) (log : List Access) → AreBytes m → Replays m log → AllLieIn (length m) log
inside-of_replay m [] bytes replays = tt
inside-of_replay m (a ∷ log) bytes replays = (
  record { within = replays.0.within; small = subst (λ v. v < 256 ^ a.width) (sym replays.0.old_is) (number_at-below m a.offset a.width bytes) },
  subst (λ n. AllLieIn n log) (length-after_access m a) (inside-of_replay (after_access m a) log (AreBytes-after_access m a bytes) replays.1),
)

-- the chains of all bytes make a chain, and the memory that it makes
pub replay-of_bytes : (m now : List ℕ) (log : List Access) → AreBytes m → AllLieIn (length m) log
    → length now ≡ length m → ((k : ℕ) → IsByteChain (get_or m k 0) (byte_accesses k log) (get_or now k 0))
    → Replays m log × (now ≡ after_accesses m log)
replay-of_bytes m now [] bytes inside size each = (tt, ext_get_or 0 now m size (λ k below. sym (each k)))
replay-of_bytes m now (a ∷ log) bytes inside size each =
    let word : number_at m a.offset a.width ≡ a.old =
    number_at-digits m a.offset a.width a.old inside.0.small (λ i below. old_digit (a.offset + i) i refl below (each (a.offset + i)))
    in
    let fits : FindsOldValue m a = record { within = inside.0.within; old_is = sym word } in
    let rest = replay-of_bytes (after_access m a) now log (AreBytes-after_access m a bytes) (subst (λ n. AllLieIn n log) (sym (length-after_access m a)) inside.1) (size ∙ sym (length-after_access m a)) (λ k. by_cover k (covers a k) refl (each k) (byte_after m a k inside.0.within)) in
    ((fits, rest.0), rest.1)
  where
    covered : (k i : ℕ) → k ≡ a.offset + i → i < a.width → covers a k ≡ true
    covered k i at below = grind (arith, nat_tests)

    old_digit : (k i : ℕ) → k ≡ a.offset + i → i < a.width
        → IsByteChain (get_or m k 0) (byte_accesses k (a ∷ log)) (get_or now k 0)
        → digit a.old i ≡ get_or m (a.offset + i) 0
    old_digit k i at below chain =
        let cover = covered k i at below in
        let open' : IsByteChain (get_or m k 0) ((digit a.old (k - a.offset), new_digit a.new (k - a.offset)) ∷ byte_accesses k log) (get_or now k 0) =
        subst (λ b. IsByteChain (get_or m k 0) (cond b ((digit a.old (k - a.offset), new_digit a.new (k - a.offset)) ∷ byte_accesses k log) (byte_accesses k log)) (get_or now k 0)) cover chain
        in
        let place : k - a.offset ≡ i = omega arith in
        sym (ap (λ j. get_or m j 0) (sym at) ∙ open'.0 ∙ ap (digit a.old) place)

    by_cover : (k : ℕ) (b : Bool) → covers a k ≡ b
        → IsByteChain (get_or m k 0) (byte_accesses k (a ∷ log)) (get_or now k 0)
        → get_or (after_access m a) k 0 ≡ cond (covers a k) (unwrap_or (new_digit a.new (k - a.offset)) (get_or m k 0)) (get_or m k 0)
        → IsByteChain (get_or (after_access m a) k 0) (byte_accesses k log) (get_or now k 0)
    by_cover k true e chain after =
        let chain' : IsByteChain (get_or m k 0) ((digit a.old (k - a.offset), new_digit a.new (k - a.offset)) ∷ byte_accesses k log) (get_or now k 0) =
        subst (λ b. IsByteChain (get_or m k 0) (cond b ((digit a.old (k - a.offset), new_digit a.new (k - a.offset)) ∷ byte_accesses k log) (byte_accesses k log)) (get_or now k 0)) e chain
        in
        let after' : get_or (after_access m a) k 0 ≡ unwrap_or (new_digit a.new (k - a.offset)) (get_or m k 0) = after ∙ ap (λ b. cond b (unwrap_or (new_digit a.new (k - a.offset)) (get_or m k 0)) (get_or m k 0)) e in
        subst (λ x. IsByteChain x (byte_accesses k log) (get_or now k 0)) (sym after') chain'.1
    by_cover k false e chain after =
        let chain' : IsByteChain (get_or m k 0) (byte_accesses k log) (get_or now k 0) =
        subst (λ b. IsByteChain (get_or m k 0) (cond b ((digit a.old (k - a.offset), new_digit a.new (k - a.offset)) ∷ byte_accesses k log) (byte_accesses k log)) (get_or now k 0)) e chain
        in
        let after' : get_or (after_access m a) k 0 ≡ get_or m k 0 = after ∙ ap (λ b. cond b (unwrap_or (new_digit a.new (k - a.offset)) (get_or m k 0)) (get_or m k 0)) e in
        subst (λ x. IsByteChain x (byte_accesses k log) (get_or now k 0)) (sym after') chain'
