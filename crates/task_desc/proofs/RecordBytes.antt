-- A descriptor and the bytes of its record give each other back.
use Rattle.std.proofs.Common.{◌≡◌, ℕ, zero, suc, ◌+◌, ◌<◌, ◌≤◌, ◌^◌, List, [], ◌∷◌, ◌++◌, length, Some, None, Bool}
use Rattle.std.proofs.Common.{true, false, refl, sym, ap, subst, ◌∙◌, arith, take, drop, ◌-◌, get_or, nat_lt, nat_le}
use Rattle.std.proofs.Common.{◌==◌, ◌&&◌, cond}
use Rattle.std.specs.Prelude.{replicate}
use Rattle.std.proofs.lemmas.List.{take_all, drop_all, drop-drop, append-nil, append_assoc, length-drop}
use Rattle.std.proofs.lemmas.List.{take-append-drop}
use Rattle.std.proofs.Math.Seq.{take-add, get_or-drop}
use Rattle.std.specs.List.{list_all}
use Rattle.std.proofs.lemmas.Nat.{le_bytes_2, le_bytes_4}
use Rattle.std.proofs.lemmas.Bool.Decides.{nat_tests}
use Rattle.std.proofs.lemmas.Bool.{and_parts}
use Rattle.byteorder.specs.Endian.{little_number}
use Rattle.byteorder.specs.Numbers.{little_number-reads_back}
use Rattle.guest_image.specs.Numbers.{word_at, half_at, word_bytes, half_bytes}
use Rattle.task_desc.specs.declared.calls.TheConstants.{MAX_DEPTH}
use Rattle.task_desc.specs.Record.{IsDesc, record_bytes, fields_of, is_desc, is_record, desc_of}
use Rattle.task_desc.specs.declared.desc.Desc.{Desc}

-- each is a byte
abbrev AreBytes : List ℕ → Type 0
AreBytes xs = (k : ℕ) → get_or xs k 0 < 256

word_back : (xs : List ℕ) → AreBytes xs → 4 ≤ length xs → word_bytes (little_number 4 xs) ≡ take 4 xs
word_back (a ∷ b ∷ c ∷ d ∷ rest) bytes long =
    le_bytes_4 (a ∷ b ∷ c ∷ d ∷ []) (little_number 4 (a ∷ b ∷ c ∷ d ∷ rest)) refl four (omega arith)
  where
    four : AreBytes (a ∷ b ∷ c ∷ d ∷ [])
    four zero = bytes 0
    four (suc zero) = bytes 1
    four (suc (suc zero)) = bytes 2
    four (suc (suc (suc zero))) = bytes 3
    four (suc (suc (suc (suc k)))) = lit
      where
        lit : 0 < 256
        lit = omega arith
word_back [] bytes long = absurd (omega arith)
word_back (a ∷ []) bytes long = absurd (omega arith)
word_back (a ∷ b ∷ []) bytes long = absurd (omega arith)
word_back (a ∷ b ∷ c ∷ []) bytes long = absurd (omega arith)

half_back : (xs : List ℕ) → AreBytes xs → 2 ≤ length xs → half_bytes (little_number 2 xs) ≡ take 2 xs
half_back (a ∷ b ∷ rest) bytes long =
    le_bytes_2 (a ∷ b ∷ []) (little_number 2 (a ∷ b ∷ rest)) refl two (omega arith)
  where
    two : AreBytes (a ∷ b ∷ [])
    two zero = bytes 0
    two (suc zero) = bytes 1
    two (suc (suc k)) = lit
      where
        lit : 0 < 256
        lit = omega arith
half_back [] bytes long = absurd (omega arith)
half_back (a ∷ []) bytes long = absurd (omega arith)

all_zero : (xs : List ℕ) → list_all (λ byte. byte == 0) xs ≡ true → xs ≡ replicate (length xs) 0
all_zero [] zeros = refl
all_zero (x ∷ xs) zeros =
    let here : x ≡ 0 = grind (arith, nat_tests) in
    let rest : list_all (λ byte. byte == 0) xs ≡ true = grind (arith, nat_tests) in
    let more = all_zero xs rest in
    λ i. here i ∷ more i

-- what a write of a number leaves of the bytes

pub put_at : (xs ys ws : List ℕ) (at n : ℕ) → length xs ≡ 64 → at + n ≤ 64
    → ys ≡ ws ++ drop n (take (64 - at) (drop at xs))
    → take at xs ++ (ys ++ drop (64 - at) (drop at xs)) ≡ (take at xs ++ ws) ++ drop (at + n) xs
put_at xs ys ws at n long fits is =
    let rest = length-drop at xs in
    let short : length (drop at xs) ≤ 64 - at = omega arith in
    let tail : drop n (take (64 - at) (drop at xs)) ≡ drop (at + n) xs = ap (drop n) (take_all (64 - at) (drop at xs) short) ∙ drop-drop n at xs in
    let none : drop (64 - at) (drop at xs) ≡ [] = drop_all (64 - at) (drop at xs) short in
    ap (λ zs. take at xs ++ (ys ++ zs)) none
    ∙ ap (λ zs. take at xs ++ zs) (append-nil ys ∙ is ∙ ap (λ zs. ws ++ zs) tail)
    ∙ sym (append_assoc (take at xs) ws (drop (at + n) xs))

-- the fields of a descriptor are in the ranges of the code's types
pub record InRange (desc : Desc) : Type 0 where
  pub entry : desc.entry < 2 ^ 32
  pub ts : desc.ts < 2 ^ 32
  pub args : length desc.args ≡ 3
  pub arg1 : get_or desc.args 0 0 < 2 ^ 32
  pub arg2 : get_or desc.args 1 0 < 2 ^ 32
  pub arg3 : get_or desc.args 2 0 < 2 ^ 32
  pub hint : desc.hint < 2 ^ 32
  pub creator : desc.name.creator < 2 ^ 32
  pub index : desc.name.index < 2 ^ 32
  pub depth : desc.depth < 2 ^ 8
  pub kinds : desc.kinds < 2 ^ 16

three : (xs : List ℕ) → length xs ≡ 3 → get_or xs 0 0 ∷ get_or xs 1 0 ∷ get_or xs 2 0 ∷ [] ≡ xs
three [] e = absurd (omega arith)
three (a ∷ []) e = absurd (omega arith)
three (a ∷ b ∷ []) e = absurd (omega arith)
three (a ∷ b ∷ c ∷ []) e = refl
three (a ∷ b ∷ c ∷ d ∷ xs) e = absurd (omega arith)

fields_back : (desc : Desc) → InRange desc → fields_of (record_bytes desc) ≡ desc
unfolding fields_of record_bytes word_at half_at
fields_back desc fits =
    let entry = little_number-reads_back 4 desc.entry [] fits.entry in
    let ts = little_number-reads_back 4 desc.ts [] fits.ts in
    let one = little_number-reads_back 4 (get_or desc.args 0 0) [] fits.arg1 in
    let two = little_number-reads_back 4 (get_or desc.args 1 0) [] fits.arg2 in
    let last = little_number-reads_back 4 (get_or desc.args 2 0) [] fits.arg3 in
    let hint = little_number-reads_back 4 desc.hint [] fits.hint in
    let creator = little_number-reads_back 4 desc.name.creator [] fits.creator in
    let index = little_number-reads_back 4 desc.name.index [] fits.index in
    let depth = little_number-reads_back 2 desc.depth [] (omega (arith, fits.depth)) in
    let kinds = little_number-reads_back 2 desc.kinds [] fits.kinds in
    let args : _ ∷ _ ∷ _ ∷ [] ≡ desc.args = (λ i. one i ∷ two i ∷ last i ∷ []) ∙ three desc.args fits.args in
    λ i. record {
      name = record { creator = creator i; index = index i };
      entry = entry i;
      ts = ts i;
      args = args i;
      hint = hint i;
      depth = depth i;
      kinds = kinds i;
    }

is_desc-true : (desc : Desc) → IsDesc desc → is_desc desc ≡ true
is_desc-true desc is = by_tests desc.depth desc.kinds is.inside is.shallow is.kinds
  where
    by_tests : (depth kinds : ℕ) → 1 ≤ depth → depth ≤ MAX_DEPTH → kinds < 2 ^ depth
        → (nat_le 1 depth && nat_le depth MAX_DEPTH && nat_lt kinds (2 ^ depth)) ≡ true
    by_tests depth kinds a b c = grind (arith, nat_tests)

zeros : Desc → Bool
zeros desc = list_all (λ byte. byte == 0) (drop 36 (record_bytes desc))

zeros_are : (desc : Desc) → zeros desc ≡ true
unfolding zeros record_bytes
zeros_are desc = refl

pub desc_back : (desc : Desc) → InRange desc → IsDesc desc → desc_of (record_bytes desc) ≡ Some desc
unfolding desc_of is_record zeros
desc_back desc fits is =
    let fields = fields_back desc fits in
    let valid : is_record (record_bytes desc) ≡ true = ap (λ f. is_desc f && zeros desc) fields ∙ ap (λ b. b && zeros desc) (is_desc-true desc is) ∙ zeros_are desc in
    ap (λ b. cond b (Some (fields_of (record_bytes desc))) None) valid ∙ ap Some fields

-- the bytes of a record are those of its fields

bytes_from : (k : ℕ) (bytes : List ℕ) → AreBytes bytes → AreBytes (drop k bytes)
bytes_from k bytes are j = subst (λ x. x < 256) (sym (get_or-drop k bytes j 0)) (are (k + j))

long_from : (k n : ℕ) (bytes : List ℕ) → length bytes ≡ 64 → k + n ≤ 64 → n ≤ length (drop k bytes)
long_from k n bytes long fits = let rest = length-drop k bytes in omega arith

both_true : (a b : Bool) → (a && b) ≡ true → b ≡ true
both_true true b e = e
both_true false b e = absurd (cc)

joined : (n m : ℕ) (xs : List ℕ) → take n xs ++ take m (drop n xs) ≡ take (n + m) xs
joined n m xs = sym (take-add n m xs)

filled : (bytes : List ℕ) → length bytes ≡ 64 → is_record bytes ≡ true → replicate 28 0 ≡ drop 36 bytes
unfolding is_record
filled bytes long valid =
    sym (all_zero (drop 36 bytes) (both_true (is_desc (fields_of bytes)) (list_all (λ byte. byte == 0) (drop 36 bytes)) valid) ∙ ap (λ n. replicate n 0) (length-drop 36 bytes ∙ ap (λ n. n - 36) long))

-- ten numbers and the zeros, each as its bytes
in_turn : (a b c d e f g h i j z : List ℕ) → List ℕ
in_turn a b c d e f g h i j z = a ++ b ++ c ++ d ++ e ++ f ++ g ++ h ++ i ++ j ++ z

taken_in_turn : (xs : List ℕ)
    → in_turn (take 4 (drop 0 xs)) (take 4 (drop 4 xs)) (take 4 (drop 8 xs)) (take 4 (drop 12 xs)) (take 4 (drop 16 xs)) (take 4 (drop 20 xs)) (take 4 (drop 24 xs)) (take 4 (drop 28 xs)) (take 2 (drop 32 xs)) (take 2 (drop 34 xs)) (drop 36 xs) ≡ xs
unfolding in_turn
taken_in_turn xs =
    ap (λ front. front ++ drop 36 xs)
    (ap (λ front. front ++ take 2 (drop 34 xs))
    (ap (λ front. front ++ take 2 (drop 32 xs))
    (ap (λ front. front ++ take 4 (drop 28 xs))
    (ap (λ front. front ++ take 4 (drop 24 xs))
    (ap (λ front. front ++ take 4 (drop 20 xs))
    (ap (λ front. front ++ take 4 (drop 16 xs))
    (ap (λ front. front ++ take 4 (drop 12 xs)) (ap (λ front. front ++ take 4 (drop 8 xs)) (joined 4 4 xs) ∙ joined 8 4 xs) ∙ joined 12 4 xs)
    ∙ joined 16 4 xs) ∙ joined 20 4 xs) ∙ joined 24 4 xs) ∙ joined 28 4 xs) ∙ joined 32 2 xs) ∙ joined 34 2 xs)
    ∙ take-append-drop 36 xs

pub bytes_back : (bytes : List ℕ) → AreBytes bytes → length bytes ≡ 64 → is_record bytes ≡ true
    → record_bytes (fields_of bytes) ≡ bytes
unfolding record_bytes fields_of word_at half_at in_turn
bytes_back bytes are long valid =
    let word : (k : ℕ) → k + 4 ≤ 64 → word_bytes (little_number 4 (drop k bytes)) ≡ take 4 (drop k bytes) = λ k fits. word_back (drop k bytes) (bytes_from k bytes are) (long_from k 4 bytes long fits) in
    let half : (k : ℕ) → k + 2 ≤ 64 → half_bytes (little_number 2 (drop k bytes)) ≡ take 2 (drop k bytes) = λ k fits. half_back (drop k bytes) (bytes_from k bytes are) (long_from k 2 bytes long fits) in
    let same : record_bytes (fields_of bytes) ≡ in_turn (take 4 (drop 0 bytes)) (take 4 (drop 4 bytes)) (take 4 (drop 8 bytes)) (take 4 (drop 12 bytes)) (take 4 (drop 16 bytes)) (take 4 (drop 20 bytes)) (take 4 (drop 24 bytes)) (take 4 (drop 28 bytes)) (take 2 (drop 32 bytes)) (take 2 (drop 34 bytes)) (drop 36 bytes) =
    λ i. in_turn (word 0 (omega arith) i) (word 4 (omega arith) i) (word 8 (omega arith) i) (word 12 (omega arith) i) (word 16 (omega arith) i) (word 20 (omega arith) i) (word 24 (omega arith) i) (word 28 (omega arith) i) (half 32 (omega arith) i) (half 34 (omega arith) i) (filled bytes long valid i)
    in
    same ∙ taken_in_turn bytes

-- what a record's descriptor is

pub desc_of-valid : (bytes : List ℕ) → is_record bytes ≡ true → desc_of bytes ≡ Some (fields_of bytes)
unfolding desc_of
desc_of-valid bytes valid = ap (λ b. cond b (Some (fields_of bytes)) None) valid

pub desc_of-some : (bytes : List ℕ) (desc : Desc) → desc_of bytes ≡ Some desc
    → (is_record bytes ≡ true) × (fields_of bytes ≡ desc)
unfolding desc_of
desc_of-some bytes desc is = by_test (is_record bytes) (fields_of bytes) is
  where
    by_test : (b : Bool) (found : Desc) → cond b (Some found) None ≡ Some desc → (b ≡ true) × (found ≡ desc)
    by_test true found e = (refl, cc)
    by_test false found e = absurd (cc)

pub fields_of-valid : (bytes : List ℕ) → is_record bytes ≡ true → IsDesc (fields_of bytes)
unfolding is_record
fields_of-valid bytes valid =
    by_desc (fields_of bytes) (and_parts (is_desc (fields_of bytes)) (list_all (λ byte. byte == 0) (drop 36 bytes)) valid).0
  where
    by_desc : (desc : Desc) → is_desc desc ≡ true → IsDesc desc
    by_desc desc passed =
        let parts = by_tests desc.depth desc.kinds passed in
        record { inside = parts.0; shallow = parts.1; kinds = parts.2 }
      where
        by_tests : (depth kinds : ℕ) → (nat_le 1 depth && nat_le depth MAX_DEPTH && nat_lt kinds (2 ^ depth)) ≡ true
            → (1 ≤ depth) × (depth ≤ MAX_DEPTH) × (kinds < 2 ^ depth)
        by_tests depth kinds e = (grind (arith, nat_tests), grind (arith, nat_tests), grind (arith, nat_tests))
