-- Words and tasks that were written are read back, where they stand between other bytes.
use Rattle.std.proofs.Common.{◌≡◌, refl, sym, ap, ◌∙◌, subst, ◌<◌, ◌+◌, ◌*◌, ◌^◌, ℕ, List, [], ◌∷◌, ◌++◌, length, map}
use Rattle.std.proofs.Common.{arith, append_assoc, length-append}
use Rattle.std.proofs.Math.Seq.{drop-append_seam, drop-append-add}
use Rattle.std.specs.List.{AllByRecursion, flat_map, range_with_len}
use Rattle.byteorder.specs.Endian.{little_number}
use Rattle.byteorder.specs.Numbers.{little_number-reads_back}
use Rattle.guest_image.specs.declared.image.ImageTask.{ImageTask}
use Rattle.guest_image.specs.Numbers.{word_at, word_bytes}
use Rattle.guest_image.specs.ImageValue.{IsTask}
use Rattle.guest_image.specs.Reading.{image_task_at}
use Rattle.guest_image.specs.Writing.{task_bytes}
use Rattle.std.proofs.lemmas.List.Elements.{recursion_from_All}

-- words of 4 bytes
abbrev pub AreWords : List ℕ → Type 0
AreWords words = AllByRecursion (λ w. w < 2 ^ 32) words

word_at-front : (front back : List ℕ) (w : ℕ) → w < 2 ^ 32
    → word_at (front ++ (word_bytes w ++ back)) (length front) ≡ w
unfolding word_at
word_at-front front back w small =
    ap (little_number 4) (drop-append_seam front (word_bytes w ++ back)) ∙ little_number-reads_back 4 w back small

word_at-behind : (front tail : List ℕ) (n : ℕ) → word_at (front ++ tail) (length front + n) ≡ word_at tail n
unfolding word_at
word_at-behind front tail n = ap (little_number 4) (drop-append-add front tail n)

pub words_back : (front back : List ℕ) (words : List ℕ) (at n : ℕ) → at + 4 * n ≡ length front → AreWords words
    → map (λ k. word_at (front ++ (flat_map word_bytes words ++ back)) (at + 4 * k)) (range_with_len n (length words)) ≡ words
words_back front back [] at n e small = refl
words_back front back (w ∷ ws) at n e small =
    let bytes : front ++ (flat_map word_bytes (w ∷ ws) ++ back) ≡ (front ++ word_bytes w) ++ (flat_map word_bytes ws ++ back) = sym (append_assoc front (word_bytes w) (flat_map word_bytes ws ++ back)) in
    let first : word_at (front ++ (word_bytes w ++ (flat_map word_bytes ws ++ back))) (at + 4 * n) ≡ w = rw e (word_at-front front (flat_map word_bytes ws ++ back) w small.0) in
    let rest = words_back (front ++ word_bytes w) back ws at (n + 1) (omega (arith, e, length-append front (word_bytes w))) small.1 in
    let again = subst (λ bs. map (λ k. word_at bs (at + 4 * k)) (range_with_len (n + 1) (length ws)) ≡ ws) (sym bytes) rest in
    ap (λ x. x ∷ map (λ k. word_at (front ++ (flat_map word_bytes (w ∷ ws) ++ back)) (at + 4 * k)) (range_with_len (n + 1) (length ws))) first
    ∙ ap (λ xs. w ∷ xs) again

abbrev five_bytes : ℕ → ℕ → ℕ → ℕ → ℕ → List ℕ → List ℕ
five_bytes e ts a b c back =
    word_bytes e ++ (word_bytes ts ++ (word_bytes a ++ (word_bytes b ++ (word_bytes c ++ back))))

-- the five words of a task
five_back : (e ts a b c : ℕ) (back : List ℕ) → e < 2 ^ 32 → ts < 2 ^ 32 → a < 2 ^ 32 → b < 2 ^ 32 → c < 2 ^ 32
    → (word_at (five_bytes e ts a b c back) 0 ≡ e) × (word_at (five_bytes e ts a b c back) 4 ≡ ts) × (word_at (five_bytes e ts a b c back) 8 ≡ a) × (word_at (five_bytes e ts a b c back) 12 ≡ b) × (word_at (five_bytes e ts a b c back) 16 ≡ c)
unfolding word_at
five_back e ts a b c back he hts ha hb hc = (
  little_number-reads_back 4 e (word_bytes ts ++ (word_bytes a ++ (word_bytes b ++ (word_bytes c ++ back)))) he,
  little_number-reads_back 4 ts (word_bytes a ++ (word_bytes b ++ (word_bytes c ++ back))) hts,
  little_number-reads_back 4 a (word_bytes b ++ (word_bytes c ++ back)) ha,
  little_number-reads_back 4 b (word_bytes c ++ back) hb,
  little_number-reads_back 4 c back hc,
)

parts_back : (front back : List ℕ) (e ts : ℕ) (args : List ℕ) → e < 2 ^ 32 → ts < 2 ^ 32 → length args ≡ 3
    → AreWords args
    → image_task_at (front ++ (flat_map word_bytes (e ∷ ts ∷ args) ++ back)) (length front) ≡ record { entry = e; ts = ts; args = args }
unfolding image_task_at
parts_back front back e ts [] he hts three small = absurd (omega (arith, three))
parts_back front back e ts (a ∷ []) he hts three small = absurd (omega (arith, three))
parts_back front back e ts (a ∷ b ∷ []) he hts three small = absurd (omega (arith, three))
parts_back front back e ts (a ∷ b ∷ c ∷ []) he hts three small =
    let w = five_back e ts a b c back he hts small.0 small.1.0 small.1.1.0 in
    let tail = five_bytes e ts a b c back in
    let k = word_at-behind front tail in
    let z : length front + 0 ≡ length front = omega arith in
    let first : word_at (front ++ tail) (length front) ≡ e = ap (word_at (front ++ tail)) (sym z) ∙ k 0 ∙ w.0 in
    rw (first, k 4 ∙ w.1, k 8 ∙ w.2, k 12 ∙ w.3, k 16 ∙ w.4) refl
parts_back front back e ts (a ∷ b ∷ c ∷ d ∷ r) he hts three small = absurd (omega (arith, three))

task_back : (front back : List ℕ) (t : ImageTask) → IsTask t
    → image_task_at (front ++ (task_bytes t ++ back)) (length front) ≡ t
task_back front back t is =
    parts_back front back t.entry t.ts t.args is.entry is.ts is.three (recursion_from_All _ t.args is.args)

pub length-words : (words : List ℕ) → length (flat_map word_bytes words) ≡ 4 * length words
length-words [] = refl
length-words (w ∷ ws) = omega (arith, length-words ws)

length-task_bytes : (t : ImageTask) → IsTask t → length (task_bytes t) ≡ 20
length-task_bytes t is = omega (arith, length-words t.args, is.three)

pub tasks_back : (front back : List ℕ) (tasks : List ImageTask) (at n : ℕ) → at + 20 * n ≡ length front
    → AllByRecursion IsTask tasks
    → map (λ k. image_task_at (front ++ (flat_map task_bytes tasks ++ back)) (at + 20 * k)) (range_with_len n (length tasks)) ≡ tasks
tasks_back front back [] at n e each = refl
tasks_back front back (t ∷ ts) at n e each =
    let bytes : front ++ ((task_bytes t ++ flat_map task_bytes ts) ++ back) ≡ (front ++ task_bytes t) ++ (flat_map task_bytes ts ++ back) = simp (append_assoc) refl in
    let first : image_task_at (front ++ ((task_bytes t ++ flat_map task_bytes ts) ++ back)) (at + 20 * n) ≡ t = rw (e, append_assoc) (task_back front (flat_map task_bytes ts ++ back) t each.0) in
    let rest = tasks_back (front ++ task_bytes t) back ts at (n + 1) (omega (arith, e, length-append front (task_bytes t), length-task_bytes t each.0)) each.1 in
    let again = subst (λ bs. map (λ k. image_task_at bs (at + 20 * k)) (range_with_len (n + 1) (length ts)) ≡ ts) (sym bytes) rest in
    ap (λ x. x ∷ map (λ k. image_task_at (front ++ ((task_bytes t ++ flat_map task_bytes ts) ++ back)) (at + 20 * k)) (range_with_len (n + 1) (length ts))) first
    ∙ ap (λ xs. t ∷ xs) again

pub length-tasks : (tasks : List ImageTask) → AllByRecursion IsTask tasks
    → length (flat_map task_bytes tasks) ≡ 20 * length tasks
length-tasks [] each = refl
length-tasks (t ∷ ts) each =
    omega (arith, length-tasks ts each.1, length-append (task_bytes t) (flat_map task_bytes ts), length-task_bytes t each.0)
