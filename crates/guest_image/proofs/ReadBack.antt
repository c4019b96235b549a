-- An image that was written is read back.
use Rattle.std.proofs.Common.{◌≡◌, refl, sym, ap, ◌∙◌, subst, ◌<◌, ◌+◌, ◌-◌, ◌*◌, ◌%◌, ◌^◌, ℕ, List, [], ◌++◌, length}
use Rattle.std.proofs.Common.{take, drop, map, Ok, arith, append_assoc, append-nil, length-append, true, false, nat_lt}
use Rattle.std.proofs.Common.{◌==◌, ◌||◌, inl, inr}
use Rattle.std.proofs.lemmas.Grind.{common_steps}
use Rattle.std.proofs.lemmas.Bool.Decides.{nat_tests}
use Rattle.std.proofs.lemmas.List.Elements.{recursion_from_All}
use Rattle.std.proofs.Math.Seq.{take-append_seam, drop-append_seam}
use Rattle.std.specs.List.{flat_map, range_with_len, slice_range}
use Rattle.byteorder.specs.Numbers.{little_number-reads_back}
use Rattle.guest_image.specs.declared.image.Kind.{Kind}
use Rattle.guest_image.specs.declared.image.Kind.TheVariants.{Unordered, Ordered}
use Rattle.guest_image.specs.Numbers.{word_at, half_at, word_bytes, half_bytes}
use Rattle.guest_image.specs.ImageValue.{ImageValue, IsImage, IsVersion}
use Rattle.guest_image.specs.Limits.{limits_fault, AreWithinLimits}
use Rattle.guest_image.specs.Reading.{image_of, words_from, tasks_from, image_task_at, value_in_bytes, header_fault}
use Rattle.guest_image.specs.Reading.{whole_length, root_kind}
use Rattle.guest_image.specs.Writing.{kind_number, header_bytes, task_bytes, image_bytes, ImageReadsBack}
use Rattle.guest_image.proofs.WordsBack.{words_back, tasks_back, length-words, length-tasks}

-- the bytes of an image before others, grouped to the right
unfoldable laid : ImageValue → List ℕ → List ℕ
laid i rest = header_bytes i ++ (flat_map word_bytes i.text ++ (i.initial ++ (flat_map task_bytes i.tasks ++ rest)))

regrouped : (a b c d e : List ℕ) → a ++ b ++ c ++ d ++ e ≡ a ++ (b ++ (c ++ (d ++ e)))
regrouped a b c d e = simp append_assoc

image_bytes-append : (i : ImageValue) (rest : List ℕ) → image_bytes i ++ rest ≡ laid i rest
unfolding image_bytes laid
image_bytes-append i rest =
    regrouped (header_bytes i) (flat_map word_bytes i.text) i.initial (flat_map task_bytes i.tasks) rest

-- how many bytes an image has
abbrev size_of : ImageValue → ℕ
size_of i = 32 + 4 * length i.text + length i.initial + 20 * length i.tasks

length-image_bytes : (i : ImageValue) → IsImage i → length (image_bytes i) ≡ size_of i
unfolding image_bytes
length-image_bytes i h =
    let T = flat_map word_bytes i.text in
    let K = flat_map task_bytes i.tasks in
    let tasks : length K ≡ 20 * length i.tasks = length-tasks i.tasks (recursion_from_All _ i.tasks h.each_task) in
    omega (arith, length-words i.text, tasks, length-append (header_bytes i ++ T ++ i.initial) K, length-append (header_bytes i ++ T) i.initial, length-append (header_bytes i) T)

length-laid : (i : ImageValue) (rest : List ℕ) → IsImage i → length (laid i rest) ≡ size_of i + length rest
length-laid i rest h =
    sym (ap length (image_bytes-append i rest)) ∙ length-append (image_bytes i) rest
    ∙ ap (λ n. n + length rest) (length-image_bytes i h)

-- the numbers of the image's header stand in the bytes, each at its offset
record Header (i : ImageValue) (bytes : List ℕ) : Type 0 where
  magic : word_at bytes 0 ≡ 0x43415246
  version : half_at bytes 4 ≡ i.version
  kind : half_at bytes 6 ≡ kind_number i.kind
  text : word_at bytes 8 ≡ length i.text
  initial : word_at bytes 12 ≡ length i.initial
  size : word_at bytes 16 ≡ i.data_size
  offset : word_at bytes 20 ≡ i.window_offset
  words : word_at bytes 24 ≡ i.window_words
  tasks : word_at bytes 28 ≡ length i.tasks

kind-fits : (k : Kind) → kind_number k < 256 ^ 2
kind-fits Unordered = omega arith
kind-fits Ordered = omega arith

header_back : (i : ImageValue) (rest : List ℕ) → IsImage i → Header i (laid i rest)
unfolding word_at half_at laid
header_back i rest h =
    let back = flat_map word_bytes i.text ++ (i.initial ++ (flat_map task_bytes i.tasks ++ rest)) in
    let n1 = length i.text in
    let n2 = length i.initial in
    let n6 = length i.tasks in
    let six : List ℕ → List ℕ = λ (r : List ℕ). word_bytes n6 ++ r in
    let five : List ℕ → List ℕ = λ (r : List ℕ). word_bytes i.window_words ++ six r in
    let four : List ℕ → List ℕ = λ (r : List ℕ). word_bytes i.window_offset ++ five r in
    let three : List ℕ → List ℕ = λ (r : List ℕ). word_bytes i.data_size ++ four r in
    let two : List ℕ → List ℕ = λ (r : List ℕ). word_bytes n2 ++ three r in
    let one : List ℕ → List ℕ = λ (r : List ℕ). word_bytes n1 ++ two r in
    record {
      magic = refl;
      version =
          little_number-reads_back 2 i.version (half_bytes (kind_number i.kind) ++ one back) (small i.version h.version);
      kind = little_number-reads_back 2 (kind_number i.kind) (one back) (kind-fits i.kind);
      text = little_number-reads_back 4 n1 (two back) (omega (arith, h.text));
      initial = little_number-reads_back 4 n2 (three back) (omega (arith, h.initial, h.data_size));
      size = little_number-reads_back 4 i.data_size (four back) (omega (arith, h.data_size));
      offset = little_number-reads_back 4 i.window_offset (five back) (omega (arith, h.window_inside, h.data_size));
      words = little_number-reads_back 4 i.window_words (six back) (omega (arith, h.window_words));
      tasks = little_number-reads_back 4 n6 back (omega (arith, h.tasks));
    }
  where
    small : (v : ℕ) → IsVersion v → v < 256 ^ 2
    small v (inl is) = omega (arith, is)
    small v (inr is) = omega (arith, is)

-- numbers within the limits have no fault
limits_fault-none : (a b c d e f : ℕ) → AreWithinLimits a b c d e f → limits_fault a b c d e f ≡ Ok tt
unfolding limits_fault
limits_fault-none a b c d e f h =
    let text : nat_lt 65536 a ≡ false = grind (arith, nat_tests, common_steps, h.text) in
    let size : nat_lt 16777216 c ≡ false = grind (arith, nat_tests, common_steps, h.data_size) in
    let initial : nat_lt c b ≡ false = grind (arith, nat_tests, common_steps, h.initial) in
    let words : nat_lt 4096 e ≡ false = grind (arith, nat_tests, common_steps, h.window_words) in
    let tasks : nat_lt 65536 f ≡ false = grind (arith, nat_tests, common_steps, h.tasks) in
    let aligned : (d % 4 == 0) ≡ true = grind (arith, nat_tests, common_steps, h.window_aligned) in
    let inside : nat_lt c (d + 4 * e) ≡ false = grind (arith, nat_tests, common_steps, h.window_inside) in
    let some : (f == 0) ≡ false = grind (arith, nat_tests, common_steps, h.some_task) in
    rw (text, size, initial, words, tasks, aligned, inside, some) refl

header_fault-none : (i : ImageValue) (bytes : List ℕ) → IsImage i → Header i bytes → header_fault bytes ≡ Ok tt
unfolding header_fault
header_fault-none i bytes h w =
    let fits : AreWithinLimits (length i.text) (length i.initial) i.data_size i.window_offset i.window_words (length i.tasks) = record {
      text = h.text;
      data_size = h.data_size;
      initial = h.initial;
      window_words = h.window_words;
      tasks = h.tasks;
      some_task = h.some_task;
      window_aligned = h.window_aligned;
      window_inside = h.window_inside;
    } in
    rw (w.magic, w.version, known i.version h.version, w.kind, kinds i.kind, w.text, w.initial, w.size, w.offset, w.words, w.tasks) (limits_fault-none _ _ _ _ _ _ fits)
  where
    known : (v : ℕ) → IsVersion v → ((v == 1) || (v == 2)) ≡ true
    known v (inl is) = rw is refl
    known v (inr is) = rw is refl

    kinds : (k : Kind) → nat_lt 1 (kind_number k) ≡ false
    kinds Unordered = refl
    kinds Ordered = refl

kind_back : (k : Kind) → root_kind (kind_number k) ≡ k
kind_back Unordered = refl
kind_back Ordered = refl

text_back : (i : ImageValue) (rest : List ℕ) → IsImage i → words_from (laid i rest) 32 (length i.text) ≡ i.text
unfolding laid words_from
text_back i rest h =
    words_back (header_bytes i) (i.initial ++ (flat_map task_bytes i.tasks ++ rest)) i.text 32 0 refl (recursion_from_All _ i.text h.words)

part : (front mid back : List ℕ) (a b : ℕ) → a ≡ length front → b ≡ length mid
    → slice_range (front ++ (mid ++ back)) a (a + b) ≡ mid
part front mid back a b e f =
    let d : drop a (front ++ (mid ++ back)) ≡ mid ++ back = rw e (drop-append_seam front (mid ++ back)) in
    let k : a + b - a ≡ b = omega arith in
    ap (λ n. take n (drop a (front ++ (mid ++ back)))) k ∙ ap (take b) d ∙ rw f (take-append_seam mid back)

initial_back : (i : ImageValue) (rest : List ℕ)
    → slice_range (laid i rest) (32 + 4 * length i.text) (32 + 4 * length i.text + length i.initial) ≡ i.initial
unfolding laid
initial_back i rest =
    let T = flat_map word_bytes i.text in
    let back = flat_map task_bytes i.tasks ++ rest in
    let bytes : (header_bytes i ++ T) ++ (i.initial ++ back) ≡ header_bytes i ++ (T ++ (i.initial ++ back)) = append_assoc (header_bytes i) T (i.initial ++ back) in
    let count : 32 + 4 * length i.text ≡ length (header_bytes i ++ T) = omega (arith, length-append (header_bytes i) T, length-words i.text) in
    subst (λ bs. slice_range bs (32 + 4 * length i.text) (32 + 4 * length i.text + length i.initial) ≡ i.initial) bytes (part (header_bytes i ++ T) i.initial back (32 + 4 * length i.text) (length i.initial) count refl)

first_tasks_back : (i : ImageValue) (rest : List ℕ) → IsImage i
    → tasks_from (laid i rest) (32 + 4 * length i.text + length i.initial) (length i.tasks) ≡ i.tasks
unfolding laid tasks_from
first_tasks_back i rest h =
    let T = flat_map word_bytes i.text in
    let K = flat_map task_bytes i.tasks in
    let at = 32 + 4 * length i.text + length i.initial in
    let front = (header_bytes i ++ T) ++ i.initial in
    let bytes : front ++ (K ++ rest) ≡ header_bytes i ++ (T ++ (i.initial ++ (K ++ rest))) = append_assoc (header_bytes i ++ T) i.initial (K ++ rest) ∙ append_assoc (header_bytes i) T (i.initial ++ (K ++ rest)) in
    let count : at + 20 * 0 ≡ length front = omega (arith, length-append (header_bytes i ++ T) i.initial, length-append (header_bytes i) T, length-words i.text) in
    subst (λ bs. map (λ k. image_task_at bs (at + 20 * k)) (range_with_len 0 (length i.tasks)) ≡ i.tasks) bytes
    (tasks_back front rest i.tasks at 0 count (recursion_from_All _ i.tasks h.each_task))

value_back : (i : ImageValue) (rest : List ℕ) → IsImage i → Header i (laid i rest) → value_in_bytes (laid i rest) ≡ i
unfolding value_in_bytes
value_back i rest h w =
    rw (w.version, w.kind, w.text, w.initial, w.size, w.offset, w.words, w.tasks, kind_back i.kind, text_back i rest h, initial_back i rest, first_tasks_back i rest h) refl

whole_back : (i : ImageValue) (rest : List ℕ) → Header i (laid i rest) → whole_length (laid i rest) ≡ size_of i
unfolding whole_length
whole_back i rest w = rw (w.text, w.initial, w.tasks) refl

laid_back : (i : ImageValue) (rest : List ℕ) → IsImage i → image_of (laid i rest) ≡ Ok (i, size_of i)
unfolding image_of
laid_back i rest h =
    let w = header_back i rest h in
    let n = length-laid i rest h in
    let long : nat_lt (length (laid i rest)) 32 ≡ false = grind (arith, nat_tests, common_steps, n) in
    let own : nat_lt (length (laid i rest)) (size_of i) ≡ false = grind (arith, nat_tests, common_steps, n) in
    rw (long, header_fault-none i (laid i rest) h w, whole_back i rest w, own, value_back i rest h w) refl

pub read_back : ImageReadsBack
read_back i rest h =
    ap image_of (image_bytes-append i rest) ∙ laid_back i rest h ∙ ap (λ n. Ok (i, n)) (sym (length-image_bytes i h))

-- the same of its bytes alone
pub read_back_alone : (i : ImageValue) (bytes : List ℕ) (n : ℕ) → IsImage i → bytes ≡ image_bytes i → n ≡ length bytes
    → image_of bytes ≡ Ok (i, n)
read_back_alone i bytes n h is count =
    ap image_of (is ∙ sym (append-nil (image_bytes i))) ∙ read_back i [] h
    ∙ ap (λ k. Ok (i, k)) (sym (count ∙ ap length is))
