-- The image that a header describes, from its parts.
use Rattle.std.proofs.Common.{◌≡◌, refl, ℕ, ◌+◌, ◌-◌, ◌*◌, ◌≤◌, List, length, drop, arith, length-take, length-drop}
use Rattle.std.proofs.lemmas.List.FromFn.{length-map-range_with_len}
use Rattle.std.specs.List.{slice_range}
use Rattle.guest_image.specs.declared.image.Kind.{Kind}
use Rattle.guest_image.specs.declared.image.ImageTask.{ImageTask}
use Rattle.guest_image.specs.Limits.{AreWithinLimits}
use Rattle.guest_image.specs.Numbers.{word_at, half_at}
use Rattle.guest_image.specs.Reading.{HeaderFits, value_in_bytes, words_from, tasks_from, image_task_at, root_kind}

length-words_from : (bytes : List ℕ) (at n : ℕ) → length (words_from bytes at n) ≡ n
unfolding words_from
length-words_from bytes at n = length-map-range_with_len (λ k. word_at bytes (at + 4 * k)) 0 n

length-tasks_from : (bytes : List ℕ) (at n : ℕ) → length (tasks_from bytes at n) ≡ n
unfolding tasks_from
length-tasks_from bytes at n = length-map-range_with_len (λ k. image_task_at bytes (at + 20 * k)) 0 n

length-part : (bytes : List ℕ) (n m : ℕ) → 32 + 4 * n + m ≤ length bytes
    → length (slice_range bytes (32 + 4 * n) (32 + 4 * n + m)) ≡ m
length-part bytes n m long =
    omega (arith, length-take (32 + 4 * n + m - (32 + 4 * n)) (drop (32 + 4 * n) bytes), length-drop (32 + 4 * n) bytes)

-- the parts of which a header with good numbers tells are within the limits
pub value_fits : (bytes : List ℕ) (n m t d o w : ℕ) (text initial : List ℕ) (tasks : List ImageTask)
    → n ≡ word_at bytes 8 → m ≡ word_at bytes 12 → t ≡ word_at bytes 28
    → d ≡ word_at bytes 16 → o ≡ word_at bytes 20 → w ≡ word_at bytes 24
    → text ≡ words_from bytes 32 n → initial ≡ slice_range bytes (32 + 4 * n) (32 + 4 * n + m)
    → tasks ≡ tasks_from bytes (32 + 4 * n + m) t
    → 32 + 4 * word_at bytes 8 + word_at bytes 12 + 20 * word_at bytes 28 ≤ length bytes → HeaderFits bytes
    → AreWithinLimits (length text) (length initial) d o w (length tasks)
value_fits bytes n m t d o w text initial tasks en em et ed eo ew ex ei ea long fits =
    let part : length (slice_range bytes (32 + 4 * n) (32 + 4 * n + m)) ≡ m = length-part bytes n m (omega (arith, en, em, et, long)) in
    rw (ex, ei, ea, length-words_from bytes 32 n, part, length-tasks_from bytes (32 + 4 * n + m) t, en, em, et, ed, eo, ew) fits.1

-- they are what the bytes say
pub value_from : (bytes : List ℕ) (v : ℕ) (k : Kind) (n m t d o w : ℕ) (text initial : List ℕ) (tasks : List ImageTask)
    → v ≡ half_at bytes 4 → k ≡ root_kind (half_at bytes 6) → n ≡ word_at bytes 8 → m ≡ word_at bytes 12
    → t ≡ word_at bytes 28
    → d ≡ word_at bytes 16 → o ≡ word_at bytes 20 → w ≡ word_at bytes 24
    → text ≡ words_from bytes 32 n → initial ≡ slice_range bytes (32 + 4 * n) (32 + 4 * n + m)
    → tasks ≡ tasks_from bytes (32 + 4 * n + m) t
    → record { version = v; kind = k; text = text; initial = initial; data_size = d; window_offset = o; window_words = w; tasks = tasks } ≡ value_in_bytes bytes
unfolding value_in_bytes
value_from bytes v k n m t d o w text initial tasks ev ek en em et ed eo ew ex ei ea =
    rw (ex, ei, ea, ev, ek, en, em, et, ed, eo, ew) refl
