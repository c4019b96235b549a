-- The lines of a list that are written one after another, and a text that is written in chunks.
use Rattle.std.proofs.Common.{◌≡◌, ℕ, ◌+◌, ◌-◌, ◌<◌, ◌≤◌, List, ◌++◌, length, take, drop, get_or, Some, Ok, Err, refl}
use Rattle.std.proofs.Common.{ap, sym, ◌∙◌, arith, append_assoc}
use Rattle.std.specs.List.{flat_map, enumerate_from, slice_get}
use Rattle.std.proofs.lemmas.Option.{slice_get-get_or}
use Rattle.std.proofs.lemmas.List.{take-append-drop}
use Rattle.std.proofs.lemmas.List.FromFn.{get_or-enumerate_from, length-enumerate_from, get_or-map-range_with_len}
use Rattle.std.proofs.lemmas.List.FromFn.{length-map-range_with_len}
use Rattle.std.proofs.lemmas.Grind.{flat_map-append}
use Rattle.std.proofs.Math.Seq.{take-add}
use Rattle.guest_image.specs.ImageValue.{ImageValue}
use Rattle.run_journal.specs.declared.journal.Entry.{Entry}
use Rattle.sim_io.specs.Parts.{Writes}
use Rattle.sim_io.specs.Streams.{SinkState}
use Rattle.sim_io.proofs.Proved.{Wrote, wrote_front, wrote_item, wrote_item_front, wrote_items, wrote_more}
use Rattle.report_text.specs.declared.report.WindowWord.{WindowWord}
use Rattle.report_text.specs.Hex.{byte_hex}
use Rattle.report_text.specs.Report.{entry_line, window_line, window_of, window_word}

entry_at : (es : List Entry) (i : ℕ) (d : Entry) → i < length es
    → get_or (enumerate_from 1 es) i (0, d) ≡ (i + 1, get_or es i d)
entry_at es i d lt = let k : 1 + i ≡ i + 1 = omega arith in rw (get_or-enumerate_from 1 es i (0, d) lt, k) refl

pub entry_written : {E : Type 0} (es : List Entry) (i : ℕ) (d : Entry) (a b c : SinkState) → i < length es
    → Wrote a b (flat_map entry_line (take i (enumerate_from 1 es)))
    → Writes {E = E} b c (Ok tt) (entry_line (i + 1, get_or es i d))
    → Wrote a c (flat_map entry_line (take (i + 1) (enumerate_from 1 es)))
entry_written {E} es i d a b c lt w h =
    wrote_item {E = E} entry_line (enumerate_from 1 es) i (0, d) a b c (rw length-enumerate_from lt) w (rw (entry_at es i d lt) h)

pub entry_failed : {E : Type 0} (es : List Entry) (i : ℕ) (d : Entry) (a b c : SinkState) (e : E) → i < length es
    → Wrote a b (flat_map entry_line (take i (enumerate_from 1 es)))
    → Writes b c (Err e) (entry_line (i + 1, get_or es i d))
    → Writes a c (Err e) (flat_map entry_line (enumerate_from 1 es))
entry_failed es i d a b c e lt w h =
    wrote_item_front entry_line (enumerate_from 1 es) i (0, d) a b c e (rw length-enumerate_from lt) w (rw (entry_at es i d lt) h)

pub entries_written : {E : Type 0} (es : List Entry) (i : ℕ) (a b : SinkState) → i ≡ length es
    → Wrote a b (flat_map entry_line (take i (enumerate_from 1 es)))
    → Writes {E = E} a b (Ok tt) (flat_map entry_line (enumerate_from 1 es))
entries_written {E} es i a b e w =
    wrote_items {E = E} entry_line (enumerate_from 1 es) i a b (rw length-enumerate_from e) w

pub length-window_of : (image : ImageValue) (memory : List ℕ) → length (window_of image memory) ≡ image.window_words
unfolding window_of
length-window_of image memory = length-map-range_with_len (window_word image memory) 0 image.window_words

pub length_window : (image : ImageValue) (memory : List ℕ) (window : List WindowWord) → window ≡ window_of image memory
    → image.window_words ≡ length window
length_window image memory window is = sym (ap length is ∙ length-window_of image memory)

pub get_or-window_of : (image : ImageValue) (memory : List ℕ) (i : ℕ) (d : WindowWord) → i < image.window_words
    → get_or (window_of image memory) i d ≡ window_word image memory i
unfolding window_of
get_or-window_of image memory i d lt =
    get_or-map-range_with_len (window_word image memory) 0 image.window_words i i d lt (omega arith)

pub slice_get-window_of : (image : ImageValue) (memory : List ℕ) (i : ℕ) → i < image.window_words
    → slice_get (window_of image memory) i ≡ Some (window_word image memory i)
slice_get-window_of image memory i lt =
    let d = window_word image memory i in
    slice_get-get_or (window_of image memory) i d (rw length-window_of lt)
    ∙ ap Some (get_or-window_of image memory i d lt)

pub word_written : {E : Type 0} (image : ImageValue) (memory : List ℕ) (i : ℕ) (a b c : SinkState)
    → i < image.window_words
    → Wrote a b (flat_map window_line (take i (window_of image memory)))
    → Writes {E = E} b c (Ok tt) (window_line (window_word image memory i))
    → Wrote a c (flat_map window_line (take (i + 1) (window_of image memory)))
word_written {E} image memory i a b c lt w h =
    let d = window_word image memory i in
    wrote_item {E = E} window_line (window_of image memory) i d a b c (rw length-window_of lt) w (rw (get_or-window_of image memory i d lt) h)

pub word_failed : {E : Type 0} (image : ImageValue) (memory : List ℕ) (i : ℕ) (a b c : SinkState) (e : E)
    → i < image.window_words
    → Wrote a b (flat_map window_line (take i (window_of image memory)))
    → Writes b c (Err e) (window_line (window_word image memory i))
    → Writes a c (Err e) (flat_map window_line (window_of image memory))
word_failed image memory i a b c e lt w h =
    let d = window_word image memory i in
    wrote_item_front window_line (window_of image memory) i d a b c e (rw length-window_of lt) w (rw (get_or-window_of image memory i d lt) h)

pub words_written : {E : Type 0} (image : ImageValue) (memory : List ℕ) (i : ℕ) (a b : SinkState)
    → i ≡ image.window_words
    → Wrote a b (flat_map window_line (take i (window_of image memory)))
    → Writes {E = E} a b (Ok tt) (flat_map window_line (window_of image memory))
words_written {E} image memory i a b e w =
    wrote_items {E = E} window_line (window_of image memory) i a b (rw length-window_of e) w

-- the text of a list up to a place, and of the chunk behind it
flat_map-cut : {X : Type 0} (f : X → List ℕ) (xs : List X) (i j : ℕ) → i ≤ j
    → flat_map f (take j xs) ≡ flat_map f (take i xs) ++ flat_map f (take (j - i) (drop i xs))
flat_map-cut f xs i j le =
    let e : j ≡ i + (j - i) = omega arith in
    let h : take (i + (j - i)) xs ≡ take i xs ++ take (j - i) (drop i xs) = take-add i (j - i) xs in
    let g : take j xs ≡ take i xs ++ take (j - i) (drop i xs) = rw (← e) at h in
    rw (g, flat_map-append) refl

flat_map-whole : {X : Type 0} (f : X → List ℕ) (xs : List X) (i j : ℕ) → i ≤ j
    → flat_map f xs ≡ flat_map f (take i xs) ++ (flat_map f (take (j - i) (drop i xs)) ++ flat_map f (drop j xs))
flat_map-whole f xs i j le =
    ap (flat_map f) (sym (take-append-drop j xs))
    ∙ flat_map-append f (take j xs) (drop j xs)
    ∙ ap (λ front. front ++ flat_map f (drop j xs)) (flat_map-cut f xs i j le)
    ∙ append_assoc (flat_map f (take i xs)) (flat_map f (take (j - i) (drop i xs))) (flat_map f (drop j xs))

pub chunk_written : {E : Type 0} (bytes : List ℕ) (i j : ℕ) (a b c : SinkState) → i ≤ j
    → Wrote a b (flat_map byte_hex (take i bytes))
    → Writes {E = E} b c (Ok tt) (flat_map byte_hex (take (j - i) (drop i bytes)))
    → Wrote a c (flat_map byte_hex (take j bytes))
chunk_written {E} bytes i j a b c le w h = rw (flat_map-cut byte_hex bytes i j le) (wrote_more {E = E} a b c _ _ w h)

pub chunk_failed : {E : Type 0} (bytes : List ℕ) (i j : ℕ) (a b c : SinkState) (e : E) → i ≤ j
    → Wrote a b (flat_map byte_hex (take i bytes))
    → Writes b c (Err e) (flat_map byte_hex (take (j - i) (drop i bytes)))
    → Writes a c (Err e) (flat_map byte_hex bytes)
chunk_failed bytes i j a b c e le w h = rw (flat_map-whole byte_hex bytes i j le) (wrote_front a b c e _ _ _ w h)
