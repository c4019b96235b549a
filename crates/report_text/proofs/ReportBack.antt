-- A report that was written is read back, line by line.
use Rattle.std.proofs.Common.{◌≡◌, ℕ, ◌+◌, ◌*◌, ◌/◌, ◌%◌, ◌<◌, ◌≤◌, ◌^◌, ◌==◌, nat_le, List, [], ◌∷◌, ◌++◌, length}
use Rattle.std.proofs.Common.{drop, Some, None, Ok, refl, ap, sym, ◌∙◌, arith, rules, true, false, Bool, append_assoc}
use Rattle.std.proofs.Common.{append-nil, zero, suc, eq-eqb, codes, subst, map}
use Rattle.std.specs.Fmt.{decimal}
use Rattle.std.specs.declared.option.Option.{Option}
use Rattle.std.specs.Char.{is_ascii_digit}
use Rattle.std.specs.List.{list_all, flat_map, enumerate_from, range_with_len, AllByRecursion}
use Rattle.std.proofs.lemmas.Bool.{and_parts, and_right, eqb-true}
use Rattle.std.proofs.lemmas.Bool.Decides.{nat_tests}
use Rattle.std.proofs.lemmas.Fmt.{decimal_nonempty}
use Rattle.guest_image.specs.ImageValue.{ImageValue, IsImage}
use Rattle.guest_image.specs.Numbers.{word_at}
use Rattle.task_desc.specs.declared.desc.Name.{Name}
use Rattle.run_journal.specs.declared.journal.Entry.{Entry}
use Rattle.run_journal.specs.declared.end.End.{End}
use Rattle.run_journal.specs.declared.end.End.TheVariants as ends
use Rattle.report_text.specs.declared.limits.TheConstants.{MAX_ENTRIES, MAX_DEPTH, MAX_CAUSE}
use Rattle.report_text.specs.declared.report.WindowWord.{WindowWord}
use Rattle.report_text.specs.Hex.{byte_hex, word_hex, hex_digit, hex_bytes}
use Rattle.text_lines.specs.Lines.{behind, lines_of, cut}
use Rattle.text_lines.proofs.Proved.{all_digits, number_back, IsWithout, without_both, cut_without}
use Rattle.report_text.specs.Grammar.{entry_in, output_in, output_bytes, window_in, trap_in, end_in, onto_journal}
use Rattle.report_text.specs.Grammar.{onto_window, with_output, entries_at, window_at, report_of}
use Rattle.report_text.specs.Report.{name_text, entry_line, entry_lines, output_digits, output_line, window_word}
use Rattle.report_text.specs.Report.{window_of, window_line, body_lines, end_line, report}
use Rattle.report_text.specs.ReadBack.{IsName, EntryFits, TrapFits, EndFits, ReportReadsBack}
use Rattle.undo_log.specs.Number.{AreBytes}
use Rattle.report_text.proofs.Steps.{onto_journal_both, onto_journal_none, entry_step, output_step, onto_window_both}
use Rattle.report_text.proofs.Steps.{onto_window_none, word_step}
use Rattle.report_text.proofs.HexBack.{word-back, bytes-back}
use Rattle.report_text.proofs.NumberBack.{field_back, space, dot, number_free, bytes_free, word_free, lines_on}
use Rattle.report_text.proofs.NumberBack.{behind_front, behind_other}

-- ---- entries

-- the line of an entry without its newline
abbrev entry_text : ℕ → Entry → List ℕ
entry_text n e = decimal n ++ codes " " ++ name_text e.name ++ codes " " ++ decimal e.depth ++ codes " " ++ decimal e.ts

entry_line_is : (n : ℕ) (e : Entry) → entry_line (n, e) ≡ entry_text n e ++ 10 ∷ []
unfolding entry_line
entry_line_is n e = refl

entry_regrouped : (n : ℕ) (e : Entry)
    → entry_text n e ≡ decimal n ++ 32 ∷ (decimal e.name.creator ++ 46 ∷ (decimal e.name.index ++ 32 ∷ (decimal e.depth ++ 32 ∷ decimal e.ts)))
entry_regrouped n e = simp (append_assoc) refl

entry_back : (n : ℕ) (e : Entry) → n ≤ MAX_ENTRIES → EntryFits e → entry_in n (entry_text n e) ≡ Some e
unfolding entry_in
entry_back n e small fits =
    let least : nat_le 1 e.depth ≡ true = search (rules, fits.least) in
    let greatest : nat_le e.depth MAX_DEPTH ≡ true = search (rules, fits.greatest) in
    let few : nat_le n MAX_ENTRIES ≡ true = search (rules, small) in
    ap (entry_in n) (entry_regrouped n e)
    ∙ rw (field_back n 32 _ (omega (arith, small)) space, field_back e.name.creator 46 _ fits.name.creator dot, field_back e.name.index 32 _ fits.name.index space, field_back e.depth 32 _ (omega (arith, fits.greatest)) space, number_back e.ts fits.ts, eq-eqb n n refl, few, least, greatest) refl

name_free : (name : Name) → IsName name → IsWithout 10 (name_text name)
name_free name fits =
    without_both 10 (decimal name.creator ++ codes ".") (decimal name.index)
    (without_both 10 (decimal name.creator) (codes ".") (number_free name.creator fits.creator) refl)
    (number_free name.index fits.index)

entry_free : (n : ℕ) (e : Entry) → n ≤ MAX_ENTRIES → EntryFits e → IsWithout 10 (entry_text n e)
entry_free n e small fits =
    let a = decimal n ++ codes " " in
    let b = a ++ name_text e.name ++ codes " " in
    let c = b ++ decimal e.depth ++ codes " " in
    let free_a = without_both 10 (decimal n) (codes " ") (number_free n (omega (arith, small))) refl in
    let free_b = without_both 10 (a ++ name_text e.name) (codes " ") (without_both 10 a (name_text e.name) free_a (name_free e.name fits.name)) refl in
    let free_c = without_both 10 (b ++ decimal e.depth) (codes " ") (without_both 10 b (decimal e.depth) free_b (number_free e.depth (omega (arith, fits.greatest)))) refl in
    without_both 10 c (decimal e.ts) free_c (number_free e.ts fits.ts)

-- a digit is no o
digit_other : (x : ℕ) (b : Bool) → (x == 111) ≡ b → is_ascii_digit x ≡ true → b ≡ false
digit_other x false is digit = refl
digit_other x true is digit =
    let bad : is_ascii_digit 111 ≡ true = subst (λ k. is_ascii_digit k ≡ true) (eqb-true x 111 is) digit in cc

-- a line that begins with a digit has no output
no_output : (digits rest : List ℕ) → list_all is_ascii_digit digits ≡ true → 0 < length digits
    → output_in (digits ++ rest) ≡ None
unfolding output_in
no_output [] rest all some = absurd (omega (arith, some))
no_output (x ∷ xs) rest all some =
    rw (behind_other 111 x (codes "utput ") (xs ++ rest) (digit_other x (x == 111) refl (and_parts (is_ascii_digit x) _ all).0)) refl

entry_no_output : (n : ℕ) (e : Entry) → n ≤ MAX_ENTRIES → output_in (entry_text n e) ≡ None
entry_no_output n e small =
    ap output_in (entry_regrouped n e)
    ∙ no_output (decimal n) _ (all_digits n (omega (arith, small))) (decimal_nonempty n (omega (arith, small)))

entries_back : (n : ℕ) (es : List Entry) (rest : List ℕ) → AllByRecursion EntryFits es → n + length es ≤ MAX_ENTRIES + 1
    → entries_at n (lines_of (flat_map entry_line (enumerate_from n es) ++ rest)) ≡ onto_journal es (entries_at (n + length es) (lines_of rest))
entries_back n [] rest all few =
    let e : n + 0 ≡ n = omega arith in rw e (sym (onto_journal_none (entries_at n (lines_of rest))))
entries_back n (e ∷ es) rest all few =
    let more = flat_map entry_line (enumerate_from (n + 1) es) ++ rest in
    let small : n ≤ MAX_ENTRIES = omega (arith, few) in
    let next : n + 1 + length es ≡ n + length (e ∷ es) = omega arith in
    let regrouped : flat_map entry_line (enumerate_from n (e ∷ es)) ++ rest ≡ entry_text n e ++ 10 ∷ more =
    append_assoc (entry_line (n, e)) (flat_map entry_line (enumerate_from (n + 1) es)) rest
    ∙ ap (λ line. line ++ more) (entry_line_is n e)
    ∙ append_assoc (entry_text n e) (10 ∷ []) more in
    ap (λ t. entries_at n (lines_of t)) regrouped
    ∙ ap (entries_at n) (lines_on (entry_text n e) more (entry_free n e small all.0))
    ∙ entry_step n (entry_text n e) (lines_of more) e (entry_no_output n e small) (entry_back n e small all.0)
    ∙ ap (onto_journal (e ∷ [])) (entries_back (n + 1) es rest all.1 (omega (arith, few)) ∙ ap (λ k. onto_journal es (entries_at k (lines_of rest))) next)
    ∙ sym (onto_journal_both (e ∷ []) es (entries_at (n + length (e ∷ es)) (lines_of rest)))

-- ---- the output

two_digits : (x y : ℕ) (digits : List ℕ) (found : Option (List ℕ)) → hex_bytes (x ∷ y ∷ digits) ≡ found
    → output_bytes (x ∷ y ∷ digits) ≡ found
two_digits x y digits found is =
    let some : (length (x ∷ y ∷ digits) == 0) ≡ false = grind (arith, nat_tests) in
    rw (and_right (x == 45) false refl, some) is

digits_back : (output : List ℕ) → AreBytes output → output_bytes (output_digits output) ≡ Some output
digits_back [] all = refl
digits_back (b ∷ bs) all =
    two_digits (hex_digit (b / 16)) (hex_digit (b % 16)) (flat_map byte_hex bs) (Some (b ∷ bs)) (bytes-back (b ∷ bs) all)

output_back : (output : List ℕ) → AreBytes output → output_in (codes "output " ++ output_digits output) ≡ Some output
unfolding output_in
output_back output all = rw (behind_front (codes "output ") (output_digits output)) (digits_back output all)

digits_free : (output : List ℕ) → IsWithout 10 (output_digits output)
digits_free [] = refl
digits_free (b ∷ bs) = bytes_free 10 (b ∷ bs) (omega arith)

output_line_back : (n : ℕ) (output rest : List ℕ) → AreBytes output
    → entries_at n (lines_of (output_line output ++ rest)) ≡ with_output output (window_at (n + 2) (lines_of rest))
unfolding output_line
output_line_back n output rest all =
    let text = codes "output " ++ output_digits output in
    ap (λ t. entries_at n (lines_of t)) (append_assoc text (codes "\n") rest)
    ∙ ap (entries_at n) (lines_on text rest (without_both 10 (codes "output ") (output_digits output) refl (digits_free output)))
    ∙ output_step n text (lines_of rest) output (output_back output all)

-- ---- the window

-- words of 32 bits
pub record WordFits (w : WindowWord) : Type 0 where
  pub addr : w.addr < 2 ^ 32
  pub value : w.value < 2 ^ 32

abbrev window_text : WindowWord → List ℕ
window_text w = codes "window " ++ word_hex w.addr ++ codes " " ++ word_hex w.value

window_line_is : (w : WindowWord) → window_line w ≡ window_text w ++ 10 ∷ []
unfolding window_line
window_line_is w = refl

window_back : (w : WindowWord) → WordFits w → window_in (window_text w) ≡ Some w
unfolding window_in
window_back w fits =
    let words = word_hex w.addr ++ 32 ∷ word_hex w.value in
    let front : behind (codes "window ") (window_text w) ≡ Some words = behind_front (codes "window ") words in
    let parts : cut 32 words ≡ Some (word_hex w.addr, word_hex w.value) = cut_without 32 (word_hex w.addr) (word_hex w.value) (word_free 32 w.addr (omega arith)) in
    rw (front, parts, word-back w.addr fits.addr, word-back w.value fits.value) refl

window_free : (w : WindowWord) → IsWithout 10 (window_text w)
window_free w =
    without_both 10 (codes "window " ++ word_hex w.addr ++ codes " ") (word_hex w.value)
    (without_both 10 (codes "window " ++ word_hex w.addr) (codes " ") (without_both 10 (codes "window ") (word_hex w.addr) refl (word_free 10 w.addr (omega arith))) refl)
    (word_free 10 w.value (omega arith))

window_no_end : (w : WindowWord) → end_in (window_text w) ≡ None
unfolding end_in
window_no_end w =
    rw (behind_other 101 119 (codes "nd trap ") (codes "indow " ++ word_hex w.addr ++ codes " " ++ word_hex w.value) refl) refl

words_back : (k : ℕ) (ws : List WindowWord) (rest : List ℕ) → AllByRecursion WordFits ws
    → window_at k (lines_of (flat_map window_line ws ++ rest)) ≡ onto_window ws (window_at (k + length ws) (lines_of rest))
words_back k [] rest all =
    let e : k + 0 ≡ k = omega arith in rw e (sym (onto_window_none (window_at k (lines_of rest))))
words_back k (w ∷ ws) rest all =
    let more = flat_map window_line ws ++ rest in
    let next : k + 1 + length ws ≡ k + length (w ∷ ws) = omega arith in
    let regrouped : flat_map window_line (w ∷ ws) ++ rest ≡ window_text w ++ 10 ∷ more =
    append_assoc (window_line w) (flat_map window_line ws) rest
    ∙ ap (λ line. line ++ more) (window_line_is w)
    ∙ append_assoc (window_text w) (10 ∷ []) more in
    ap (λ t. window_at k (lines_of t)) regrouped
    ∙ ap (window_at k) (lines_on (window_text w) more (window_free w))
    ∙ word_step k (window_text w) (lines_of more) w (window_no_end w) (window_back w all.0)
    ∙ ap (onto_window (w ∷ [])) (words_back (k + 1) ws rest all.1 ∙ ap (λ j. onto_window ws (window_at j (lines_of rest))) next)
    ∙ sym (onto_window_both (w ∷ []) ws (window_at (k + length (w ∷ ws)) (lines_of rest)))

-- ---- the end

trap_rest : Name → ℕ → ℕ → List ℕ
trap_rest name cause pc = decimal cause ++ 32 ∷ (word_hex pc ++ 32 ∷ (decimal name.creator ++ 46 ∷ decimal name.index))

trap_back : (name : Name) (cause pc : ℕ) → TrapFits name cause pc
    → trap_in (trap_rest name cause pc) ≡ Some (ends.Trap name cause pc)
unfolding trap_in trap_rest
trap_back name cause pc fits =
    let least : nat_le 1 cause ≡ true = search (rules, fits.least) in
    let greatest : nat_le cause MAX_CAUSE ≡ true = search (rules, fits.greatest) in
    rw (field_back cause 32 _ (omega (arith, fits.greatest)) space, cut_without 32 (word_hex pc) _ (word_free 32 pc (omega arith)), word-back pc fits.pc_fits, field_back name.creator 46 _ fits.name_fits.creator dot, number_back name.index fits.name_fits.index, least, greatest) refl

trap_text : Name → ℕ → ℕ → List ℕ
trap_text name cause pc = codes "end trap " ++ decimal cause ++ codes " " ++ word_hex pc ++ codes " " ++ name_text name

grouped : (a b s c d : List ℕ) → a ++ b ++ s ++ c ++ s ++ d ≡ a ++ (b ++ (s ++ (c ++ (s ++ d))))
grouped a b s c d = simp (append_assoc) refl

trap_regrouped : (name : Name) (cause pc : ℕ) → trap_text name cause pc ≡ codes "end trap " ++ trap_rest name cause pc
unfolding trap_text trap_rest
trap_regrouped name cause pc =
    grouped (codes "end trap ") (decimal cause) (codes " ") (word_hex pc) (name_text name)
    ∙ ap (λ t. codes "end trap " ++ (decimal cause ++ 32 ∷ (word_hex pc ++ 32 ∷ t))) (append_assoc (decimal name.creator) (codes ".") (decimal name.index))

trap_end : (rest : List ℕ) (end : End) → trap_in rest ≡ Some end → end_in (codes "end trap " ++ rest) ≡ Some end
unfolding end_in
trap_end rest end is = rw (behind_front (codes "end trap ") rest) is

trap_free : (name : Name) (cause pc : ℕ) → TrapFits name cause pc → IsWithout 10 (trap_text name cause pc)
unfolding trap_text
trap_free name cause pc fits =
    let a = codes "end trap " ++ decimal cause ++ codes " " in
    let b = a ++ word_hex pc ++ codes " " in
    let free_a = without_both 10 (codes "end trap " ++ decimal cause) (codes " ") (without_both 10 (codes "end trap ") (decimal cause) refl (number_free cause (omega (arith, fits.greatest)))) refl in
    let free_b = without_both 10 (a ++ word_hex pc) (codes " ") (without_both 10 a (word_hex pc) free_a (word_free 10 pc (omega arith))) refl in
    without_both 10 b (name_text name) free_b (name_free name fits.name_fits)

one_end : (k : ℕ) (line : List ℕ) (end : End) → end_in line ≡ Some end → window_at k (line ∷ []) ≡ Ok ([], end)
one_end k line end is = rw is refl

normal_back : end_in (codes "end normal") ≡ Some ends.Normal
unfolding end_in
normal_back = refl

limit_back : end_in (codes "end limit") ≡ Some ends.Limit
unfolding end_in
limit_back = refl

open_back : end_in (codes "end open") ≡ Some ends.Unfinished
unfolding end_in
open_back = refl

end_back : (k : ℕ) (end : End) → EndFits end → window_at k (lines_of (end_line end)) ≡ Ok ([], end)
unfolding end_line trap_text
end_back k ends.Normal fits = one_end k (codes "end normal") ends.Normal normal_back
end_back k ends.Limit fits = one_end k (codes "end limit") ends.Limit limit_back
end_back k ends.Unfinished fits = one_end k (codes "end open") ends.Unfinished open_back
end_back k (ends.Trap name cause pc) fits =
    ap (window_at k) (lines_on (trap_text name cause pc) [] (trap_free name cause pc fits))
    ∙ one_end k (trap_text name cause pc) (ends.Trap name cause pc) (ap end_in (trap_regrouped name cause pc) ∙ trap_end (trap_rest name cause pc) (ends.Trap name cause pc) (trap_back name cause pc fits))

-- ---- all of it

drop-bytes : (bytes : List ℕ) (i : ℕ) → AreBytes bytes → AreBytes (drop i bytes)
drop-bytes bytes zero all = all
drop-bytes [] (suc i) all = all
drop-bytes (b ∷ bs) (suc i) all = drop-bytes bs i (λ k. all (suc k))

-- a word of bytes fits
word_at-fits : (memory : List ℕ) (at : ℕ) → AreBytes memory → word_at memory at < 2 ^ 32
unfolding word_at
word_at-fits memory at all =
    let bytes = drop-bytes memory at all in
    omega (arith, bytes 0, bytes 1, bytes 2, bytes 3)

words_fit : (image : ImageValue) (memory : List ℕ) (k n : ℕ) → IsImage image → AreBytes memory
    → k + n ≤ image.window_words
    → AllByRecursion WordFits (map (window_word image memory) (range_with_len k n))
words_fit image memory k zero h all le = tt
words_fit image memory k (suc n) h all le = (
  record { addr = omega (arith, h.window_inside, h.data_size, le); value = word_at-fits memory (image.window_offset + 4 * k) all },
  words_fit image memory (k + 1) n h all (omega (arith, le)),
)

window_fits : (image : ImageValue) (memory : List ℕ) → IsImage image → AreBytes memory
    → AllByRecursion WordFits (window_of image memory)
unfolding window_of
window_fits image memory h all = words_fit image memory 0 image.window_words h all (omega arith)

-- the whole text as a row of its parts
regrouped : (journal : List Entry) (image : ImageValue) (memory output : List ℕ) (end : End)
    → report image journal memory output end
    ≡ codes "fractal 1\n" ++ (flat_map entry_line (enumerate_from 1 journal) ++ (output_line output ++ (flat_map window_line (window_of image memory) ++ end_line end)))
unfolding report entry_lines body_lines
regrouped journal image memory output end = simp (append_assoc) refl

pub report_back : ReportReadsBack
report_back image journal memory output end h few entries bytes emitted fits =
    let window = window_of image memory in
    let tail = flat_map window_line window ++ end_line end in
    let n = 1 + length journal in
    let last : window_at (n + 2) (lines_of tail) ≡ Ok (window, end) =
    words_back (n + 2) window (end_line end) (window_fits image memory h bytes)
    ∙ ap (onto_window window) (end_back (n + 2 + length window) end fits)
    ∙ ap (λ w. Ok (w, end)) (append-nil window) in
    ap report_of (regrouped journal image memory output end)
    ∙ entries_back 1 journal (output_line output ++ tail) entries (omega (arith, few))
    ∙ ap (onto_journal journal) (output_line_back n output tail emitted ∙ ap (with_output output) last)
    ∙ ap (λ j. Ok (record { journal = j; output = output; window = window; end = end })) (append-nil journal)
