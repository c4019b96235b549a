-- What the grammar gives of one line and the lines behind it.
use Rattle.std.proofs.Common.{◌≡◌, ℕ, ◌+◌, List, [], ◌∷◌, ◌++◌, length, Some, None, refl, ap, arith, true, false, Bool}
use Rattle.std.proofs.Common.{Result, Ok, Err, append_assoc, if◌then◌else◌, ◌==◌, ◌<◌}
use Rattle.run_journal.specs.declared.journal.Entry.{Entry}
use Rattle.run_journal.specs.declared.end.End.{End}
use Rattle.report_text.specs.declared.report.WindowWord.{WindowWord}
use Rattle.report_text.specs.declared.report.Report.{Report}
use Rattle.text_lines.specs.Lines.{lines_of, onto}
use Rattle.report_text.specs.Grammar.{entry_in, output_in, window_in, end_in, entries_at, window_at, onto_journal}
use Rattle.report_text.specs.Grammar.{onto_window, with_output, is_nothing}

pub onto_journal_both : (xs ys : List Entry) (r : Result Report ℕ)
    → onto_journal (xs ++ ys) r ≡ onto_journal xs (onto_journal ys r)
onto_journal_both xs ys (Ok r) = ap (λ j. Ok (record r { journal = j })) (append_assoc xs ys r.journal)
onto_journal_both xs ys (Err k) = refl

pub onto_journal_none : (r : Result Report ℕ) → onto_journal [] r ≡ r
onto_journal_none (Ok r) = refl
onto_journal_none (Err k) = refl

pub entry_step : (n : ℕ) (line : List ℕ) (ls : List (List ℕ)) (e : Entry) → output_in line ≡ None
    → entry_in n line ≡ Some e → entries_at n (line ∷ ls) ≡ onto_journal (e ∷ []) (entries_at (n + 1) ls)
entry_step n line ls e other is = rw (other, is) refl

pub entry_wrong : (n : ℕ) (line : List ℕ) (ls : List (List ℕ)) → output_in line ≡ None → entry_in n line ≡ None
    → entries_at n (line ∷ ls) ≡ Err (n + 1)
entry_wrong n line ls other is = rw (other, is) refl

pub output_step : (n : ℕ) (line : List ℕ) (ls : List (List ℕ)) (out : List ℕ) → output_in line ≡ Some out
    → entries_at n (line ∷ ls) ≡ with_output out (window_at (n + 2) ls)
output_step n line ls out is = rw is refl

pub onto_window_both : (xs ys : List WindowWord) (r : Result (List WindowWord × End) ℕ)
    → onto_window (xs ++ ys) r ≡ onto_window xs (onto_window ys r)
onto_window_both xs ys (Ok r) = ap (λ w. Ok (w, r.1)) (append_assoc xs ys r.0)
onto_window_both xs ys (Err k) = refl

pub onto_window_none : (r : Result (List WindowWord × End) ℕ) → onto_window [] r ≡ r
onto_window_none (Ok r) = refl
onto_window_none (Err k) = refl

pub word_step : (k : ℕ) (line : List ℕ) (ls : List (List ℕ)) (w : WindowWord) → end_in line ≡ None
    → window_in line ≡ Some w → window_at k (line ∷ ls) ≡ onto_window (w ∷ []) (window_at (k + 1) ls)
word_step k line ls w other is = rw (other, is) refl

pub word_wrong : (k : ℕ) (line : List ℕ) (ls : List (List ℕ)) → end_in line ≡ None → window_in line ≡ None
    → window_at k (line ∷ ls) ≡ Err k
word_wrong k line ls other is = rw (other, is) refl

pub ends_well : (k : ℕ) (line rest : List ℕ) (e : End) → end_in line ≡ Some e → length rest ≡ 0
    → window_at k (line ∷ lines_of rest) ≡ Ok ([], e)
ends_well k line [] e is none = rw is refl
ends_well k line (x ∷ xs) e is none = absurd (omega (arith, none))

something : (x : ℕ) (xs : List ℕ) (ls : List (List ℕ)) (b : Bool)
    → is_nothing (if b then [] ∷ ls else onto x ls) ≡ false
something x xs ls true = refl
something x xs [] false = refl
something x xs (l ∷ ls) false = refl

pub ends_badly : (k : ℕ) (line rest : List ℕ) (e : End) → end_in line ≡ Some e → 0 < length rest
    → window_at k (line ∷ lines_of rest) ≡ Err (k + 1)
ends_badly k line [] e is some = absurd (omega (arith, some))
ends_badly k line (x ∷ xs) e is some = rw (is, something x xs (lines_of xs) (x == 10)) refl

-- what the entries of a report are, by what the next line is
pub ruleset entry_steps = (onto_journal_both, onto_journal_none, entry_step, entry_wrong, output_step)

-- what its window and end are, by what the next line is
pub ruleset window_steps = (onto_window_both, onto_window_none, word_step, word_wrong, ends_well, ends_badly)
