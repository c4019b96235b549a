-- Texts that are put one behind another.
use Rattle.std.proofs.Common.{◌≡◌, ◌∙◌, ℕ, ◌++◌, List, Ok, Err, ap, append_assoc}
use Rattle.std.specs.Prelude.{if◌then◌else◌}
use Rattle.std.specs.Result.{OnOk, is_ok}
use Rattle.std.specs.declared.result.Result.{Result}
use Rattle.std.proofs.lemmas.Result.{on_ok_weaker}

regroup_three : (old a b c : List ℕ) → ((old ++ a) ++ b) ++ c ≡ old ++ (a ++ b ++ c)
regroup_three old a b c = simp append_assoc

regroup_four : (old a b c d : List ℕ) → (((old ++ a) ++ b) ++ c) ++ d ≡ old ++ (a ++ b ++ c ++ d)
regroup_four old a b c d = simp append_assoc

-- a text that is put where there is memory for it
pub put_where_ok : {T E : Type 0} (result : Result T E) (new with_text without : List ℕ)
    → new ≡ (if is_ok result then with_text else without) → OnOk result (new ≡ with_text)
put_where_ok (Ok done) new with_text without is = is
put_where_ok (Err fault) new with_text without is = tt

-- three of them
pub three_texts : {T E : Type 0} (result : Result T E) (old one two new a b c : List ℕ) → one ≡ old ++ a
    → two ≡ one ++ b → OnOk result (new ≡ two ++ c) → OnOk result (new ≡ old ++ (a ++ b ++ c))
three_texts result old one two new a b c first second last = on_ok_weaker result
    (λ is. is ∙ ap (λ front. front ++ c) (second ∙ ap (λ front. front ++ b) first) ∙ regroup_three old a b c) last

-- and four
pub four_texts : {T E : Type 0} (result : Result T E) (old one two three new a b c d : List ℕ) → one ≡ old ++ a
    → two ≡ one ++ b → three ≡ two ++ c → OnOk result (new ≡ three ++ d)
    → OnOk result (new ≡ old ++ (a ++ b ++ c ++ d))
four_texts result old one two three new a b c d first second third last = on_ok_weaker result
    (λ is. is ∙ ap (λ front. front ++ d) (third ∙ ap (λ front. front ++ c) (second ∙ ap (λ front. front ++ b) first))
    ∙ regroup_four old a b c d) last
