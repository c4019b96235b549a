-- Texts that are put one behind another.
use Rattle.std.proofs.Common.{◌≡◌, ◌∙◌, ◌/◌, ◌%◌, ◌<◌, ◌≤◌, ◌^◌, ℕ, ◌++◌, ◌∷◌, List, ap, sym, append_assoc, arith}
use Rattle.std.specs.Prelude.{codes, decimal}
use Rattle.std.specs.Result.{OnOk}
use Rattle.std.specs.declared.result.Result.{Result}
use Rattle.std.proofs.lemmas.Fmt.{decimal_digit, decimal_step}
use Rattle.std.proofs.lemmas.Result.{on_ok_weaker}
use Rattle.watch_text.specs.Fields.{items_field, more_items}

-- one behind another
pub two_texts : {T E : Type 0} (result : Result T E) (old mid new a b : List ℕ) → mid ≡ old ++ a
    → OnOk result (new ≡ mid ++ b) → OnOk result (new ≡ old ++ (a ++ b))
two_texts result old mid new a b first second =
    on_ok_weaker result (λ is. is ∙ ap (λ front. front ++ b) first ∙ append_assoc old a b) second

regroup : (old name one more end : List ℕ)
    → old ++ (codes ",\"" ++ name ++ codes "\":[") ++ one ++ more ++ end
    ≡ old ++ (codes ",\"" ++ name ++ codes "\":[" ++ one ++ more ++ end)
regroup old name one more end = simp append_assoc

-- items under a name, of which there are some
pub items_put : {T E X : Type 0} (result : Result T E) (text : X → List ℕ) (name old a b c new : List ℕ)
    (items : List X) (first : X) (rest : List X) → items ≡ first ∷ rest
    → a ≡ old ++ (codes ",\"" ++ name ++ codes "\":[") → b ≡ a ++ text first → c ≡ b ++ more_items text rest
    → OnOk result (new ≡ c ++ codes "]") → OnOk result (new ≡ old ++ items_field name text items)
items_put result text name old a b c new items first rest are head one more last =
    on_ok_weaker result
    (λ is. is ∙ ap (λ front. front ++ codes "]")
    (more ∙ ap (λ front. front ++ more_items text rest) (one ∙ ap (λ front. front ++ text first) head))
    ∙ regroup old name (text first) (more_items text rest) (codes "]")
    ∙ ap (λ all. old ++ items_field name text all) (sym are))
    last

-- a number's last digit behind the others
pub one_more_digit : (n : ℕ) → 10 ≤ n → n < 2 ^ 64 → decimal n ≡ decimal (n / 10) ++ decimal (n % 10)
one_more_digit n long small =
    decimal_step n long small ∙ ap (λ last. decimal (n / 10) ++ last) (sym (decimal_digit (n % 10) (omega arith)))

-- the last digit behind the others
pub digit_behind : {T E : Type 0} (result : Result T E) (old mid new : List ℕ) (n : ℕ) → 10 ≤ n → n < 2 ^ 64
    → mid ≡ old ++ decimal (n / 10) → OnOk result (new ≡ mid ++ decimal (n % 10)) → OnOk result (new ≡ old ++ decimal n)
digit_behind result old mid new n long small front last =
    on_ok_weaker result (λ is. is ∙ ap (λ all. old ++ all) (sym (one_more_digit n long small)))
    (two_texts result old mid new (decimal (n / 10)) (decimal (n % 10)) front last)
