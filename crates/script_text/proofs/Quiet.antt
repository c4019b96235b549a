-- The line of an act that took no task back.
use Rattle.std.proofs.Common.{◌≡◌, ◌∷◌, ◌++◌, [], ℕ, List, ap, codes, arith, refl}
use Rattle.std.proofs.lemmas.Fmt.{decimal_digit}
use Rattle.step_script.specs.declared.saying.Word.{Word}
use Rattle.script_text.specs.Replies.{reply_line, word_text}

joined : (text : List ℕ) → text ++ codes " " ++ 48 ∷ [] ++ codes "\n" ≡ text ++ codes " 0\n"
joined [] = refl
joined (x ∷ xs) = ap (λ (t : List ℕ). x ∷ t) (joined xs)

-- it is the act's word with a zero
pub quiet_is : (word : Word) → reply_line (record { word = word; aborted = 0 }) ≡ word_text word ++ codes " 0\n"
unfolding reply_line
quiet_is word = rw (decimal_digit 0 (omega arith)) (joined (word_text word))
