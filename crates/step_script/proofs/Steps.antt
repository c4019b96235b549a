-- What the grammar gives of one line and the lines behind it.
use Rattle.std.proofs.Common.{◌≡◌, ℕ, ◌+◌, List, [], ◌∷◌, ◌++◌, Some, None, refl, ap, Result, Ok, Err, append_assoc}
use Rattle.step_script.specs.declared.act.Act.{Act}
use Rattle.step_script.specs.Grammar.{act_in, acts_at, onto_acts}

pub onto_acts_both : (xs ys : List Act) (r : Result (List Act) ℕ)
    → onto_acts (xs ++ ys) r ≡ onto_acts xs (onto_acts ys r)
onto_acts_both xs ys (Ok acts) = ap (λ a. Ok a) (append_assoc xs ys acts)
onto_acts_both xs ys (Err k) = refl

pub onto_acts_none : (r : Result (List Act) ℕ) → onto_acts [] r ≡ r
onto_acts_none (Ok acts) = refl
onto_acts_none (Err k) = refl

pub act_step : (tiles cores k : ℕ) (line : List ℕ) (ls : List (List ℕ)) (act : Act) → act_in tiles cores line ≡ Some act
    → acts_at tiles cores k (line ∷ ls) ≡ onto_acts (act ∷ []) (acts_at tiles cores (k + 1) ls)
act_step tiles cores k line ls act is = rw is refl

pub act_wrong : (tiles cores k : ℕ) (line : List ℕ) (ls : List (List ℕ)) → act_in tiles cores line ≡ None
    → acts_at tiles cores k (line ∷ ls) ≡ Err k
act_wrong tiles cores k line ls is = rw is refl

-- what the acts of a script are, by what the next line is
pub ruleset act_steps = (onto_acts_both, onto_acts_none, act_step, act_wrong)
