use Rattle.std.proofs.Common.{◌≡◌, ◌≢◌, ◌∙◌, ap, refl, sym, subst, inl, inr, true, false, [], ◌∷◌, ◌||◌, List, map, Err}
use Rattle.std.proofs.Common.{Result}
use Rattle.std.specs.Borrow.{Bor}
use Rattle.std.specs.List.{list_any}
use Rattle.clap.specs.Faults.{fault_of, is_simple_and_free}
use Rattle.clap.specs.Kinds.{HasKind, IsAmong, Kinds}
use Rattle.clap.specs.Walk.{Text, first_of, rows_of}
use Rattle.clap.specs.Words.{app_of, found_of, is_simple, kind_of, matches_of}
use Rattle.clap.specs.declared.error.Error.{Error}
use Rattle.clap.specs.declared.error.kind.ErrorKind.TheVariants.{OutOfMemory}
use Rattle.clap.proofs.OnLiterals.{clap_on_literals}
use Rattle.clap.proofs.WalkLemmas.{first_value-rows}
use Rattle.command_line.specs.App.{command_app, plain_app}
use Rattle.command_line.specs.Reading.{is_stray, word_of}
use Rattle.command_line.specs.declared.request.Refusal.{Refusal}
use Rattle.command_line.specs.declared.request.Refusal.TheVariants.{Usage}
use Rattle.command_line.proofs.Walks.{NoStray, given-by, no-stray, none-by, stray-none}
use Rattle.command_line.proofs.splitting.split.Goals as goal

simple : is_simple command_app ≡ true
unfolding command_app plain_app clap_on_literals
simple = refl

simple_and_free : is_simple_and_free command_app ≡ true
unfolding command_app plain_app clap_on_literals
simple_and_free = refl

any-texts : (words : List (Bor Text))
    → list_any (λ w. is_stray (word_of w)) (map (λ w. w.now) words) ≡ list_any (λ w. is_stray (word_of w.now)) words
any-texts [] = refl
any-texts (w ∷ ws) = ap (λ b. is_stray (word_of w.now) || b) (any-texts ws)

-- where an error isn't want of memory, the list of kinds isn't empty
some-kind : (kinds : Kinds) (e : Error) → HasKind kinds e → kind_of e ≢ OutOfMemory → kinds ≡ [] → ⊥
some-kind kinds e (inl memory) other is = other memory
some-kind kinds e (inr among) other is = subst (IsAmong (kind_of e)) is among

abbrev refusal_in : {T : Type 0} → Refusal → Result T Refusal → Refusal
refusal_in d (Err refusal) = refusal
refusal_in d _ = d

pub returns-then-has_stray-clause-usage : goal.returns-then-has_stray-clause-usage
returns-then-has_stray-clause-usage c = λ _.
    stray-none (map (λ w. w.now) c.args.words.now) (any-texts c.args.words.now ∙ sym c.has_stray.ensures ∙ c.if-has_stray.true)

pub returns-in-Ok-try_get_matches_from-clause-ok : goal.returns-in-Ok-try_get_matches_from-clause-ok
returns-in-Ok-try_get_matches_from-clause-ok c =
    let ws = map (λ w. w.now) c.args.words.now in
    let app : app_of c.in-Ok.command ≡ command_app = c.in-Ok.ensures in
    let parse = c.in-Ok-try_get_matches_from.ensures in
    let found = found_of c.in-Ok-try_get_matches_from.matches in
    let quiet : fault_of command_app ws ≡ [] = subst (λ a. fault_of a ws ≡ []) app (parse.kinds (ap is_simple_and_free app ∙ simple_and_free)) in
    let rows : rows_of found ≡ matches_of command_app ws = (parse.matches (ap is_simple app ∙ simple)).0 ∙ ap (λ a. matches_of a ws) app in
    let plain : NoStray ws = no-stray ws (any-texts c.args.words.now ∙ sym c.has_stray.ensures ∙ c.if-has_stray.false) in
    let by = given-by ws plain quiet in
    record {
      given = by.given;
      given_is = by.is;
      text = λ n. first_value-rows found n ∙ ap (first_of n) rows ∙ by.text n;
    }

pub returns-in-Err-clause-usage : goal.returns-in-Err-clause-usage
returns-in-Err-clause-usage c = λ usage.
    let ws = map (λ w. w.now) c.args.words.now in
    let app : app_of c.in-Ok.command ≡ command_app = c.in-Ok.ensures in
    let other : kind_of c.in-Err.error ≢ OutOfMemory = c.refusal_of.ensures (ap (refusal_in Usage) usage) in
    let kinds : HasKind (fault_of command_app ws) c.in-Err.error = subst (λ a. HasKind (fault_of a ws) c.in-Err.error) app (c.in-Err.ensures.kinds (ap is_simple_and_free app ∙ simple_and_free)) in
    let plain : NoStray ws = no-stray ws (any-texts c.args.words.now ∙ sym c.has_stray.ensures ∙ c.if-has_stray.false) in
    none-by ws plain (some-kind (fault_of command_app ws) c.in-Err.error kinds other)
