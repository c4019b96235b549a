-- An act that hands in an event.
use Rattle.std.proofs.Common.{◌≡◌, ◌∙◌, ℕ, ◌++◌, List, ap, refl, subst, sym}
use Rattle.std.specs.Result.{OnOk}
use Rattle.std.specs.declared.option.Option.{Option}
use Rattle.std.specs.declared.result.Result.{Result}
use Rattle.std.proofs.lemmas.Result.{on_ok_weaker}
use Rattle.task_request.specs.declared.request.Request.{Request}
use Rattle.script_text.specs.spec_state.Effects.{EffectValue}
use Rattle.script_text.specs.spec_state.View.{View}
use Rattle.script_text.specs.event_def.declared.event.Event.{Event}
use Rattle.script_text.specs.step_script.Asking.{Attempt, Hands}
use Rattle.watch_text.specs.Changes.{change_text, own_text, taken_text}

-- what changed is what it took back and spilled, and its own change
change_hands : {N : Type 0} (effect : EffectValue) (output : ℕ) (new : View) (asks : Attempt N) (event : Event N)
    (task : Option ℕ) (request : Option Request) (aborted : ℕ) → asks ≡ Hands event
    → change_text effect output new asks task request aborted
    ≡ taken_text effect aborted ++ own_text new effect.arrived output asks task request
change_hands {N} effect output new asks event task request aborted is =
    subst
    (λ (a : Attempt N). change_text effect output new a task request aborted
    ≡ taken_text effect aborted ++ own_text new effect.arrived output a task request)
    (sym is) refl

-- so a text of these two tells it
pub change_put : {N T E : Type 0} (result : Result T E) (old text : List ℕ) (effect : EffectValue) (output : ℕ)
    (new : View) (asks : Attempt N) (event : Event N) (task : Option ℕ) (request : Option Request) (aborted : ℕ)
    → asks ≡ Hands event
    → OnOk result (text ≡ old ++ (taken_text effect aborted ++ own_text new effect.arrived output asks task request))
    → OnOk result (text ≡ old ++ change_text effect output new asks task request aborted)
change_put result old text effect output new asks event task request aborted is =
    on_ok_weaker result
    (λ told. told ∙ ap (λ (all : List ℕ). old ++ all)
    (sym (change_hands effect output new asks event task request aborted is)))
