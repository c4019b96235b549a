-- The ids of the tasks that are gone, one after another.
use Rattle.std.proofs.Common.{◌≡◌, ◌∙◌, ℕ, ◌+◌, ◌<◌, ◌++◌, ◌∷◌, [], Bool, true, false, List, ap, get_or, length, map}
use Rattle.std.proofs.Common.{sym, take}
use Rattle.std.specs.Prelude.{cond, filter}
use Rattle.std.proofs.lemmas.List.{append-nil, map-append}
use Rattle.std.proofs.lemmas.List.Elements.{filter_more}
use Rattle.script_text.specs.spec_state.declared.effect.TakenTask.{TakenTask}
use Rattle.watch_text.specs.Changes.{gone_ids}

abbrev is_gone : TakenTask → Bool
is_gone task = task.gone

abbrev id_of : TakenTask → ℕ
id_of task = task.id.0

module _ (back : List TakenTask) (place : ℕ) (some : TakenTask) (inside : place < length back) where
  one_more : gone_ids (take (place + 1) back)
      ≡ gone_ids (take place back) ++ map id_of (cond (is_gone (get_or back place some)) (get_or back place some ∷ []) [])
  one_more =
      ap (map id_of) (filter_more is_gone back place some inside)
      ∙ map-append id_of (filter is_gone (take place back))
      (cond (is_gone (get_or back place some)) (get_or back place some ∷ []) [])

  -- the next one is
  pub takes_gone : (old new : List ℕ) → is_gone (get_or back place some) ≡ true → old ≡ gone_ids (take place back)
      → new ≡ old ++ id_of (get_or back place some) ∷ [] → new ≡ gone_ids (take (place + 1) back)
  takes_gone old new is so more =
      more ∙ ap (λ (ids : List ℕ). ids ++ id_of (get_or back place some) ∷ []) so
      ∙ ap (λ b. gone_ids (take place back) ++ map id_of (cond b (get_or back place some ∷ []) [])) (sym is)
      ∙ sym one_more

  -- or isn't
  pub passes_kept : (old : List ℕ) → is_gone (get_or back place some) ≡ false → old ≡ gone_ids (take place back)
      → old ≡ gone_ids (take (place + 1) back)
  passes_kept old isnt so =
      so ∙ sym (append-nil (gone_ids (take place back)))
      ∙ ap (λ b. gone_ids (take place back) ++ map id_of (cond b (get_or back place some ∷ []) [])) (sym isnt)
      ∙ sym one_more
