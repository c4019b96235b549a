-- The lines of the tasks in a block.
use Rattle.std.proofs.Common.{◌≡◌, ◌∙◌, ℕ, ◌+◌, ◌++◌, ◌∷◌, [], List, take, ap, sym, suc, zero, add-one, append_assoc}
use Rattle.std.specs.Prelude.{Some, None, option_map, slice_get, unwrap_or}
use Rattle.std.specs.List.{flat_map}
use Rattle.std.proofs.lemmas.List.{append-nil}
use Rattle.spill_store.specs.SpilledTasks.{Spilled}
use Rattle.task_desc.specs.declared.desc.Desc.{Desc}
use Rattle.watch_text.specs.Opening.{placed_desc, placed_line, spilled_line}

module _ (tile : ℕ) where
  -- one task more
  more_lines : (block : List Spilled) (k : ℕ) (desc : Desc)
      → option_map (λ (s : Spilled). s.desc) (slice_get block k) ≡ Some desc
      → flat_map (spilled_line tile) (take (suc k) block)
      ≡ flat_map (spilled_line tile) (take k block) ++ placed_line tile None (placed_desc desc)
  more_lines [] k desc h = cc
  more_lines (s ∷ block) zero desc h =
      append-nil (spilled_line tile s)
      ∙ ap (λ (d : Desc). placed_line tile None (placed_desc d)) (ap (λ found. unwrap_or found s.desc) h)
  more_lines (s ∷ block) (suc k) desc h =
      ap (λ (rest : List ℕ). spilled_line tile s ++ rest) (more_lines block k desc h)
      ∙ sym (append_assoc (spilled_line tile s) (flat_map (spilled_line tile) (take k block))
      (placed_line tile None (placed_desc desc)))

  -- a text of these lines, one of which is added
  pub block_step : (block : List Spilled) (k : ℕ) (desc : Desc) (start old new : List ℕ)
      → option_map (λ (s : Spilled). s.desc) (slice_get block k) ≡ Some desc
      → old ≡ start ++ flat_map (spilled_line tile) (take k block)
      → new ≡ old ++ placed_line tile None (placed_desc desc)
      → new ≡ start ++ flat_map (spilled_line tile) (take (k + 1) block)
  block_step block k desc start old new there so more =
      more ∙ ap (λ front. front ++ placed_line tile None (placed_desc desc)) so
      ∙ append_assoc start (flat_map (spilled_line tile) (take k block)) (placed_line tile None (placed_desc desc))
      ∙ ap (λ (all : List ℕ). start ++ all) (sym (more_lines block k desc there))
      ∙ ap (λ n. start ++ flat_map (spilled_line tile) (take n block)) (sym (add-one k))
