-- How many of the first cores of a tile pass a test, as far as a loop has come.
use Rattle.std.proofs.Common.{◌≡◌, ◌+◌, ℕ, Bool, List, ap}
use Rattle.std.specs.Prelude.{count_by, sum_by}
use Rattle.std.specs.declared.option.Option.{Option}
use Rattle.std.specs.List.{range_with_len}
use Rattle.watch_text.specs.spec_state.declared.task.Task.{Task}
use Rattle.watch_text.specs.spec_state.View.{View}
use Rattle.watch_counts.specs.Counts.{cores_in, on_core}

abbrev pub cores_to : View → List Bool → (Bool → Option Task → Bool) → ℕ → ℕ → ℕ
cores_to view stalled test tile count = count_by (on_core view stalled test tile) (range_with_len 0 count)

-- behind the last core of a tile, with those of the tiles before
pub to_last : (view : View) (stalled : List Bool) (test : Bool → Option Task → Bool) (tile core : ℕ)
    → core ≡ view.settings.cores → sum_by (cores_in view stalled test) (range_with_len 0 tile)
    + cores_to view stalled test tile core
    ≡ sum_by (cores_in view stalled test) (range_with_len 0 tile) + cores_in view stalled test tile
to_last view stalled test tile core is = ap (λ (k : ℕ).
    sum_by (cores_in view stalled test) (range_with_len 0 tile) + cores_to view stalled test tile k) is
