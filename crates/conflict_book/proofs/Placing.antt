-- The tasks of an image, placed one after another.
use Rattle.std.proofs.Common.{ℕ, ◌+◌, ◌≡◌, ◌<◌, List, ◌∷◌, sym, ap, subst}
use Rattle.std.specs.Prelude.{length, drop, slice_index_or}
use Rattle.std.specs.List.{enumerate_from}
use Rattle.std.proofs.lemmas.List.{drop_more}
use Rattle.guest_image.specs.declared.image.ImageTask.{ImageTask}
use Rattle.guest_image.specs.declared.image.Kind.{Kind}
use Rattle.event_step.specs.event_def.Book.{BookView}
use Rattle.event_step.specs.event_def.Opening.{PlacesImageTask, PlacesAll}

-- whatever the tasks from a place on lead to from this book, all of them lead to from the first one
abbrev pub LeadsOn : Kind → List ImageTask → ℕ → BookView → BookView → Type 0
LeadsOn kind tasks i first now =
    (final : BookView) → PlacesAll kind (enumerate_from i (drop i tasks)) now final → PlacesAll kind (enumerate_from 0 tasks) first final

-- with one more task placed
pub leads_more : (kind : Kind) (tasks : List ImageTask) (i : ℕ) (first now next : BookView) (task : ImageTask)
    → i < length tasks
    → slice_index_or tasks i task ≡ task → LeadsOn kind tasks i first now → PlacesImageTask kind i task now next
    → LeadsOn kind tasks (i + 1) first next
leads_more kind tasks i first now next task inside at before places final rest =
    let first_is : enumerate_from i (drop i tasks) ≡ (i, slice_index_or tasks i task) ∷ enumerate_from (i + 1) (drop (i + 1) tasks) =
    ap (enumerate_from i) (drop_more tasks i task inside) in
    before final
    (subst (λ es. PlacesAll kind es now final) (sym first_is)
    (next, subst (λ t. PlacesImageTask kind i t now next) (sym at) places, rest))
