-- Events one after another.
use Rattle.std.proofs.Common.{ℕ, ◌≡◌, ◌+◌, ◌∷◌, ◌++◌, ◌<◌, List, [], length, take, refl, sym, ap, subst, ◌∙◌, arith}
use Rattle.std.specs.Prelude.{slice_index_or}
use Rattle.std.proofs.lemmas.List.{length-append, take_more}
use Rattle.event_step.specs.event_def.declared.event.Applied.{Applied}
use Rattle.event_step.specs.event_def.declared.event.Event.{Event}
use Rattle.event_step.specs.event_def.Book.{BookView}
use Rattle.event_step.specs.event_def.Happens.{Happens, HappenAll}
use Rattle.event_step.proofs.Below.event_law.Proved.{events_join}

-- one event more
pub one_more : (N : Type 0) (old mid new : BookView) (events : List (Event N)) (i : ℕ) (event : Event N) (answers : List Applied) (applied : Applied)
    → i < length events → slice_index_or events i event ≡ event → HappenAll old (take i events) answers mid
    → Happens mid event applied.reply applied.aborted new
    → HappenAll old (take (i + 1) events) (answers ++ applied ∷ []) new
one_more N old mid new events i event answers applied inside at happened happens =
    let more : take (i + 1) events ≡ take i events ++ event ∷ [] = take_more events i event inside ∙ ap (λ e. take i events ++ e ∷ []) at in
    subst (λ es. HappenAll old es (answers ++ applied ∷ []) new) (sym more)
    (events_join N old mid new (take i events) (event ∷ []) answers (applied ∷ []) happened (new, happens, refl))

-- with one reply more
pub longer : (before after : List Applied) (applied : Applied) (n : ℕ) → after ≡ before ++ applied ∷ []
    → length before ≡ n → length after ≡ n + 1
longer before after applied n more count =
    let appended = length-append before (applied ∷ []) in
    let same = ap length more in
    omega (arith, same, appended, count)
