-- Which acts of a round are asked for.
use Rattle.std.proofs.Common.{◌≡◌, ◌⊎◌, ℕ, Bool, true, false, Some, None, inl, inr, refl, sym, subst, ◌∙◌}
use Rattle.std.specs.Prelude.{◌↔◌, IfSome, IsFalse, IsNone, IsTrue, is_some}
use Rattle.std.specs.declared.option.Option.{Option}
use Rattle.watch_counts.specs.spec_state.declared.task.Task.{Task}
use Rattle.watch_counts.specs.spec_state.declared.task.TaskId.{TaskId}
use Rattle.watch_counts.specs.spec_state.declared.task.Where.{Where}
use Rattle.watch_counts.specs.spec_state.declared.task.Where.TheVariants as where_
use Rattle.watch_counts.specs.spec_state.Least.{IsLeast, IsTheLeast}
use Rattle.watch_counts.specs.spec_state.Queries.{IsFreeCore, IsIdle, IsLeastIdle, IsLowestFree}
use Rattle.watch_counts.specs.spec_state.View.{View}
use Rattle.run_journal.specs.declared.end.End.{End}
use Rattle.watch_counts.specs.event_def.End.{HasEnd, IsOver}
use Rattle.watch_counts.specs.event_basis.Whereabouts.{IsUnfinished}
use Rattle.watch_counts.proofs.Below.event_basis.Proved.{none_commits}
use Rattle.watch_counts.specs.event_move.Idling.{NoIdleIsLeast}
use Rattle.watch_counts.specs.step_script.declared.act.Act.TheVariants as acts
use Rattle.watch_play.specs.Courses.{IsAskedInRound}

-- what a test that failed says
pub refused : {P : Type 0} (b : Bool) → IsTrue b ↔ P → b ≡ false → P → ⊥
refused b test is p = let yes : b ≡ true = test.1 p in absurd (cc (sym is ∙ yes))

-- an end that is told is one
pub told_is_over : (view : View) (told : Option End) (b : Bool) → IfSome told (HasEnd view) → b ≡ is_some told → b ≡
    true
    → IsOver view
told_is_over view None b has tested is = absurd (cc (sym is ∙ tested))
told_is_over view (Some end) b has tested is = (end, has)

-- a test that fails, where a proposition does
fails_too : {Q : Type 0} → (Q → ⊥) → IsTrue false ↔ Q
fails_too none = (λ t. absurd (cc (t)), λ q. absurd (none q))

-- ---- acts

-- a dispatch, where a core is free
pub core_asked : (view : View) (tile core : ℕ) → IsLowestFree view tile core → (found : Bool)
    → (IsTrue found → (id : ℕ) × (task : Task) × IsLeastIdle view tile id task)
    → (IsFalse found → (id : ℕ) (task : Task) → IsIdle view tile id task → ⊥)
    → IsTrue found ↔ IsAskedInRound view (acts.Dispatch tile)
core_asked view tile core free true some none =
    (λ t. let one = some t in (one.0, one.1, one.2, inl (core, free.free)), λ q. refl)
core_asked view tile core free false some none =
    fails_too {Q = IsAskedInRound view (acts.Dispatch tile)} (λ q. none refl q.0 q.1 q.2.idle)

-- and where none is
pub least_asked : (view : View) (tile : ℕ) → ((core : ℕ) → IsFreeCore view tile core → ⊥) → (found : Option TaskId)
    → IfSome found (λ id. ((task : Task) × IsLeastIdle view tile id.0 task) × IsTheLeast view id.0)
    → (IsNone found → NoIdleIsLeast view tile) → IsTrue (is_some found) ↔ IsAskedInRound view (acts.Dispatch tile)
least_asked view tile held None some none =
    fails_too {Q = IsAskedInRound view (acts.Dispatch tile)} (λ q. by_cause q.0 q.1 q.2 q.3)
  where
    by_cause : (k : ℕ) (x : Task) → IsLeastIdle view tile k x
        → (((core : ℕ) × IsFreeCore view tile core) ⊎ IsTheLeast view k) → ⊥
    by_cause k x idle (inl core) = held core.0 core.1
    by_cause k x idle (inr least) = none refl k x idle.idle least
least_asked view tile held (Some id) some none = (λ t. (id.0, some.0.0, some.0.1, inr some.1), λ q. refl)

-- a commit is asked for where the least task is finished
pub commit_asked : (view : View) (w : Where) (id : TaskId) → IsLeast view w → w ≡ where_.Finished id
    → IsTrue true ↔ IsAskedInRound view acts.Commit
commit_asked view w id is stands =
    let finished : IsLeast view (where_.Finished id) = subst (IsLeast view) stands is in
    (λ t. (id.0, finished.0, finished.1, finished.2), λ q. refl)

-- and none where it isn't
pub no_commit_asked : (view : View) (w other : Where) → IsLeast view w → w ≡ other → IsUnfinished other
    → IsTrue false ↔ IsAskedInRound view acts.Commit
no_commit_asked view w other is stands goes_on =
    fails_too {Q = IsAskedInRound view acts.Commit}
    (λ q. none_commits view other (subst (IsLeast view) stands is) goes_on q.0 q.1 q.2 q.3)
