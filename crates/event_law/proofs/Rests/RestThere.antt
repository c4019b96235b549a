-- How the least task of a sound view stands, or that the run is over: one of these is the case.
use Rattle.std.proofs.Common.{ℕ, ◌≡◌, ◌≢◌, ◌⊎◌, inl, inr, length, Some, refl, sym, ap, subst, ◌∙◌}
use Rattle.std.proofs.lemmas.Bool.{cases_eq}
use Rattle.guest_image.specs.ImageValue.{ImageValue}
use Rattle.run_journal.specs.declared.end.End.{End}
use Rattle.run_journal.specs.declared.end.End.TheVariants as ends
use Rattle.task_desc.specs.declared.desc.Name.{Name}
use Rattle.event_def.specs.task_law.Advance.{Standing, rest_of_way}
use Rattle.event_def.specs.task_law.Advance as standing
use Rattle.event_def.specs.spec_state.declared.task.Status.{Status}
use Rattle.event_def.specs.spec_state.declared.task.Status.TheVariants.{Idle, Running, Trapped, Finished}
use Rattle.event_def.specs.spec_state.declared.task.Task.{Task}
use Rattle.event_def.specs.spec_state.View.{View, queue_at}
use Rattle.event_def.specs.spec_state.Least.{Spot, Queued, Spilled_at, IsAllCommitted, IsLeastSpot, IsLeastTask}
use Rattle.event_def.specs.spec_state.Least.{IsLeastSpilled}
use Rattle.event_def.specs.spec_state.Least.{IsQueuedAt}
use Rattle.spec_law.specs.Sound.{Sound}
use Rattle.spec_law.proofs.Proved.{get_contains, least_is_next, least_is_one}
use Rattle.event_def.specs.Advancing.{StandsSo}
use Rattle.event_def.specs.End.{HasEnd, IsOver, LeastIsTrapped}
use Rattle.event_law.specs.Laws.{EndIsThere, RestIsThere}
use Rattle.event_law.proofs.Ends.{end_is_one, one_least}
use Rattle.event_law.proofs.Falls.Rest.{not_both}
use Rattle.event_law.proofs.Rests.LeastSpot.{least_spot}

-- the view stands in some way
abbrev pub Stands : View → Type 0
Stands view = (stands : Standing) × StandsSo view stands

-- of a sound view, the task at a least place of a queue is the least task, since it stands in the queue of its own tile
pub queued_least : (image : ImageValue) (view : View) → Sound image view → (tile place : ℕ)
    → IsLeastSpot view (Queued tile place)
    → (id : ℕ) × (task : Task) × IsLeastTask view id task
queued_least image view sound tile place least = (
  id,
  task,
  record {
    place = place;
    queued_at = subst (λ t. IsQueuedAt view t place id task) (sym own) at;
    least = subst (λ t. IsLeastSpot view (Queued t place)) (sym own) least;
  },
)
  where
    id : ℕ
    id = least.has.0

    task : Task
    task = least.has.1

    at : IsQueuedAt view tile place id task
    at = least.has.2

    own : task.tile ≡ tile
    own =
        let has = (sound.sizes.queued_are tile id).0 (get_contains (queue_at view tile) place id at.queued) in
        let both : Some has.0 ≡ Some task = sym has.1 ∙ at.there in
        let same : has.0 ≡ task = cc in
        ap (λ (t : Task). t.tile) (sym same) ∙ has.2

-- a run goes on where some task is uncommitted, fewer have committed than may, and the least task isn't trapped
pub goes_on : (view : View) → (IsAllCommitted view → ⊥) → length view.history ≢ view.settings.commits
    → ((name : Name) (cause pc : ℕ) → LeastIsTrapped view name cause pc → ⊥) → IsOver view → ⊥
goes_on view some few free over = by_end over.0 over.1
  where
    by_end : (end : End) → HasEnd view end → ⊥
    by_end ends.Normal has = some has
    by_end ends.Limit has = few has.1
    by_end (ends.Trap name cause pc) has = free name cause pc has.1
    by_end ends.Unfinished has = has

module _ (image : ImageValue) (view : View) (sound : Sound image view) (some : IsAllCommitted view → ⊥) (few : length view.history ≢ view.settings.commits) where
  module _ (id : ℕ) (task : Task) (least : IsLeastTask view id task) where
    -- where its status isn't that of a trapped task, the run isn't over
    untrapped : ((core cause : ℕ) → task.status ≢ Trapped core cause) → IsOver view → ⊥
    untrapped free =
        goes_on view some few
        (λ name cause pc is.
        let same = one_least view (least_is_one view) is.id id is.task task is.least least in
        free is.core cause (ap (λ (t : Task). t.status) (sym same) ∙ is.trapped))

    -- it stands as its status says
    by_status : (status : Status) → task.status ≡ status → Stands view
    by_status Idle is =
        (standing.Idle, (untrapped (λ core cause trapped. absurd (cc (sym is ∙ trapped))), id, task, least, is))
    by_status (Running core) is =
        (standing.Running task.core.used, (untrapped (λ other cause trapped. absurd (cc (sym is ∙ trapped))), id, task, core, least, is, refl))
    by_status Finished is =
        (standing.Finished, (untrapped (λ core cause trapped. absurd (cc (sym is ∙ trapped))), id, task, least, is))
    by_status (Trapped core cause) is =
        let may = least_is_next image view sound id task least in
        let name : Name = record { creator = may.turn; index = may.index } in
        let trap : (pc : ℕ) × LeastIsTrapped view name cause pc = (
          _,
          record {
            id = id;
            task = task;
            core = core;
            least = least;
            trapped = is;
            named =
                may.creator;
            pc_is = refl;
          },
        )
        in
        (standing.Over, (ends.Trap name cause trap.0, (few, trap.1)))

  -- queued or spilled
  by_spot : (spot : Spot) → IsLeastSpot view spot → Stands view
  by_spot (Queued tile place) least =
      let task = queued_least image view sound tile place least in
      by_status task.0 task.1 task.2 task.1.status refl
  by_spot (Spilled_at tile place) least =
      let spilled : IsLeastSpilled view tile = record { place = place; least = least } in
      (standing.Spilled, (goes_on view some few (λ name cause pc is. not_both view is.id tile is.task is.least spilled), tile, spilled))

-- a sound view stands in some way
pub stands_so : (image : ImageValue) (view : View) → Sound image view → Stands view
stands_so image view sound = elim (least_spot view) [
  | inl all ↦ (standing.Over, (ends.Normal, all))
  | inr least ↦ by_count least.0 least.1 (cases_eq (length view.history) view.settings.commits)
]
  where
    by_count : (spot : Spot) → IsLeastSpot view spot
        → (length view.history ≡ view.settings.commits) ⊎ (length view.history ≡ view.settings.commits → ⊥)
        → Stands view
    by_count spot least (inl full) = (standing.Over, (ends.Limit, ((λ all. all spot least.key least.has), full)))
    by_count spot least (inr few) = by_spot image view sound (λ all. all spot least.key least.has) few spot least

-- and so has a rest
pub rest_is_there : RestIsThere
rest_is_there image view sound =
    let is = stands_so image view sound in
    (rest_of_way view.settings.budget is.0, record { stands = is.0; stands_so = is.1; left_is = refl })

-- whether the run is over, by how the view stands
over_or_not : (view : View) (stands : Standing) → StandsSo view stands → IsOver view ⊎ (IsOver view → ⊥)
over_or_not view standing.Over so = inl so
over_or_not view standing.Finished so = inr so.0
over_or_not view (standing.Running used) so = inr so.0
over_or_not view standing.Idle so = inr so.0
over_or_not view standing.Spilled so = inr so.0

-- and where it is, how it ended
pub end_is_there : EndIsThere
end_is_there image view sound =
    let is = stands_so image view sound in
    elim (over_or_not view is.0 is.1) [
      | inl over ↦ inl (over.0, record { has = over.1; only = λ other has. end_is_one view over.0 other over.1 has })
      | inr on ↦ inr on
    ]
