-- The group of tasks at the opening.
use Rattle.std.proofs.Common.{ℕ, ◌+◌, ◌≡◌, ◌≤◌, ◌↔◌, inl, inr, false, [], ◌∷◌, Some, None, refl, sym, ap, subst, ◌∙◌}
use Rattle.std.proofs.Common.{arith}
use Rattle.std.specs.Prelude.{length, map, Contains}
use Rattle.std.specs.List.{enumerate_from}
use Rattle.std.proofs.lemmas.List.Elements.{All-contains}
use Rattle.guest_image.specs.declared.image.ImageTask.{ImageTask}
use Rattle.guest_image.specs.declared.image.Kind.{Kind}
use Rattle.guest_image.specs.declared.image.Kind.TheVariants.{Unordered, Ordered}
use Rattle.guest_image.specs.ImageValue.{ImageValue}
use Rattle.pending_list.specs.declared.task.PendingTask.{PendingTask}
use Rattle.event_def.specs.serial_machine.Run.{opening, image_task}
use Rattle.spill_store.specs.SpilledTasks.{Spilled}
use Rattle.event_def.specs.task_law.Commit.{Matches}
use Rattle.event_def.specs.task_law.Domains.{FitsBags}
use Rattle.event_def.specs.task_law.Sound.{AreSound}
use Rattle.event_def.specs.task_law.Tasks.{In}
use Rattle.event_def.specs.spec_state.declared.settings.Settings.{Settings}
use Rattle.event_def.specs.spec_state.declared.task.Creator.TheVariants.{Committed, Live}
use Rattle.event_def.specs.spec_state.declared.task.Task.{Task}
use Rattle.event_def.specs.spec_state.declared.task.TaskId.{TaskId}
use Rattle.event_def.specs.spec_state.View.{View, task_at}
use Rattle.event_def.specs.spec_state.Tasks.{kind_at}
use Rattle.event_def.specs.spec_state.Groups.{all_spilled, bag_tasks, bags_spilled, domains_of}
use Rattle.spec_law.specs.Sound.{SoundTasks, StandsAs}
use Rattle.event_def.specs.Opening.{root_kinds}
use Rattle.event_law.proofs.Lists.{all_of_lists}
use Rattle.event_law.proofs.Openings.Named.{Free}
use Rattle.event_law.proofs.Openings.Rooted.{IsImageSpilled, AreImageTasks}
use Rattle.event_law.proofs.Openings.Untouched.{IsUntouched}

-- the root's kind is told by its bit
root_kind : (kind : Kind) → kind_at 0 (root_kinds kind) ≡ kind
root_kind Unordered = refl
root_kind Ordered = refl

-- where the root's tasks are the free ones, they are those of the opening's bag
pub opening_matches : (image : ImageValue) (view : View)
    → ((depth : ℕ) (q : PendingTask) → Free view depth q ↔ ((depth ≡ 1) × In q (map (image_task image.kind) (enumerate_from 0 image.tasks))))
    → Matches 0 (bag_tasks view) (bags_spilled view) (opening image).stack
opening_matches image view free depth q = (
  λ f. (let one = (free depth q).0 f in inl (sym one.0, one.1)),
  λ stands. elim stands [ inl one ↦ (free depth q).1 (sym one.0, one.1) | inr none ↦ absurd none ],
)

module _ (image : ImageValue) (settings : Settings) (among : ℕ → ImageTask → Type 0) (view : View) (are : AreImageTasks image.kind among view) (is : IsUntouched image settings view) (names : AreSound 0 0 false (bag_tasks view) (bags_spilled view)) (matches : Matches 0 (bag_tasks view) (bags_spilled view) (opening image).stack) where
  -- a spilled task is one of the image's
  spilled_is : (s : Spilled) → Contains (all_spilled view) s → IsImageSpilled image.kind among s
  spilled_is s there =
      All-contains (IsImageSpilled image.kind among) (all_spilled view) s (all_of_lists (IsImageSpilled image.kind among) view.blocks are.spilled) there

  -- the root domain is that of the opening's bag
  root_fits : FitsBags (domains_of (root_kinds image.kind) []) (opening image).stack
  root_fits = inl (λ i. record { kind = root_kind image.kind i; floor = 0 } ∷ [])

  -- no creator is to commit yet
  no_live : (id : ℕ) (task : Task) (creator : TaskId) (index : ℕ) → task_at view id ≡ Some task
      → task.creator ≡ Live creator index → ⊥
  no_live id task creator index there made =
      let one = are.tasks id task there in
      let no_way : Committed 0 one.index ≡ Live creator index = ap (λ t. t.creator) (sym one.is) ∙ made in
      absurd (cc (no_way))

  -- nor is that of a spilled task
  no_next : (s : Spilled) → Contains (all_spilled view) s → s.desc.name.creator ≡ length view.history + 1 → ⊥
  no_next s there next =
      let first : s.desc.name.creator ≡ 0 = ap (λ x. x.desc.name.creator) (spilled_is s there).is in
      omega (arith, first, next)

  pub tasks_are : SoundTasks image view None (opening image)
  tasks_are = record {
    few = subst (λ journal. length journal ≤ view.settings.commits) (sym is.history) (omega arith);
    output = is.output;
    names =
        subst (λ journal. AreSound (length journal) 0 false (bag_tasks view) (bags_spilled view)) (sym is.history) names;
    matches =
        subst (λ journal. Matches (length journal) (bag_tasks view) (bags_spilled view) (opening image).stack) (sym is.history) matches;
    domains = λ id task turn index there made.
        subst (λ (t : Task). FitsBags (domains_of t.kinds t.key.domain) (opening image).stack) (sym (are.tasks id task there).is) root_fits;
    spilled_domains = λ s there low.
        subst (λ (x : Spilled). FitsBags (domains_of x.desc.kinds x.domain) (opening image).stack) (sym (spilled_is s there).is) root_fits;
    stands =
        λ id task there. subst (λ (t : Task). StandsAs image view.version view.settings.budget t t.status) (sym (are.tasks id task there).is) refl;
    children = λ id task creator index there made. absurd (no_live id task creator index there made);
    spilled_children = λ s there next. absurd (no_next s there next);
  }
