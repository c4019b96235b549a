-- A commit keeps the group of tasks, against the state of the serial machine after the turn.
use Rattle.std.proofs.Common.{◌≡◌, ◌≤◌, ◌<◌, ◌+◌, ◌++◌, ℕ, List, length, Option, Some, refl, sym, ap, subst, ◌∙◌, inl}
use Rattle.std.proofs.Common.{inr, arith, map, option_map, is_some, unwrap_or, slice_get}
use Rattle.std.specs.Prelude.{Contains}
use Rattle.fractal_vt.specs.declared.level.Level.{Level}
use Rattle.guest_image.specs.ImageValue.{ImageValue}
use Rattle.spec_state.specs.serial_machine.BagValue.{BagValue}
use Rattle.spill_store.specs.SpilledTasks.{Spilled}
use Rattle.spec_state.specs.task_law.Commit.{Matches}
use Rattle.spec_state.specs.task_law.Domains.{FitsBags}
use Rattle.spec_state.specs.task_law.Sound.{AreSound}
use Rattle.spec_state.specs.task_law.Tasks.{IsSpilled}
use Rattle.spec_state.proofs.Below.task_law.Proved.{commits_keep}
use Rattle.spec_state.specs.declared.task.Creator.{Creator}
use Rattle.spec_state.specs.declared.task.Creator.TheVariants.{Committed, Live}
use Rattle.spec_state.specs.declared.task.Status.{Status}
use Rattle.spec_state.specs.declared.task.Status.TheVariants.{Idle, Running, Trapped, Finished}
use Rattle.spec_state.specs.declared.task.Task.{Task}
use Rattle.spec_state.specs.declared.task.TaskId.{TaskId}
use Rattle.spec_state.specs.View.{View, task_at}
use Rattle.spec_state.specs.Tasks.{Descriptor, child_descriptor, depth_of, descriptor_of, spilled_descriptor}
use Rattle.spec_state.specs.Groups.{all_spilled, bag_creator, bag_task, bag_tasks, bag_spilled, bags_spilled}
use Rattle.spec_state.specs.Groups.{domains_of}
use Rattle.spec_state.specs.Changes.{Commits}
use Rattle.spec_law.specs.Sound.{Sound, SoundTasks, StandsAs, IsMadeBy}
use Rattle.spec_law.proofs.Tasks.Next.{in_spilled}
use Rattle.spec_law.proofs.Commits.Domains.{child_domains, count_domains}
use Rattle.spec_law.proofs.Commits.Order.{one_longer}
use Rattle.spec_law.proofs.Commits.Taken.{with_creator, left, stays, was_there, each_left, live_before}
use Rattle.spec_law.proofs.Commits.Taken.{committed_before}
use Rattle.spec_law.proofs.Commits.Turn.{names, front, state, have, is_heir, is_next, matches_now, keeps_domains}
use Rattle.spec_law.proofs.Tasks.Places.{contains_get}

-- what a task has done is the same whoever made it
stands_still : (image : ImageValue) (version budget : ℕ) (c : Creator) (t : Task) (status : Status)
    → StandsAs image version budget t status → StandsAs image version budget (with_creator t c) status
stands_still image version budget c t Idle is = ap (λ u. with_creator u c) is
stands_still image version budget c t (Running core) is = is
stands_still image version budget c t (Trapped core cause) is =
    let next = is.1 in (is.0, record { ran = next.ran; traps = next.traps })
stands_still image version budget c t Finished is =
    let end = is.1 in (is.0, record { before = end.before; ran = end.ran; ends = end.ends; leaves = end.leaves })

module _ (image : ImageValue) (old new : View) (sound : Sound image old) (commit : Commits old new) where
  -- each spilled task is one for the bags
  for_bags : (s : Spilled) → Contains (all_spilled old) s
      → IsSpilled (bags_spilled old) s.desc.depth (bag_spilled s).task
  for_bags s has = let at = contains_get (all_spilled old) s has in in_spilled old at.0 s at.1

  -- the creator of each spilled task has committed once the heir has
  pub firm : (s : Spilled) → Contains (all_spilled old) s → s.desc.name.creator ≤ length old.history + 1
  firm s has = elim (sound.tasks.names.firm s.desc.depth (bag_spilled s).task (for_bags s has)) [
    | inl low ↦ omega (arith, low)
    | inr next ↦ (let is = next.0 in omega (arith, is))
  ]

  -- the bags after the turn
  abbrev stack : List BagValue
  stack = (state image old new sound commit).stack

  -- domains no deeper than those of the task that commits stay
  stay_fit : (kinds : ℕ) (domain : List Level) → length domain + 1 ≤ depth_of commit.task
      → FitsBags (domains_of kinds domain) sound.serial.stack → FitsBags (domains_of kinds domain) stack
  stay_fit kinds domain low =
      let size = count_domains kinds domain in
      (keeps_domains image old new sound commit).others (domains_of kinds domain) (omega (arith, low, size))

  -- the domains of its children are there
  child_fits : (index : ℕ) (d : Descriptor) → IsMadeBy old commit.id index d
      → FitsBags (domains_of d.kinds d.domain) stack
  child_fits index d made =
      let both : Some made.creator ≡ Some commit.task = sym made.there ∙ commit.least.queued_at.there in
      let same : made.creator ≡ commit.task = cc in
      let at = sym (ap (λ t. slice_get t.spawns index) same) ∙ made.made in
      let is = made.descriptor_is ∙ ap (λ t. child_descriptor t made.spawn) same in
      let fits = have image old new sound commit in
      subst (λ e. FitsBags (domains_of e.kinds e.domain) stack) (sym is)
      ((keeps_domains image old new sound commit).children index made.spawn _ at
      (child_domains commit.task (sound.sizes.kinds commit.id commit.task commit.least.queued_at.there) made.spawn.place
      (fits.inside index made.spawn at) (fits.outside index made.spawn at)))

  -- the domains of each task of a committed creator
  domains_now : (id : ℕ) (task : Task) → task_at new id ≡ Some task → (turn index : ℕ)
      → task.creator ≡ Committed turn index
      → FitsBags (domains_of task.kinds task.key.domain) stack
  domains_now id task at turn index made =
      let was = was_there old new commit id task at in
      let creator = sym (ap (λ t. t.creator) was.is) ∙ made in
      subst (λ t. FitsBags (domains_of t.kinds t.key.domain) stack) (sym was.is)
      (elim (committed_before commit.id (length old.history + 1) was.was.creator turn index creator) [
        | inl free ↦ stay_fit was.was.kinds was.was.key.domain
            ((front image old new sound commit).deepest (depth_of was.was) _
            (inl (record {
              id = id;
              task = bag_task was.was;
              there = ap (option_map bag_task) was.there;
              turn = turn;
              index = index;
              creator = ap bag_creator free;
              depth_is = refl;
              pending_is = refl;
            })))
            (sound.tasks.domains id was.was turn index was.there free)
        | inr child ↦
            child_fits child.1 (descriptor_of was.was)
            (subst (λ k. IsMadeBy old k child.1 (descriptor_of was.was)) child.3 (sound.tasks.children id was.was child.0 child.1 was.there child.2))
      ])

  -- and of each spilled one
  spilled_now : (s : Spilled) → Contains (all_spilled old) s → FitsBags (domains_of s.desc.kinds s.domain) stack
  spilled_now s has = elim (sound.tasks.names.firm s.desc.depth (bag_spilled s).task (for_bags s has)) [
    | inl low ↦
        let deep = (sound.sizes.spilled s has).1 in
        let upto = (front image old new sound commit).deepest s.desc.depth (bag_spilled s).task (inr (for_bags s has, low)) in
        stay_fit s.desc.kinds s.domain (omega (arith, deep, upto)) (sound.tasks.spilled_domains s has low)
    | inr next ↦
        let child = sound.tasks.spilled_children s has next.0 in
        let both : Some child.0 ≡ Some commit.id = sym child.1 ∙ is_heir image old new sound commit in
        let same : child.0 ≡ commit.id = cc in
        child_fits s.desc.name.index (spilled_descriptor s) (subst (λ k. IsMadeBy old k s.desc.name.index (spilled_descriptor s)) same child.2)
  ]

  -- each child of an uncommitted creator is as that one made it
  children_now : (id : ℕ) (task : Task) → task_at new id ≡ Some task → (creator : TaskId) (index : ℕ)
      → task.creator ≡ Live creator index
      → IsMadeBy new creator.0 index (descriptor_of task)
  children_now id task at creator index made =
      let was = was_there old new commit id task at in
      let live = live_before commit.id (length old.history + 1) was.was.creator creator index (sym (ap (λ t. t.creator) was.is) ∙ made) in
      let by = sound.tasks.children id was.was creator index was.there live.0 in
      record {
        creator = left old new commit by.creator;
        there = stays old new commit creator.0 by.creator live.1 by.there;
        spawn = by.spawn;
        made = by.made;
        descriptor_is = ap descriptor_of was.is ∙ by.descriptor_is;
      }

  module _ (few : length old.history < old.settings.commits) (heir : Option ℕ) where
    same_spilled : all_spilled new ≡ all_spilled old
    same_spilled = ap (λ v. all_spilled v) commit.frame

    -- a spilled task is one of before
    before : (s : Spilled) → Contains (all_spilled new) s → Contains (all_spilled old) s
    before s has = subst (λ ss. Contains ss s) same_spilled has

    -- what holds at the next number holds at that of the new journal
    names_now : AreSound (length new.history) (unwrap_or heir 0) (is_some heir) (bag_tasks new) (bags_spilled new)
    names_now =
        subst (λ ss. AreSound (length new.history) (unwrap_or heir 0) (is_some heir) (bag_tasks new) (map bag_spilled ss)) (sym same_spilled)
        (subst (λ count. AreSound count (unwrap_or heir 0) (is_some heir) (bag_tasks new) (bags_spilled old)) (sym (one_longer old new commit))
        (commits_keep (length old.history) commit.id commit.turn commit.index (unwrap_or heir 0) (is_some heir) (bag_tasks old) (bag_tasks new) (bags_spilled old)
        (bag_task commit.task) (names image old new sound commit) (is_next image old new sound commit)))

    -- the free tasks are the pending ones after the turn
    matches_so : Matches (length new.history) (bag_tasks new) (bags_spilled new) stack
    matches_so =
        subst (λ ss. Matches (length new.history) (bag_tasks new) (map bag_spilled ss) stack) (sym same_spilled)
        (subst (λ count. Matches count (bag_tasks new) (bags_spilled old) stack) (sym (one_longer old new commit)) (matches_now image old new sound commit))

    -- the group holds after the commit, whichever task is the heir next
    pub commit_keeps_tasks : SoundTasks image new heir (state image old new sound commit)
    commit_keeps_tasks =
        let longer = one_longer old new commit in
        let settings : new.settings ≡ old.settings = ap (λ v. v.settings) commit.frame in
        record {
          few = subst (λ s. length new.history ≤ s.commits) (sym settings) (omega (arith, longer, few));
          output = commit.output ∙ ap (λ bytes. bytes ++ commit.task.bytes) sound.tasks.output;
          names = names_now;
          matches = matches_so;
          domains = λ id task turn index at. domains_now id task at turn index;
          spilled_domains = λ s has low. spilled_now s (before s has);
          stands = each_left old new commit (λ k t. StandsAs image new.version new.settings.budget t t.status)
              (λ k t other there. stands_still image new.version new.settings.budget (left old new commit t).creator t t.status
              (subst (λ s. StandsAs image new.version s.budget t t.status) (sym settings)
              (subst (λ n. StandsAs image n old.settings.budget t t.status) (sym (ap (λ (v : View). v.version) commit.frame)) (sound.tasks.stands k t there))));
          children = λ id task creator index at. children_now id task at creator index;
          spilled_children =
              λ s has next. (let low = firm s (before s has) in absurd (omega (arith, low, next, longer)));
        }
