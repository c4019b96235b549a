-- At the opening names are apart, and the free tasks are those of the image.
use Rattle.std.proofs.Common.{ℕ, zero, suc, ◌+◌, ◌≡◌, ◌≢◌, ◌<◌, ◌≤◌, ◌⊎◌, ◌↔◌, inl, inr, true, false, List, [], ◌∷◌}
use Rattle.std.proofs.Common.{Some, None, refl, sym, ap, subst, ◌∙◌, arith}
use Rattle.std.specs.Prelude.{length, map, flat_map, option_map, replicate}
use Rattle.std.specs.List.{All, AllByRecursion, enumerate_from}
use Rattle.std.proofs.lemmas.List.Elements.{All-map, All-weaker, recursion_from_All}
use Rattle.guest_image.specs.declared.image.ImageTask.{ImageTask}
use Rattle.guest_image.specs.declared.image.Kind.{Kind}
use Rattle.guest_image.specs.ImageValue.{ImageValue}
use Rattle.pending_list.specs.declared.task.PendingTask.{PendingTask}
use Rattle.event_def.specs.serial_machine.Run.{image_task}
use Rattle.spill_store.specs.SpilledTasks.{Spilled}
use Rattle.task_desc.specs.declared.desc.Name.{Name}
use Rattle.event_def.specs.task_law.Tasks as bags
use Rattle.event_def.specs.task_law.Tasks.{In, IsFree, IsSpilled, Names, SpilledBagTask}
use Rattle.event_def.specs.task_law.Sound.{AreSound, SameFree}
use Rattle.event_def.specs.task_law.Grows as grow
use Rattle.event_def.proofs.Below.task_law.Proved.{none_sound, placements_keep}
use Rattle.event_def.specs.spec_state.declared.settings.Settings.{Settings}
use Rattle.event_def.specs.spec_state.declared.task.Creator.{Creator}
use Rattle.event_def.specs.spec_state.declared.task.Creator.TheVariants.{Committed, Live}
use Rattle.event_def.specs.spec_state.declared.task.Task.{Task}
use Rattle.event_def.specs.spec_state.View.{View, task_at}
use Rattle.event_def.specs.spec_state.Tasks.{idle_task, is_dispatched}
use Rattle.event_def.specs.spec_state.Groups.{all_spilled, bag_creator, bag_task, bag_tasks, bag_spilled, bags_spilled}
use Rattle.event_def.specs.spec_state.Least.{HasName, IsHeir}
use Rattle.event_def.specs.spec_state.Room.{Coalesces, QueueHasRoom, IsFull}
use Rattle.event_def.specs.Book.{BookView, picked_tile}
use Rattle.event_def.specs.spec_state.Opening.{IsEmptyView}
use Rattle.event_def.proofs.Below.spec_state.Proved.{within_lists}
use Rattle.event_def.specs.Opening.{image_descriptor, PlacesImageTask, PlacesAll}
use Rattle.event_law.proofs.Lists.{all_of_lists, from_option}
use Rattle.event_law.proofs.Openings.Rooted.{IsImageSpilled, AreImageTasks, coalesces_keeps, places_keeps, none_are}
use Rattle.event_law.proofs.Openings.Sized.{IsSized, coalesced_sized, room_sized, placed_sized, none_sized}
use Rattle.spec_law.proofs.Proved.{coalesced_bags, some_first}

-- what holds of each element holds of what stands among them
each_in : {X : Type 0} (P : X → Type 0) (xs : List X) (x : X) → AllByRecursion P xs → In x xs → P x
each_in P [] x all there = absurd there
each_in P (y ∷ ys) x all (inl is) = subst P (sym is) all.0
each_in P (y ∷ ys) x all (inr behind) = each_in P ys x all.1 behind

-- empty lists, one after another, are empty
flat_none : (n : ℕ) → flat_map (λ (xs : List Spilled). xs) (replicate n []) ≡ []
flat_none zero = refl
flat_none (suc n) = flat_none n

-- the free tasks of a view with an empty journal
abbrev pub Free : View → ℕ → PendingTask → Type 0
Free view depth p = IsFree (bag_tasks view) (IsSpilled (bags_spilled view)) 0 depth p

module _ (kind : Kind) where
  -- all uncommitted tasks are initial ones of the first places, so many; none has committed, and names are apart
  pub record IsNamed (k : ℕ) (view : View) : Type 0 where
    pub are : AreImageTasks kind (λ index from. index < k) view
    pub sized : IsSized view
    pub history : view.history ≡ []
    pub sound : AreSound 0 0 false (bag_tasks view) (bags_spilled view)

  -- initial tasks of some places are ones of more
  weaker : (few more : ℕ → ImageTask → Type 0) (view : View)
      → ((index : ℕ) (from : ImageTask) → few index from → more index from) → AreImageTasks kind few view
      → AreImageTasks kind more view
  weaker few more view each are =
      record {
        tasks =
            λ id task there. (let one = are.tasks id task there in record { index = one.index; tile = one.tile; from = one.from; one_of = each one.index one.from one.one_of; is = one.is });
        spilled =
            All-weaker (λ block. All (IsImageSpilled kind few) block) (λ block. All (IsImageSpilled kind more) block)
            (λ block all. All-weaker (IsImageSpilled kind few) (IsImageSpilled kind more)
            (λ s one. record { index = one.index; from = one.from; one_of = each one.index one.from one.one_of; is = one.is }) block all)
            view.blocks are.spilled;
      }

  module _ (k : ℕ) (view : View) (named : IsNamed k view) where
    -- no task is dispatched
    none_dispatched : (id : ℕ) (task : Task) → task_at view id ≡ Some task → is_dispatched task ≡ false
    none_dispatched id task there = ap is_dispatched (named.are.tasks id task there).is

    -- so there is no heir
    none_heir : (id : ℕ) → IsHeir view (Some id) → ⊥
    none_heir id heir =
        let no_way : true ≡ false = sym heir.2 ∙ none_dispatched id heir.0 heir.1.queued_at.there in
        cc

    -- firm tasks have the names that the bags give them
    bag_names : (creator : Creator) (name : Name) → HasName view creator name → Names 0 0 (bag_creator creator) name
    bag_names (Committed turn index) name is = (is.1, subst (λ journal. turn ≤ length journal) named.history is.0)
    bag_names (Live task index) name is = absurd (none_heir task.0 is.0)

    bag_heirs : (creator : Creator) (name : Name) → HasName view creator name → (j index : ℕ)
        → bag_creator creator ≡ bags.Live j index → false ≡ true
    bag_heirs (Committed turn i) name is j index live = absurd (cc (live))
    bag_heirs (Live task i) name is j index live = absurd (none_heir task.0 is.0)

    -- a coalescing leaves names and free tasks as they are
    coalesced : (tile : ℕ) (new : View) → Coalesces tile view new
        → IsNamed k new × SameFree 0 (bag_tasks view) (bags_spilled view) (bag_tasks new) (bags_spilled new)
    coalesced tile new c =
        let first = some_first c.ids c.some in
        let queued = (c.chosen.movable first.0 first.1).1.idle.queued in
        let within : tile < length view.queues = within_lists view.queues tile first.0 queued in
        let inside : tile < length view.blocks = omega (arith, within, named.sized.queues, named.sized.blocks) in
        let both = coalesced_bags 0 0 false tile view new c inside (λ id task there status. none_dispatched id task there) bag_names bag_heirs in (
          record {
            are = coalesces_keeps kind (λ index from. index < k) tile view new named.are c;
            sized = coalesced_sized tile view new named.sized c;
            history = ap (λ v. v.history) c.frame ∙ named.history;
            sound = both.1 named.sound;
          },
          both.0,
        )

    -- so does what makes room
    roomed : (tile : ℕ) (mid : View)
        → (QueueHasRoom view tile × (mid ≡ view)) ⊎ (IsFull view tile × Coalesces tile view mid)
        → IsNamed k mid × SameFree 0 (bag_tasks view) (bags_spilled view) (bag_tasks mid) (bags_spilled mid)
    roomed tile mid (inl free) =
        subst (λ v. IsNamed k v × SameFree 0 (bag_tasks view) (bags_spilled view) (bag_tasks v) (bags_spilled v)) (sym free.1)
        (named, λ depth p. (λ f. f, λ f. f))
    roomed tile mid (inr full) = coalesced tile mid full.1

  module _ (k : ℕ) (task : ImageTask) (old new : BookView) (p : PlacesImageTask kind k task old new) (mid_named : IsNamed k p.mid) where
    -- this spilled task has not the name of the next one
    IsOther : SpilledBagTask → Type 0
    IsOther e = e.task.name ≢ record { creator = 0; index = k }

    others_spilled : AllByRecursion IsOther (bags_spilled p.mid)
    unfolding IsOther
    others_spilled =
        recursion_from_All IsOther (bags_spilled p.mid)
        (All-map IsOther bag_spilled (all_spilled p.mid)
        (All-weaker (IsImageSpilled kind (λ index from. index < k)) (λ s. IsOther (bag_spilled s))
        (λ s one same.
        (let is : s.desc.name.index ≡ one.index = ap (λ x. x.desc.name.index) one.is in
        let this : s.desc.name.index ≡ k = ap (λ (n : Name). n.index) same in
        absurd (omega (arith, is, this, one.one_of))))
        (all_spilled p.mid) (all_of_lists (IsImageSpilled kind (λ index from. index < k)) p.mid.blocks mid_named.are.spilled)))

    -- a placement, as the bags see it
    bag_places : grow.PlacesInBags 0 (bag_tasks p.mid) (bag_tasks new.view) (bags_spilled p.mid) p.id
        (bag_task (idle_task p.mid.version (image_descriptor kind k task) (Committed 0 k) (picked_tile old k))) 0 k
    unfolding IsOther
    bag_places = record {
      unused = ap (option_map bag_task) p.vacant;
      new_is = ap (option_map bag_task) p.changes.changed;
      others = λ j other. ap (option_map bag_task) (p.changes.others j other);
      creator = refl;
      counted = omega arith;
      idle = refl;
      other_names = λ j x there made.
          (let one = from_option bag_task (task_at p.mid j) x there in
          let root = mid_named.are.tasks j one.0 one.1 in
          let creators : bags.Committed 0 root.index ≡ bags.Committed 0 k = ap (λ t. bag_creator t.creator) (sym root.is) ∙ (ap (λ t. t.creator) one.2 ∙ made) in
          let same : root.index ≡ k = cc in
          absurd (omega (arith, same, root.one_of)));
      fresh = λ e there. each_in IsOther (bags_spilled p.mid) e others_spilled there;
    }

    -- it makes the task free beside those that were, under its own name
    placed_free : ((depth : ℕ) (q : PendingTask) → Free new.view depth q ↔ (Free p.mid depth q ⊎ ((depth ≡ 1) × (q ≡ image_task kind (k, task)))))
        × (AreSound 0 0 false (bag_tasks p.mid) (bags_spilled p.mid) → AreSound 0 0 false (bag_tasks new.view) (bags_spilled new.view))
    placed_free =
        subst (λ (after : List SpilledBagTask). ((depth : ℕ) (q : PendingTask) → IsFree (bag_tasks new.view) (IsSpilled after) 0 depth q ↔ (Free p.mid depth q ⊎ ((depth ≡ 1) × (q ≡ image_task kind (k, task)))))
        × (AreSound 0 0 false (bag_tasks p.mid) (bags_spilled p.mid) → AreSound 0 0 false (bag_tasks new.view) after))
        (sym (ap (λ v. bags_spilled v) p.frame))
        (placements_keep (bag_tasks p.mid) (bag_tasks new.view) (bags_spilled p.mid) 0 0 p.id 0 k
        (bag_task (idle_task p.mid.version (image_descriptor kind k task) (Committed 0 k) (picked_tile old k))) false bag_places)

  -- a placement of the next task, with what makes room for it
  module _ (k : ℕ) (task : ImageTask) (old new : BookView) (p : PlacesImageTask kind k task old new) (named : IsNamed k old.view) where
    placed_named : IsNamed (k + 1) new.view × ((depth : ℕ) (q : PendingTask) → Free new.view depth q ↔ (Free old.view depth q ⊎ ((depth ≡ 1) × (q ≡ image_task kind (k, task)))))
    placed_named =
        let mid = roomed k old.view named (picked_tile old k) p.mid p.room in
        let sized = room_sized (picked_tile old k) old.view p.mid named.sized p.room in
        let free = placed_free k task old new p mid.0 in (
          record {
            are = places_keeps kind (λ index from. index < k + 1) k task old new (omega arith)
                (weaker (λ index from. index < k) (λ index from. index < k + 1) old.view (λ index from below. omega (arith, below)) named.are) p;
            sized = placed_sized kind k task old new p sized.0 sized.1;
            history = ap (λ v. v.history) p.frame ∙ mid.0.history;
            sound = free.1 mid.0.sound;
          },
          λ depth q. (
            λ f. elim ((free.0 depth q).0 f) [ inl was ↦ inl ((mid.1 depth q).1 was) | inr this ↦ inr this ],
            λ either. elim either [ inl was ↦ (free.0 depth q).1 (inl ((mid.1 depth q).0 was)) | inr this ↦ (free.0 depth q).1 (inr this) ],
          ),
        )

  -- all placements from some place on
  pub all_named : (tasks : List ImageTask) (k : ℕ) (old new : BookView) → IsNamed k old.view
      → PlacesAll kind (enumerate_from k tasks) old new
      → (n : ℕ) × IsNamed n new.view
      × ((depth : ℕ) (q : PendingTask) → Free new.view depth q ↔ (Free old.view depth q ⊎ ((depth ≡ 1) × In q (map (image_task kind) (enumerate_from k tasks)))))
  all_named [] k old new named same =
      subst (λ (b : BookView). (n : ℕ) × IsNamed n b.view × ((depth : ℕ) (q : PendingTask) → Free b.view depth q ↔ (Free old.view depth q ⊎ ((depth ≡ 1) × ⊥)))) same
      (k, named, λ depth q. (λ f. inl f, λ either. elim either [ inl f ↦ f | inr none ↦ absurd none.1 ]))
  all_named (task ∷ tasks) k old new named placed =
      let one = placed_named k task old placed.0 placed.1 named in
      let rest = all_named tasks (k + 1) placed.0 new one.0 placed.2 in (
        rest.0,
        rest.1,
        λ depth q. (
          λ f. elim ((rest.2 depth q).0 f) [
            | inl mid ↦ elim ((one.1 depth q).0 mid) [ inl was ↦ inl was | inr this ↦ inr (this.0, inl this.1) ]
            | inr later ↦ inr (later.0, inr later.1)
          ],
          λ either. elim either [
            | inl was ↦ (rest.2 depth q).1 (inl ((one.1 depth q).1 (inl was)))
            | inr these ↦ elim these.1 [
              | inl this ↦ (rest.2 depth q).1 (inl ((one.1 depth q).1 (inr (these.0, this))))
              | inr later ↦ (rest.2 depth q).1 (inr (these.0, later))
            ]
          ],
        ),
      )

  module _ (image : ImageValue) (settings : Settings) (view : View) (empty : IsEmptyView image settings view) where
    -- no task is spilled in the view without a task
    none_spilled : bags_spilled view ≡ []
    none_spilled = ap (λ v. bags_spilled v) empty.frame ∙ ap (map bag_spilled) (flat_none settings.tiles)

    -- its names are apart
    pub none_named : IsNamed 0 view
    none_named = record {
      are = none_are kind (λ index from. index < 0) image settings view empty;
      sized = none_sized image settings view empty;
      history = ap (λ v. v.history) empty.frame;
      sound =
          subst (AreSound 0 0 false (bag_tasks view)) (sym none_spilled) (none_sound 0 0 false (bag_tasks view) (λ id. ap (option_map bag_task) (empty.none id)));
    }

    -- and none is free
    pub none_free : (depth : ℕ) (q : PendingTask) → Free view depth q → ⊥
    none_free depth q (inl queued) =
        let no_way : None ≡ Some queued.task = sym (ap (option_map bag_task) (empty.none queued.id)) ∙ queued.there in
        cc
    none_free depth q (inr spilled) = subst (λ (es : List SpilledBagTask). IsSpilled es depth q) none_spilled spilled.0
