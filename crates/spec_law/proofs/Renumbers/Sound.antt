-- A renumbered sound view is sound, and says what the view before it said.
use Rattle.std.proofs.Common.{◌≡◌, ◌<◌, ℕ, Bool, List, Some, refl, sym, ap, subst, ◌∙◌, arith, option_map}
use Rattle.std.proofs.lemmas.List.{length-map}
use Rattle.abort_cascade.specs.Cascade.{Marked}
use Rattle.fractal_vt.proofs.Proved.{is_some_mapped, mapped_some}
use Rattle.fractal_vt.specs.declared.key.Key.{Key}
use Rattle.fractal_vt.specs.Keys.{key_cmp, levels}
use Rattle.fractal_vt.specs.Levels.{levels_cmp}
use Rattle.fractal_vt.specs.Renumbered.{place_in, renumbered_key, HoldsKey}
use Rattle.guest_image.specs.ImageValue.{ImageValue}
use Rattle.memory_law.specs.Tasks.{Logged, undone_set}
use Rattle.spill_store.specs.SpilledTasks.{open_key, renumbered_spilled}
use Rattle.spec_state.specs.declared.numbers.TheConstants.{DISPATCH_NUMBERS}
use Rattle.spec_state.specs.declared.task.Task.{Task}
use Rattle.spec_state.specs.View.{View, task_at}
use Rattle.spec_state.specs.Filters.{HasNotes}
use Rattle.spec_state.specs.Groups.{logged_tasks, logged_task}
use Rattle.spec_state.specs.Aborts.{IsUndone}
use Rattle.spec_state.specs.Numbers.{Renumbers, renumbered_task}
use Rattle.spec_law.specs.Renumbering.{RenumberingStaysSound, RenumberingSaysSame, SaySame}
use Rattle.spec_law.specs.Sound.{Sound}
use Rattle.spec_law.proofs.Renumbers.One.{after, is_after, now, was, each_now, spilled_now, spilled_was}
use Rattle.spec_law.proofs.Renumbers.One.{holds_task, holds_placed, same_order}
use Rattle.spec_law.proofs.Renumbers.Alike.{AreAlike, AreKeys, of_queued, of_spilled, IsSameBut, turned}
use Rattle.spec_law.proofs.Renumbers.Alike.{least_spot_forth, heir_forth, conflict_forth, cascade_forth}
use Rattle.spec_law.proofs.Renumbers.Memory as memory
use Rattle.spec_law.proofs.Renumbers.Memory.{AreLoggedAlike, by_key_forth, chain_forth, same_undone}
use Rattle.spec_law.proofs.Renumbers.Order.{renumbered_order}
use Rattle.spec_law.proofs.Renumbers.Tasks.{renumbered_tasks}
use Rattle.spec_law.proofs.Renumbers.Sizes.{renumbered_sizes}
use Rattle.spec_law.proofs.Renumbers.Few.{numbers_in_use_are_few}

module _ (old new : View) (r : Renumbers old new) where
  -- a renumbered task is the same but for its key
  same_but : (t : Task) → IsSameBut t (renumbered_task r.table t)
  same_but t = record { is = refl; dispatched = is_some_mapped (place_in r.table) t.key.tb }

  same_back : (w t : Task) → t ≡ renumbered_task r.table w → IsSameBut t w
  same_back w t is =
      subst (λ x. IsSameBut x w) (sym is) (record { is = refl; dispatched = sym (is_some_mapped (place_in r.table) w.key.tb) })

  -- the key of a task in both views
  key_pair : (k l : Key) → AreKeys old (after old new r) k l → HoldsKey r.table k × (l ≡ renumbered_key r.table k)
  key_pair k l (of_queued id x y there there' is is') =
      let both : Some y ≡ Some (renumbered_task r.table x) = sym there' ∙ now old new r id x there in
      let same : y ≡ renumbered_task r.table x = cc in
      (subst (HoldsKey r.table) (sym is) (holds_task old new r id x there), is' ∙ ap (λ (t : Task). t.key) same ∙ ap (renumbered_key r.table) (sym is))
  key_pair k l (of_spilled tile place s t at at' is is') =
      let both : Some t ≡ Some (renumbered_spilled r.table s) = sym at' ∙ spilled_now old new r tile place s at in
      let same : t ≡ renumbered_spilled r.table s = cc in
      (subst (HoldsKey r.table) (sym is) (holds_placed old new r tile place s at), is' ∙ ap open_key same ∙ ap (renumbered_key r.table) (sym is))

  -- the views are alike
  pub alike : AreAlike old (after old new r)
  alike = record {
    forth = λ id x there. (renumbered_task r.table x, now old new r id x there, same_but x);
    back = λ id y there. (let w = was old new r id y there in (w.0, w.1, same_back w.0 y w.2));
    spilled_forth = λ tile place s at. (renumbered_spilled r.table s, spilled_now old new r tile place s at);
    spilled_back = λ tile place t at. (let s = spilled_was old new r tile place t at in (s.0, s.1));
    queues = λ tile. refl;
    size = length-map old.tasks (option_map (renumbered_task r.table));
    settings = refl;
    order = λ k l k' l' one two.
        (let first = key_pair k k' one in
        let second = key_pair l l' two in
        (λ i. key_cmp (first.1 i) (second.1 i)) ∙ same_order old new r k l first.0 second.0);
  }

  -- and so they are for memory
  pub logged_alike : AreLoggedAlike (logged_tasks old) (logged_tasks (after old new r))
  logged_alike = record {
    forth = λ id x at.
        (let read = mapped_some logged_task (task_at old id) x at in (
          logged_task (renumbered_task r.table read.0),
          ap (option_map logged_task) (now old new r id read.0 read.1),
          subst (λ y. memory.IsSameLogged y (logged_task (renumbered_task r.table read.0))) (sym read.2) (same_logged read.0),
        ));
    back = λ id y at.
        (let read = mapped_some logged_task (task_at (after old new r) id) y at in
        let w = was old new r id read.0 read.1 in (
          logged_task w.0,
          ap (option_map logged_task) w.1,
          subst (λ x. memory.IsSameLogged x (logged_task w.0)) (sym (read.2 ∙ ap logged_task w.2)) (logged_back w.0),
        ));
    order = λ i j x y x' y' at at' there there'.
        (let one = pair i x x' at there in
        let two = pair j y y' at' there' in
        (λ k. levels_cmp (one.3 k) (two.3 k)) ∙ same_order old new r one.0.key two.0.key one.1 two.1
        ∙ (λ k. levels_cmp (sym one.2 k) (sym two.2 k)));
  }
    where
      same_logged : (t : Task) → memory.IsSameLogged (logged_task t) (logged_task (renumbered_task r.table t))
      same_logged t =
          record {
            is = λ i. record (logged_task (renumbered_task r.table t)) { dispatched = is_some_mapped (place_in r.table) t.key.tb i };
          }

      logged_back : (t : Task) → memory.IsSameLogged (logged_task (renumbered_task r.table t)) (logged_task t)
      logged_back t =
          record {
            is = λ i. record (logged_task t) { dispatched = sym (is_some_mapped (place_in r.table) t.key.tb) i };
          }

      pair : (id : ℕ) (x x' : Logged) → logged_tasks old id ≡ Some x → logged_tasks (after old new r) id ≡ Some x'
          → (t : Task) × HoldsKey r.table t.key × (x.levels ≡ levels t.key) × (x'.levels ≡ levels (renumbered_key r.table t.key))
      pair id x x' at at' =
          let read = mapped_some logged_task (task_at old id) x at in
          let both : Some x' ≡ Some (logged_task (renumbered_task r.table read.0)) = sym at' ∙ ap (option_map logged_task) (now old new r id read.0 read.1) in
          let same : x' ≡ logged_task (renumbered_task r.table read.0) = cc in
          (read.0, holds_task old new r id read.0 read.1, ap (λ (l : Logged). l.levels) read.2, ap (λ (l : Logged). l.levels) same)

-- what is undone in one view is undone in another that is alike for memory and has the same memory
undone_forth : (a b : View) → AreLoggedAlike (logged_tasks a) (logged_tasks b) → b.memory ≡ a.memory
    → (set : ℕ → Bool) (left : List ℕ) → IsUndone a set left → IsUndone b set left
undone_forth a b alike same set left undone = record {
  ids = undone.ids;
  by_key = by_key_forth (logged_tasks a) (logged_tasks b) alike undone.ids undone.by_key;
  memory_is =
      undone.memory_is ∙ sym (same_undone (logged_tasks a) (logged_tasks b) alike set undone.ids a.memory)
      ∙ ap (undone_set set (logged_tasks b) undone.ids) (sym same);
}

module _ (old new : View) (r : Renumbers old new) where
  -- the view before is like the view after
  back : AreAlike (after old new r) old
  back = turned old (after old new r) (alike old new r)

  -- and so it is for memory
  logged_back : AreLoggedAlike (logged_tasks (after old new r)) (logged_tasks old)
  logged_back = memory.turned (logged_tasks old) (logged_tasks (after old new r)) (logged_alike old new r)

  -- each view says what the other says
  says_same : SaySame r.table old (after old new r)
  says_same = record {
    least =
        λ spot. (least_spot_forth old (after old new r) (alike old new r) spot, least_spot_forth (after old new r) old back spot);
    heir =
        λ heir. (heir_forth old (after old new r) (alike old new r) heir, heir_forth (after old new r) old back heir);
    conflicts = λ id line k task write at.
        (let at' = now old new r id task at in (
          conflict_forth old (after old new r) (alike old new r) id line k task (renumbered_task r.table task) write at at',
          conflict_forth (after old new r) old back id line k (renumbered_task r.table task) task write at' at,
        ));
    cascades = λ firsts marks. (
      cascade_forth old (after old new r) (alike old new r) (Marked firsts) marks,
      cascade_forth (after old new r) old back (Marked firsts) marks,
    );
    undone = λ set left. (
      undone_forth old (after old new r) (logged_alike old new r) refl set left,
      undone_forth (after old new r) old logged_back refl set left,
    );
  }

pub renumbering_says_same : RenumberingSaysSame
renumbering_says_same old new r = subst (SaySame r.table old) (sym (is_after old new r)) (says_same old new r)

pub renumbering_stays_sound : RenumberingStaysSound
renumbering_stays_sound image old new sound r =
    subst (λ v. (now : Sound image v) × (now.serial ≡ sound.serial) × (now.heir ≡ sound.heir)) (sym (is_after old new r)) (
      record {
        version = sound.version;
        serial = sound.serial;
        is_run = sound.is_run;
        heir = sound.heir;
        is_heir = heir_forth old (after old new r) (alike old new r) sound.heir sound.is_heir;
        tasks = renumbered_tasks image old new r sound.heir sound.serial sound.is_heir sound.order sound.tasks;
        memory = record {
          chained =
              chain_forth (logged_tasks old) (logged_tasks (after old new r)) (logged_alike old new r) old.settings.line sound.serial.memory old.memory sound.memory.chained;
          noted = each_now old new r (λ k t. HasNotes old.settings t.lines t.log) (λ k w at. sound.memory.noted k w at);
        };
        order = record {
          order = renumbered_order old new r sound.heir sound.order.order;
          numbers = let few = numbers_in_use_are_few image old sound r.table r.is_table in omega (arith, few);
        };
        sizes = renumbered_sizes old new r sound.sizes;
      },
      refl,
      refl,
    )

-- and numbers are left
pub renumbering_leaves_numbers : (image : ImageValue) (old new : View) → Sound image old → Renumbers old new
    → new.next < DISPATCH_NUMBERS
renumbering_leaves_numbers image old new sound r =
    let few = numbers_in_use_are_few image old sound r.table r.is_table in
    let next = r.next in
    omega (arith, few, next)
