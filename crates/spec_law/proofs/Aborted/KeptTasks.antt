-- An abort that spares the heir keeps the group of tasks.
use Rattle.std.proofs.Common.{◌≡◌, ℕ, Bool, true, false, length, Option, Some, refl, sym, ap, subst, ◌∙◌, inl}
use Rattle.std.proofs.Common.{is_some, unwrap_or}
use Rattle.guest_image.specs.ImageValue.{ImageValue}
use Rattle.spec_state.specs.serial_machine.State.{SerialState}
use Rattle.spec_state.specs.task_law.Commit.{Matches}
use Rattle.spec_state.specs.task_law.Domains.{FitsBags}
use Rattle.spec_state.specs.task_law.Sound.{AreSound, SameFree}
use Rattle.spec_state.proofs.Below.task_law.Proved.{aborts_keep}
use Rattle.spec_state.specs.declared.task.Creator.TheVariants.{Committed, Live}
use Rattle.spec_state.specs.declared.task.Task.{Task}
use Rattle.spec_state.specs.declared.task.TaskId.{TaskId}
use Rattle.spec_state.specs.View.{View, task_at}
use Rattle.spec_state.specs.Tasks.{Descriptor, descriptor_of, idle_again, spilled_descriptor}
use Rattle.spec_state.specs.Groups.{bag_tasks, bags_spilled, domains_of, live_creator}
use Rattle.spec_state.specs.Aborts.{Aborts, is_marked, is_marked_creator}
use Rattle.spec_law.specs.Sound.{StandsAs, IsMadeBy, SoundTasks}
use Rattle.spec_law.specs.AbortLaws.{SparesHeir, AbortKeepsSoundTasks}
use Rattle.spec_law.proofs.Aborted.Taken.{IsBack, holds_pulled, unmarked_stays, marked_is_back, bags_taken_back}
use Rattle.spec_law.proofs.Tasks.Rebound.{changed_to}

-- what holds of the tasks that were there, and of each of them once it is idle again, holds of all that are there
pub each_now : {firsts : ℕ → Type 0} {old : View} {aborted : ℕ} {new : View} (abort : Aborts firsts old aborted new)
    (holds : ℕ → Task → Type 0)
    → ((id : ℕ) (t : Task) → task_at old id ≡ Some t → is_marked abort.marks id ≡ false → holds id t)
    → ((id : ℕ) (now : Task) (back : IsBack abort.marks old id now) → holds id (idle_again old.version back.was))
    → (id : ℕ) (t : Task) → task_at new id ≡ Some t → holds id t
each_now abort holds unmarked idle id t at = by_mark (is_marked abort.marks id) refl
  where
    by_mark : (b : Bool) → is_marked abort.marks id ≡ b → holds id t
    by_mark false out = unmarked id t (sym (unmarked_stays abort id out) ∙ at) out
    by_mark true taken =
        let back = marked_is_back abort id t taken at in subst (holds id) (sym back.is) (idle id t back)

module _ (image : ImageValue) {firsts : ℕ → Type 0} {old : View} {aborted : ℕ} {new : View} (heir : Option ℕ)
    (serial : SerialState) (abort : Aborts firsts old aborted new) (spares : SparesHeir abort.marks heir)
    (sound : SoundTasks image old heir serial) where
  -- what an unmarked creator made it has made still
  made_now : (id index : ℕ) (d : Descriptor) → is_marked abort.marks id ≡ false → IsMadeBy old id index d
      → IsMadeBy (changed_to old new) id index d
  made_now id index d out made =
      record {
        creator = made.creator;
        there = unmarked_stays abort id out ∙ made.there;
        spawn = made.spawn;
        made = made.made;
        descriptor_is = made.descriptor_is;
      }

  -- the creator of an unmarked task is unmarked
  creator_out : (id c : ℕ) (t : Task) → task_at old id ≡ Some t → is_marked abort.marks id ≡ false
      → live_creator t.creator ≡ Some c → is_marked abort.marks c ≡ false
  creator_out id c t there out made = by_mark (is_marked abort.marks c) refl
    where
      by_mark : (b : Bool) → is_marked abort.marks c ≡ b → is_marked abort.marks c ≡ false
      by_mark false is = is
      by_mark true is =
          absurd (cc (holds_pulled abort c id (inl (record { child = t; there = there; made_by = made })) is, out))

  -- the free tasks are the same ones, and names are apart and families whole
  same_free : SameFree (length old.history) (bag_tasks old) (bags_spilled old) (bag_tasks new) (bags_spilled old)
      × (AreSound (length old.history) (unwrap_or heir 0) (is_some heir) (bag_tasks old) (bags_spilled old)
      → AreSound (length old.history) (unwrap_or heir 0) (is_some heir) (bag_tasks new) (bags_spilled old))
  same_free =
      aborts_keep (is_marked abort.marks) (bag_tasks old) (bag_tasks new) (bags_spilled old) (length old.history) (unwrap_or heir 0) (is_some heir) (bags_taken_back abort)

  matches : Matches (length old.history) (bag_tasks new) (bags_spilled old) serial.stack
  matches depth p =
      (λ free. (sound.matches depth p).0 ((same_free.0 depth p).1 free), λ stands. (same_free.0 depth p).0 ((sound.matches depth p).1 stands))

  -- the domains of a task of a committed creator are those of the bags
  abbrev InBags : ℕ → Task → Type 0
  InBags id t =
      (turn index : ℕ) → t.creator ≡ Committed turn index → FitsBags (domains_of t.kinds t.key.domain) serial.stack

  -- a task is as its creator made it
  abbrev IsMade : ℕ → Task → Type 0
  IsMade id t =
      (creator : TaskId) (index : ℕ) → t.creator ≡ Live creator index → IsMadeBy (changed_to old new) creator.0 index (descriptor_of t)

  kept : SoundTasks image (changed_to old new) heir serial
  kept =
      record {
        few = sound.few;
        output = sound.output;
        names = same_free.1 sound.names;
        matches = matches;
        domains = λ id task turn index at. each_now abort InBags
            (λ k t there out turn index made. sound.domains k t turn index there made)
            (λ k now back turn index made. sound.domains k back.was turn index back.there made) id task at turn index;
        spilled_domains = sound.spilled_domains;
        stands = each_now abort (λ k t. StandsAs image old.version old.settings.budget t t.status)
            (λ k t there out. sound.stands k t there) (λ k now back. refl);
        children = λ id task creator index at. each_now abort IsMade
            (λ k t there out creator index made. made_now creator.0 index (descriptor_of t) (creator_out k creator.0 t there out (ap live_creator made)) (sound.children k t creator index there made))
            (λ k now back creator index made. made_now creator.0 index (descriptor_of back.was)
            (subst (λ c. is_marked_creator abort.marks (live_creator c) ≡ false) made back.spared) (sound.children k back.was creator index back.there made))
            id task at creator index;
        spilled_children =
            λ s has next. (let was = sound.spilled_children s has next in (was.0, was.1, made_now was.0 s.desc.name.index (spilled_descriptor s) (spares was.0 was.1) was.2));
      }

pub abort_keeps_tasks : AbortKeepsSoundTasks
abort_keeps_tasks image firsts old aborted new heir serial abort spares sound =
    subst (λ v. SoundTasks image v heir serial) (sym abort.frame) (kept image heir serial abort spares sound)
