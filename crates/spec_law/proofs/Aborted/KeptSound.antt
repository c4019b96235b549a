-- An abort that spares the heir keeps a view sound.
use Rattle.std.proofs.Common.{◌≡◌, ◌≢◌, ℕ, Some, refl, sym, ap, subst, ◌∙◌, inl, inr}
use Rattle.std.specs.declared.cmp.Ordering.TheVariants.{Less}
use Rattle.guest_image.specs.ImageValue.{ImageValue}
use Rattle.fractal_vt.specs.Keys.{key_cmp}
use Rattle.spec_state.specs.serial_machine.Run.{IsRun}
use Rattle.spec_state.specs.declared.task.Creator.{Creator}
use Rattle.spec_state.specs.declared.task.Creator.TheVariants.{Committed, Live}
use Rattle.spec_state.specs.declared.task.Task.{Task}
use Rattle.spec_state.specs.View.{View, task_at}
use Rattle.spec_state.specs.Groups.{live_creator}
use Rattle.spec_state.specs.Least.{IsHeir}
use Rattle.spec_state.specs.Queries.{IsLater}
use Rattle.spec_state.specs.Room.{asker_of}
use Rattle.spec_law.specs.Sound.{Sound}
use Rattle.spec_law.specs.AbortLaws.{AbortKeepsSound, AbortOfOneIsSound, AbortOfConflictsIsSound, AbortOfLaterIsSound}
use Rattle.spec_law.specs.AbortLaws.{AbortForRoomIsSound, OneTask, AllConflicts}
use Rattle.spec_law.proofs.Aborted.Kept.{abort_keeps_memory}
use Rattle.spec_law.proofs.Tasks.Rebound.{abort_keeps_order}
use Rattle.spec_law.proofs.Aborted.KeptTasks.{abort_keeps_tasks}
use Rattle.spec_law.proofs.Aborted.KeptSizes.{abort_keeps_sizes}
use Rattle.spec_law.proofs.Aborted.KeptHeir.{abort_keeps_heir}
use Rattle.spec_law.proofs.Aborted.Spared.{heir_is_least, not_below_least, cascade_spares_heir, conflicts_spare_heir}

pub abort_keeps_sound : AbortKeepsSound
abort_keeps_sound image firsts old aborted new sound abort spares = (
  record {
    version = ap (λ v. v.version) abort.frame ∙ sound.version;
    serial = sound.serial;
    is_run = subst (λ v. IsRun image v.settings.budget v.history sound.serial) (sym abort.frame) sound.is_run;
    heir = sound.heir;
    is_heir = abort_keeps_heir firsts old aborted new sound.heir abort spares sound.order sound.sizes sound.is_heir;
    tasks = abort_keeps_tasks image firsts old aborted new sound.heir sound.serial abort spares sound.tasks;
    memory = abort_keeps_memory image firsts old aborted new sound abort;
    order = abort_keeps_order firsts old aborted new sound.heir abort spares sound.order;
    sizes = abort_keeps_sizes abort sound.sizes;
  },
  refl,
)

pub abort_of_one_is_sound : AbortOfOneIsSound
abort_of_one_is_sound image first task old aborted new sound there other abort =
    abort_keeps_sound image (OneTask first) old aborted new sound abort
    (cascade_spares_heir image old first task abort.marks sound there other abort.cascade)

pub abort_of_conflicts_is_sound : AbortOfConflictsIsSound
abort_of_conflicts_is_sound image id line task write old aborted new sound there abort =
    abort_keeps_sound image (AllConflicts task line write) old aborted new sound abort
    (conflicts_spare_heir image old id line task write abort.marks sound there abort.cascade)

-- a task above a queued one is no heir
above_is_no_heir : (image : ImageValue) (view : View) (sound : Sound image view) (id v : ℕ) (task x : Task)
    → task_at view id ≡ Some task → IsLater view task v x → sound.heir ≢ Some v
above_is_no_heir image view sound id v task x there later heir =
    let least = heir_is_least view sound.heir v sound.is_heir heir in
    let both : Some x ≡ Some least.0 = sym later.there ∙ least.1.queued_at.there in
    let same : x ≡ least.0 = cc in
    not_below_least view sound.sizes v id least.0 task least.1 there (subst (λ t. key_cmp task.key t.key ≡ Less) same later.later)

pub abort_of_later_is_sound : AbortOfLaterIsSound
abort_of_later_is_sound image id v task x old aborted new sound there later =
    abort_of_one_is_sound image v x old aborted new sound later.there (above_is_no_heir image old sound id v task x there later)

-- the uncommitted creator of a task is a queued task
creator_there : (image : ImageValue) (view : View) (sound : Sound image view) (v first : ℕ) (task : Task)
    → task_at view v ≡ Some task → (c : Creator) → task.creator ≡ c → live_creator c ≡ Some first
    → (x : Task) × (task_at view first ≡ Some x) × (index : ℕ) × (task.creator ≡ Live (record { 0 = first }) index)
creator_there image view sound v first task there (Committed turn index) is live = absurd (cc)
creator_there image view sound v first task there (Live creator index) is live =
    let same : creator.0 ≡ first = cc in
    let made = sound.tasks.children v task creator index there is in
    (made.creator, ap (task_at view) (sym same) ∙ made.there, index, is ∙ (λ i. Live (record { 0 = same i }) index))

pub abort_for_room_is_sound : AbortForRoomIsSound
abort_for_room_is_sound image tile v first task old aborted new sound victim (inl itself) abort =
    abort_of_one_is_sound image first task old aborted new sound (ap (task_at old) itself.1 ∙ victim.there) (λ heir. victim.other (ap asker_of (heir ∙ ap Some itself.1))) abort
abort_for_room_is_sound image tile v first task old aborted new sound victim (inr other) abort =
    let made = creator_there image old sound v first task victim.there task.creator refl other.1 in
    abort_of_one_is_sound image first made.0 old aborted new sound made.1
    (λ heir. other.0 (inr (first, made.2, made.3, subst (IsHeir old) heir sound.is_heir))) abort
