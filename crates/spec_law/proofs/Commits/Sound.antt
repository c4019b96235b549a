-- A commit of a finished least task is a turn of the serial machine, and leaves a sound view.
use Rattle.std.proofs.Common.{ℕ, Option, None, refl, sym, ap, subst, ◌∙◌}
use Rattle.guest_image.specs.ImageValue.{ImageValue}
use Rattle.spec_state.proofs.Below.run_law.Proved.{Runs-more}
use Rattle.run_journal.specs.declared.journal.Entry.{Entry}
use Rattle.spec_state.specs.serial_machine.Run.{IsRun, opening}
use Rattle.spec_state.specs.View.{View}
use Rattle.spec_state.specs.Tasks.{depth_of}
use Rattle.spec_state.specs.Least.{IsHeir}
use Rattle.spec_state.specs.Changes.{Commits}
use Rattle.spec_law.specs.Keeping.{CommitIsSoundTurn}
use Rattle.spec_law.specs.Sound.{Sound, SoundOrder, SoundSizes}
use Rattle.spec_law.proofs.Commits.Heir.{heir_of}
use Rattle.spec_law.proofs.Commits.Memory.{commit_keeps_memory}
use Rattle.spec_law.proofs.Commits.Order.{commit_keeps_order}
use Rattle.spec_law.proofs.Commits.Sizes.{commit_keeps_sizes}
use Rattle.spec_law.proofs.Commits.Tasks.{firm, commit_keeps_tasks}
use Rattle.spec_law.proofs.Commits.Turn.{state, taken, numbered, is_heir}

module _ (image : ImageValue) (old new : View) (sound : Sound image old) (commit : Commits old new) where
  -- the entry of the turn
  abbrev entry : Entry
  entry =
      record {
        name = record { creator = commit.turn; index = commit.index };
        depth = depth_of commit.task;
        ts = commit.task.key.ts;
      }

  -- the journal is a run with the turn at its end
  runs_on : IsRun image new.settings.budget new.history (state image old new sound commit)
  runs_on =
      subst (λ s. IsRun image s.budget new.history (state image old new sound commit)) (sym (ap (λ v. v.settings) commit.frame))
      (subst (λ history. IsRun image old.settings.budget history (state image old new sound commit)) (sym commit.history)
      (Runs-more image old.settings.budget old.history (opening image) sound.serial (state image old new sound commit) entry sound.is_run (taken image old new sound commit)))

  -- the sizes
  sizes_now : SoundSizes new
  sizes_now = commit_keeps_sizes old new commit sound.sizes

  -- the order, whichever task is the heir next
  order_now : (heir : Option ℕ) → SoundOrder new heir
  order_now heir =
      let n = numbered image old new sound commit in
      commit_keeps_order old new commit sound.sizes (firm image old new sound commit) heir
      (subst (SoundOrder old) (is_heir image old new sound commit) sound.order) n.0 n.1

  -- the heir of the new view
  heir_now : (heir : Option ℕ) × IsHeir new heir
  heir_now = heir_of new sizes_now (order_now None)

-- the turn is taken, and each group holds after it
pub commit_is_sound_turn : CommitIsSoundTurn
commit_is_sound_turn image old new sound few commit = (
  record {
    version = ap (λ v. v.version) commit.frame ∙ sound.version;
    serial = state image old new sound commit;
    is_run = runs_on image old new sound commit;
    heir = (heir_now image old new sound commit).0;
    is_heir = (heir_now image old new sound commit).1;
    tasks = commit_keeps_tasks image old new sound commit few (heir_now image old new sound commit).0;
    memory =
        let n = numbered image old new sound commit in
        commit_keeps_memory old new commit sound.sizes sound.heir sound.order n.0 n.1 sound.serial sound.memory (state image old new sound commit) refl;
    order = order_now image old new sound commit (heir_now image old new sound commit).0;
    sizes = sizes_now image old new sound commit;
  },
  taken image old new sound commit,
)
