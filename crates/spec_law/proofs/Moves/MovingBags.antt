-- What the bags of pending tasks read of firm tasks' names, and that they still match.
use Rattle.std.proofs.Common.{◌≡◌, ℕ, true, List, length, Option, sym, ap, is_some, unwrap_or}
use Rattle.spec_state.specs.serial_machine.BagValue.{BagValue}
use Rattle.task_desc.specs.declared.desc.Name.{Name}
use Rattle.spec_state.specs.task_law.Commit.{Matches}
use Rattle.spec_state.specs.task_law.Sound.{SameFree}
use Rattle.spec_state.specs.task_law.Tasks as bags
use Rattle.spec_state.specs.task_law.Tasks.{Names, SpilledBagTask}
use Rattle.spec_state.specs.declared.task.Creator.{Creator}
use Rattle.spec_state.specs.declared.task.Creator.TheVariants.{Committed, Live}
use Rattle.spec_state.specs.View.{View}
use Rattle.spec_state.specs.Groups.{bag_creator}
use Rattle.spec_state.specs.Least.{IsHeir, HasName}
use Rattle.spec_law.proofs.Rooms.Fit.{heirs_are_one}

module _ (view : View) (heir : Option ℕ) (is_heir : IsHeir view heir) where
  -- a firm task's name is one for the bags
  pub names_of : (c : Creator) (name : Name) → HasName view c name
      → Names (length view.history) (unwrap_or heir 0) (bag_creator c) name
  names_of (Committed turn index) name named = (named.1, named.0)
  names_of (Live task index) name named =
      (sym (ap (λ o. unwrap_or o 0) (heirs_are_one view heir task.0 is_heir named.0)), named.1)

  -- where its creator is uncommitted, there is an heir
  pub heirs_of : (c : Creator) (name : Name) → HasName view c name → (k index : ℕ) → bag_creator c ≡ bags.Live k index
      → is_some heir ≡ true
  heirs_of (Committed turn index) name named k i is = absurd (cc (is))
  heirs_of (Live task index) name named k i is = ap is_some (heirs_are_one view heir task.0 is_heir named.0)

-- where the free tasks are the same ones, the bags have them still
pub matches_still : (count : ℕ) (old new : ℕ → Option bags.BagTask) (before after : List SpilledBagTask) (stack : List BagValue)
    → SameFree count old before new after → Matches count old before stack → Matches count new after stack
matches_still count old new before after stack same matches depth p = (
  λ free. (matches depth p).0 ((same depth p).1 free),
  λ stands. (same depth p).0 ((matches depth p).1 stands),
)
