-- The pending tasks of a sound view, sorted by their names, are those of the serial machine's bags.
use Rattle.std.proofs.Common.{sym, subst, ℕ, nat_le, List, is_some, unwrap_or, arith}
use Rattle.std.specs.Prelude.{IsPermutation}
use Rattle.std.specs.List.Sorted.{IsSortedBy}
use Rattle.std.proofs.lemmas.List.Sorted.{IsPermutation-sym, IsPermutation-trans}
use Rattle.guest_image.specs.ImageValue.{ImageValue}
use Rattle.spec_law.proofs.Below.run_law.Counted.{AreNamed-run}
use Rattle.spec_law.proofs.Below.run_law.Proved.{at_most_one}
use Rattle.spec_law.specs.spec_state.declared.pending.Pending.{Pending}
use Rattle.spec_law.specs.spec_state.View.{View}
use Rattle.spec_law.specs.spec_state.Pendings.{all_pending, pending_before, pendings_in, ArePendings}
use Rattle.spec_law.specs.Sound.{Sound}
use Rattle.pending_law.proofs.Counts.{AreApart, count, count-permutation, Holds, permuted, strictly}
use Rattle.pending_law.proofs.Listed.{count_all, free_is_held, held_is_free, held_stands, pendings_apart}
use Rattle.pending_law.proofs.Listed.{stands_is_held}

module _ (image : ImageValue) (view : View) (sound : Sound image view) where
  abbrev stack : List Rattle.spec_law.specs.serial_machine.BagValue.BagValue
  stack = sound.serial.stack

  abbrev least : ℕ
  least = unwrap_or sound.heir 0

  -- the pending tasks of the view are those of the bags
  there : (x : Pending) → Holds (pendings_in view) x → Holds (all_pending stack) x
  there x held =
      let free = held_is_free view least (is_some sound.heir) sound.tasks.names x held in
      subst (Holds (all_pending stack)) (sym free.3) (stands_is_held stack free.0 free.1 ((sound.tasks.matches free.0 free.1).0 free.2))

  back : (x : Pending) → Holds (all_pending stack) x → Holds (pendings_in view) x
  back x held =
      let stands = held_stands stack x held in
      subst (Holds (pendings_in view)) (sym stands.3)
      (free_is_held view least (is_some sound.heir) sound.tasks.names stands.0 stands.1 ((sound.tasks.matches stands.0 stands.1).1 stands.2))

  apart : AreApart (pendings_in view)
  apart = pendings_apart view least (is_some sound.heir) sound.tasks.names

  stack_apart : AreApart (all_pending stack)
  stack_apart name =
      let named = AreNamed-run image view.settings.budget view.history sound.serial sound.is_run name in
      let all = count_all name stack in
      let few = at_most_one (nat_le name.creator sound.serial.count) in
      omega (arith, named, all, few)

  pub pendings_are_serial : (pendings : List Pending) → IsPermutation (pendings_in view) pendings
      → IsSortedBy pending_before pendings → ArePendings stack pendings
  pendings_are_serial pendings moved sorted = record {
    sorted = strictly pendings sorted few;
    held =
        IsPermutation-trans pendings (pendings_in view) (all_pending stack) (IsPermutation-sym (pendings_in view) pendings moved)
        (permuted (pendings_in view) (all_pending stack) apart stack_apart there back);
  }
    where
      few : AreApart pendings
      few name =
          let same = count-permutation name (pendings_in view) pendings moved in
          let upto = apart name in
          omega (arith, same, upto)
