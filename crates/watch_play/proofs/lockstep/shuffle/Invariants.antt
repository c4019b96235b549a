use Rattle.std.proofs.Common.{◌≡◌, ◌-◌, length}
use Rattle.std.specs.Prelude.{IsPermutation}
use Rattle.watch_play.specs.Courses.{Order, shuffled}
use Rattle.watch_play.proofs.lockstep.shuffle.Given as goal

abbrev pub invariant-loop-done : goal.invariant-loop-done
invariant-loop-done l = record {
  order : ◌≡◌ {A = Order} (shuffled (length l.acts - l.done) (record { drawn = l.drawn; acts = l.acts }))
      (shuffled (length l.fn.acts) (record { drawn = l.fn.drawn; acts = l.fn.acts }));
  length_is : length l.acts ≡ length l.fn.acts;
  permuted : IsPermutation l.fn.acts l.acts;
}
