-- The order of names.
use Rattle.std.proofs.Common.{◌≡◌, true, arith}
use Rattle.std.proofs.lemmas.Grind.{common_steps}
use Rattle.std.proofs.lemmas.Bool.Decides.{nat_tests}
use Rattle.task_desc.specs.declared.desc.Name.{Name}
use Rattle.pending_list.specs.Pending.{name_before}

pub before_trans : (a b c : Name) → name_before a b ≡ true → name_before b c ≡ true → name_before a c ≡ true
before_trans a b c one other = grind (arith, nat_tests, common_steps)
