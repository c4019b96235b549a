-- Where the index holds one closed candidate, no access of its task conflicts.
use Rattle.std.proofs.Common.{◌≡◌, ◌≢◌, ◌≤◌, ℕ, Bool, true, is_some, Option, Some, List, refl, sym, ap, subst, ◌∙◌}
use Rattle.std.proofs.Common.{arith}
use Rattle.std.specs.Prelude.{IfSome}
use Rattle.fractal_vt.specs.Keys.{key_cmp}
use Rattle.fractal_vt.proofs.Proved.{equal_keys_tie}
use Rattle.std.specs.declared.cmp.Ordering.TheVariants.{Less, Equal}
use Rattle.commit_arbiter.specs.declared.candidate.Candidate.{Candidate}
use Rattle.commit_arbiter.specs.Indexed.{closed_in}
use Rattle.commit_arbiter.proofs.Proved.{two_there}
use Rattle.spec_state.specs.declared.task.Task.{Task}
use Rattle.spec_state.specs.View.{View, task_at}
use Rattle.spec_state.specs.Queries.{Conflicts}
use Rattle.spec_state.specs.Stored.{IsIndexed, candidate_of}

module _ (view : View) (queues : List (List ℕ)) (arrivals : List ℕ) (next : ℕ) (listed : List Candidate) (indexed : IsIndexed view.tasks queues arrivals next listed) (one : closed_in listed ≡ 1)
    (id : ℕ) (task : Task) (there : task_at view id ≡ Some task) (some : is_some task.key.tb ≡ true) where
  -- a task doesn't conflict with itself
  other_id : (line : ℕ) (write : Bool) (k : ℕ) → Conflicts view task line write k → id ≢ k
  other_id line write k conflict same =
      let both : Some task ≡ Some conflict.other = sym there ∙ ap (task_at view) same ∙ conflict.later.there in
      let is : task ≡ conflict.other = cc in
      let tie : key_cmp task.key conflict.other.key ≡ Equal = (equal_keys_tie task.key conflict.other.key).1 (ap (λ (t : Task). t.key) is) in
      let less : key_cmp task.key conflict.other.key ≡ Less = conflict.later.later in
      cc (tie, less)

  no_conflict : (line : ℕ) (write : Bool) (k : ℕ) → Conflicts view task line write k → ⊥
  no_conflict line write k conflict =
      let two : 2 ≤ closed_in listed =
      two_there (candidate_of arrivals id task) (candidate_of arrivals k conflict.other) listed (indexed.all id task there) (indexed.all k conflict.other conflict.later.there)
      (other_id line write k conflict) some conflict.later.dispatched in
      absurd (omega (arith, two, one))

  pub alone_if : IfSome (task_at view id) (λ t. (line : ℕ) (write : Bool) (k : ℕ) → Conflicts view t line write k → ⊥)
  alone_if =
      subst (λ o. IfSome o (λ t. (line : ℕ) (write : Bool) (k : ℕ) → Conflicts view t line write k → ⊥)) (sym there) no_conflict
