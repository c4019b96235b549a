-- What views that are alike have in common.
use Rattle.std.proofs.Common.{◌≡◌, ℕ, List, [], ◌∷◌, map, Option, Some, None, option_map, refl, sym, ap, subst, ◌∙◌}
use Rattle.std.specs.Prelude.{slice_get, slice_index_or}
use Rattle.step_script.specs.spec_state.declared.task.Creator.{Creator}
use Rattle.step_script.specs.spec_state.declared.task.Creator.TheVariants.{Committed, Live}
use Rattle.step_script.specs.spec_state.declared.task.Task.{Task}
use Rattle.step_script.specs.spec_state.View.{View, task_at, queue_at, finished_at, cores_at}
use Rattle.outcome_law.specs.Alike.{IdPermutation, inverse_of, permuted_creator, IsAlikeTask, IsAlikeAt, AreAlike}

-- a task has a partner under the other id
pub record Partner (r : IdPermutation) (b : View) (k : ℕ) (x : Task) : Type 0 where
  pub y : Task
  pub there : task_at b (r.to k) ≡ Some y
  pub alike : IsAlikeTask r.to x y

module _ (r : IdPermutation) (b : View) (k : ℕ) where
  partner_of : (x : Task) (stands : Option Task) → task_at b (r.to k) ≡ stands → IsAlikeAt r.to (Some x) stands
      → Partner r b k x
  partner_of x None e alike = absurd alike
  partner_of x (Some y) e alike = record { y = y; there = e; alike = alike }

  none_of : (stands : Option Task) → IsAlikeAt r.to None stands → stands ≡ None
  none_of None alike = refl
  none_of (Some y) alike = absurd alike

module _ (r : IdPermutation) (a b : View) (alike : AreAlike r a b) where
  pub partner : (k : ℕ) (x : Task) → task_at a k ≡ Some x → Partner r b k x
  partner k x there =
      partner_of r b k x (task_at b (r.to k)) refl (subst (λ s. IsAlikeAt r.to s (task_at b (r.to k))) there (alike.tasks k))

  pub none_there : (k : ℕ) → task_at a k ≡ None → task_at b (r.to k) ≡ None
  none_there k there =
      none_of r b k (task_at b (r.to k)) (subst (λ s. IsAlikeAt r.to s (task_at b (r.to k))) there (alike.tasks k))

-- a creator has its own id again
creator_back : (r : IdPermutation) (c : Creator) → permuted_creator r.from (permuted_creator r.to c) ≡ c
creator_back r (Committed turn index) = refl
creator_back r (Live task index) = λ i. Live (record { 0 = r.back task.0 i }) index

pub task_turned : (r : IdPermutation) (x y : Task) → IsAlikeTask r.to x y → IsAlikeTask r.from y x
task_turned r x y alike = record {
  other_is =
      (let back : permuted_creator r.from y.creator ≡ x.creator = ap (λ t. permuted_creator r.from t.creator) alike.other_is ∙ creator_back r x.creator in
      let same : record y { creator = x.creator; lines = x.lines } ≡ x = ap {A = Task} (λ t. record t { creator = x.creator; lines = x.lines }) alike.other_is in
      let own : record y { creator = permuted_creator r.from y.creator; lines = x.lines } ≡ record y { creator = x.creator; lines = x.lines } = ap {A = Creator} (λ c. record y { creator = c; lines = x.lines }) back in
      sym (own ∙ same));
  touched = λ line. sym (alike.touched line);
  written = λ line. sym (alike.written line);
}

at_turned : (r : IdPermutation) (s t : Option Task) → IsAlikeAt r.to s t → IsAlikeAt r.from t s
at_turned r None None alike = alike
at_turned r (Some x) (Some y) alike = task_turned r x y alike
at_turned r None (Some y) alike = absurd alike
at_turned r (Some x) None alike = absurd alike

module _ {X : Type 0} (f g : X → X) (back : (x : X) → g (f x) ≡ x) where
  pub map_back : (xs : List X) → map g (map f xs) ≡ xs
  map_back [] = refl
  map_back (x ∷ xs) = λ i. back x i ∷ map_back xs i

  pub option_back : (x : Option X) → option_map g (option_map f x) ≡ x
  option_back None = refl
  option_back (Some x) = ap Some (back x)

pub alike_turned : (r : IdPermutation) (a b : View) → AreAlike r a b → AreAlike (inverse_of r) b a
alike_turned r a b alike = record {
  tasks =
      λ k. subst (λ j. IsAlikeAt r.from (task_at b j) (task_at a (r.from k))) (r.forth k) (at_turned r (task_at a (r.from k)) (task_at b (r.to (r.from k))) (alike.tasks (r.from k)));
  queues =
      sym (ap (map (map r.from)) alike.queues ∙ map_back (map r.to) (map r.from) (map_back r.to r.from r.back) a.queues);
  finished =
      sym (ap (map (map r.from)) alike.finished ∙ map_back (map r.to) (map r.from) (map_back r.to r.from r.back) a.finished);
  cores =
      sym (ap (map (map (option_map r.from))) alike.cores ∙ map_back (map (option_map r.to)) (map (option_map r.from)) (map_back (option_map r.to) (option_map r.from) (option_back r.to r.from r.back)) a.cores);
  frame =
      sym (ap {A = View} (λ v. record v { tasks = a.tasks; queues = a.queues; finished = a.finished; cores = a.cores }) alike.frame);
}
