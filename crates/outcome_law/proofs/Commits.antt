-- A commit leaves views that are alike.
use Rattle.std.proofs.Common.{◌≡◌, ◌≢◌, ◌+◌, ◌++◌, ◌==◌, ℕ, Bool, true, false, List, [], ◌∷◌, map, length, Option, Some}
use Rattle.std.proofs.Common.{None, option_map, refl, sym, ap, subst, ◌∙◌, inl, inr, arith}
use Rattle.std.specs.Prelude.{not, if◌then◌else◌}
use Rattle.std.proofs.lemmas.Bool.{cases_eq}
use Rattle.std.proofs.lemmas.Bool.Decides.{nat_tests}
use Rattle.tile_queues.specs.Queue.{ids_but}
use Rattle.step_script.specs.spec_state.declared.task.Creator.{Creator}
use Rattle.step_script.specs.spec_state.declared.task.Creator.TheVariants.{Committed, Live}
use Rattle.step_script.specs.spec_state.declared.task.Task.{Task}
use Rattle.step_script.specs.spec_state.View.{View, task_at}
use Rattle.step_script.specs.spec_state.Tasks.{depth_of, own_level}
use Rattle.step_script.specs.spec_state.Changes.{creator_after, after_commit, Commits}
use Rattle.step_script.proofs.Below.spec_state.Proved.{one_least}
use Rattle.outcome_law.specs.Alike.{IdPermutation, permuted_creator, IsAlikeTask, IsAlikeAt, AreAlike}
use Rattle.outcome_law.proofs.Aborts.{one_to}
use Rattle.outcome_law.proofs.Leasts.{least_too, history_too}
use Rattle.outcome_law.proofs.Lists.{filter_mapped, map_same}
use Rattle.outcome_law.proofs.Picks.{task_one}

-- two ids are equal exactly where they are under the permutation
pub same_tested : (r : IdPermutation) (k j : ℕ) → (r.to k == r.to j) ≡ (k == j)
same_tested r k j = elim (cases_eq k j) [
  | inl same ↦ (let too : r.to k ≡ r.to j = ap r.to same in grind (arith, nat_tests))
  | inr other ↦ (let apart : r.to k ≢ r.to j = λ e. other (one_to r k j e) in grind (arith, nat_tests))
]

module _ (r : IdPermutation) (id n : ℕ) where
  creator_too : (c : Creator)
      → creator_after (r.to id) n (permuted_creator r.to c) ≡ permuted_creator r.to (creator_after id n c)
  creator_too (Committed turn index) = refl
  creator_too (Live task index) =
      ap (λ t. if t then Committed n index else Live (record { 0 = r.to task.0 }) index) (same_tested r task.0 id)
      ∙ by_test (task.0 == id)
    where
      by_test : (t : Bool)
          → (if t then Committed n index else Live (record { 0 = r.to task.0 }) index) ≡ permuted_creator r.to (if t then Committed n index else Live task index)
      by_test true = refl
      by_test false = refl

  left_alike : (x y : Task) → IsAlikeTask r.to x y
      → IsAlikeTask r.to (record x { creator = creator_after id n x.creator }) (record y { creator = creator_after (r.to id) n y.creator })
  left_alike x y same = record {
    other_is =
        (let creators : creator_after (r.to id) n y.creator ≡ permuted_creator r.to (creator_after id n x.creator) =
        ap (λ t. creator_after (r.to id) n t.creator) same.other_is ∙ creator_too x.creator in
        λ i. record (same.other_is i) { creator = creators i; lines = y.lines });
    touched = same.touched;
    written = same.written;
  }

  after_too : (k : ℕ) (s t : Option Task) → IsAlikeAt r.to s t
      → IsAlikeAt r.to (after_commit id n k s) (after_commit (r.to id) n (r.to k) t)
  after_too k None None same = tt
  after_too k (Some x) (Some y) same =
      subst (λ e. IsAlikeAt r.to (after_commit id n k (Some x)) (if e then None else Some (record y { creator = creator_after (r.to id) n y.creator }))) (sym (same_tested r k id)) (by_test (k == id))
    where
      by_test : (e : Bool)
          → IsAlikeAt r.to (if e then None else Some (record x { creator = creator_after id n x.creator })) (if e then None else Some (record y { creator = creator_after (r.to id) n y.creator }))
      by_test true = tt
      by_test false = left_alike x y same
  after_too k None (Some y) same = absurd same
  after_too k (Some x) None same = absurd same

  without_too : (ids : List ℕ) → ids_but (r.to id) (map r.to ids) ≡ map r.to (ids_but id ids)
  without_too = filter_mapped r.to (λ k. not (k == id)) (λ k. not (k == r.to id)) (λ k. ap not (same_tested r k id))

  all_without_too : (lists lists' : List (List ℕ)) → lists' ≡ map (map r.to) lists
      → map (ids_but (r.to id)) lists' ≡ map (map r.to) (map (ids_but id) lists)
  all_without_too lists lists' same =
      ap (map (ids_but (r.to id))) same
      ∙ map_same (ids_but (r.to id)) (map r.to) (map r.to) (ids_but id) without_too lists

module _ (r : IdPermutation) (a b : View) (alike : AreAlike r a b) where
  pub commits_alike : (a' b' : View) → Commits a a' → Commits b b' → AreAlike r a' b'
  commits_alike a' b' one two =
      let least = least_too r a b alike one.id one.task one.least in
      let ids : two.id ≡ r.to one.id = one_least b two.id (r.to one.id) two.task least.y two.least least.least in
      let task : two.task ≡ least.y = task_one b two.id (r.to one.id) two.task least.y ids two.least.queued_at.there least.least.queued_at.there in
      let like : two.task ≡ record one.task { creator = permuted_creator r.to one.task.creator; lines = least.y.lines } = task ∙ least.alike.other_is in
      let made : Committed two.turn two.index ≡ Committed one.turn one.index = sym two.creator ∙ (ap (λ (t : Task). t.creator) like ∙ ap (permuted_creator r.to) one.creator) in
      let turn : two.turn ≡ one.turn = cc in
      let index : two.index ≡ one.index = cc in
      let old : b.history ≡ a.history = history_too r a b alike in
      let history : b'.history ≡ a'.history = two.history ∙ ((λ i. old i ++ record { name = record { creator = turn i; index = index i }; depth = depth_of (like i); ts = (like i).key.ts } ∷ []) ∙ sym one.history) in
      let output : b'.output ≡ a'.output = two.output ∙ ((λ i. ap (λ v. v.output) alike.frame i ++ (like i).bytes) ∙ sym one.output) in
      let path : b'.path ≡ a'.path = two.path ∙ ((λ i. (like i).key.domain ++ own_level (like i) ∷ []) ∙ sym one.path) in
      record {
        tasks = λ k. subst (λ s. IsAlikeAt r.to s (task_at b' (r.to k))) (sym (one.each k))
            (subst (λ t. IsAlikeAt r.to (after_commit one.id (length a.history + 1) k (task_at a k)) t) (sym (two.each (r.to k) ∙ (λ i. after_commit (ids i) (length (old i) + 1) (r.to k) (task_at b (r.to k)))))
            (after_too r one.id (length a.history + 1) k (task_at a k) (task_at b (r.to k)) (alike.tasks k)));
        queues =
            two.queues
            ∙ (ap (λ id. map (ids_but id) b.queues) ids ∙ (all_without_too r one.id 0 a.queues b.queues alike.queues ∙ ap (map (map r.to)) (sym one.queues)));
        finished =
            two.finished
            ∙ (ap (λ id. map (ids_but id) b.finished) ids ∙ (all_without_too r one.id 0 a.finished b.finished alike.finished ∙ ap (map (map r.to)) (sym one.finished)));
        cores =
            ap (λ v. v.cores) two.frame ∙ (alike.cores ∙ ap (λ v. map (map (option_map r.to)) v.cores) (sym one.frame));
        frame =
            two.frame
            ∙ (ap {A = View} (λ v. record v { tasks = b'.tasks; history = b'.history; output = b'.output; path = b'.path; queues = b'.queues; finished = b'.finished }) alike.frame
            ∙ ((λ i. record a { tasks = b'.tasks; queues = b'.queues; finished = b'.finished; cores = b.cores; history = history i; output = output i; path = path i })
            ∙ (ap {A = View} (λ v. record v { tasks = b'.tasks; queues = b'.queues; finished = b'.finished; cores = b.cores }) (sym one.frame)
            ∙ ap {A = View} (λ v. record a' { tasks = b'.tasks; queues = b'.queues; finished = b'.finished; cores = v.cores }) (sym two.frame))));
      }
