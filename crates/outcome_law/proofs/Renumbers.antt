-- A renumbering leaves views that are alike.
use Rattle.std.proofs.Common.{◌≡◌, ◌<◌, ℕ, List, map, length, Option, Some, None, option_map, sym, ap, subst, ◌∙◌}
use Rattle.std.proofs.Common.{arith}
use Rattle.std.specs.Prelude.{slice_index_or, Contains}
use Rattle.std.proofs.lemmas.List.Kept.{AllPairs-from_increasing}
use Rattle.spill_store.specs.SpilledTasks.{renumbered_spilled}
use Rattle.fractal_vt.specs.Renumbered.{renumbered_levels}
use Rattle.step_script.specs.spec_state.declared.task.Task.{Task}
use Rattle.step_script.specs.spec_state.View.{View, task_at}
use Rattle.step_script.specs.spec_state.Groups.{all_spilled}
use Rattle.step_script.specs.spec_state.Numbers.{IsTieOf, IsInUse, on_path, in_domain, of_task, of_spilled}
use Rattle.step_script.specs.spec_state.Numbers.{IsNumberTable}
use Rattle.step_script.specs.spec_state.Numbers.{renumbered_task, Renumbers, FreesNumber, has_free, renumbers}
use Rattle.step_script.proofs.Below.spec_state.Proved.{map_at}
use Rattle.outcome_law.specs.Alike.{IdPermutation, inverse_of, IsAlikeAt, AreAlike}
use Rattle.outcome_law.proofs.Alike.{partner, alike_turned}
use Rattle.outcome_law.proofs.Chosen.{rises, one_order}
use Rattle.step_script.proofs.Below.spec_law.Proved.{contains_in, in_contains}

-- no two numbers are each below the other
both_below : (x y : ℕ) → Unit {0} → Unit {0} → x < y → y < x → ⊥
both_below x y any also one two = omega arith

pub table_is_one : (view : View) (table other : List ℕ) → IsNumberTable view table → IsNumberTable view other
    → table ≡ other
table_is_one view table other one two =
    one_order (λ x. Unit {0}) (λ x y. x < y) both_below table other (λ x at. tt)
    (rises (λ x. Unit {0}) (λ x y. x < y) both_below table (AllPairs-from_increasing table one.rising))
    (rises (λ x. Unit {0}) (λ x y. x < y) both_below other (AllPairs-from_increasing other two.rising))
    (λ x at. contains_in other x ((two.exact x).1 ((one.exact x).0 (in_contains table x at))))
    (λ x at. contains_in table x ((one.exact x).1 ((two.exact x).0 (in_contains other x at))))

module _ (r : IdPermutation) (a b : View) (alike : AreAlike r a b) where
  in_use_too : (number : ℕ) → IsInUse a number → IsInUse b number
  in_use_too number (on_path is) = on_path (subst (λ p. IsTieOf p number) (sym (ap (λ v. v.path) alike.frame)) is)
  in_use_too number (in_domain id task there is) =
      let p = partner r a b alike id task there in
      in_domain (r.to id) p.y p.there (subst (λ d. IsTieOf d number) (sym (ap (λ t. t.key.domain) p.alike.other_is)) is)
  in_use_too number (of_task id task there is) =
      let p = partner r a b alike id task there in
      of_task (r.to id) p.y p.there (ap (λ t. t.key.tb) p.alike.other_is ∙ is)
  in_use_too number (of_spilled s has is) =
      of_spilled s (subst (λ ss. Contains ss s) (sym (ap all_spilled alike.frame)) has) is

  renumbered_alike : (table : List ℕ) (s t : Option Task) → IsAlikeAt r.to s t
      → IsAlikeAt r.to (option_map (renumbered_task table) s) (option_map (renumbered_task table) t)
  renumbered_alike table None None same = tt
  renumbered_alike table (Some x) (Some y) same = record {
    other_is = ap {A = Task} (renumbered_task table) same.other_is;
    touched = same.touched;
    written = same.written;
  }
  renumbered_alike table None (Some y) same = absurd same
  renumbered_alike table (Some x) None same = absurd same

renumbered_at : (old new : View) (table : List ℕ) → new.tasks ≡ map (option_map (renumbered_task table)) old.tasks
    → (k : ℕ) → task_at new k ≡ option_map (renumbered_task table) (task_at old k)
renumbered_at old new table is k =
    ap (λ (ts : List (Option Task)). slice_index_or ts k None) is
    ∙ map_at (option_map (renumbered_task table)) old.tasks k None

module _ (r : IdPermutation) (a b : View) (alike : AreAlike r a b) where
  table_too : (table : List ℕ) → IsNumberTable a table → IsNumberTable b table
  table_too table is = record {
    rising = is.rising;
    exact = λ n. (
      (λ has. in_use_too r a b alike n ((is.exact n).0 has)),
      (λ used. (is.exact n).1 (in_use_too (inverse_of r) b a (alike_turned r a b alike) n used)),
    );
  }

  pub renumbers_alike : (a' b' : View) → Renumbers a a' → Renumbers b b' → AreAlike r a' b'
  renumbers_alike a' b' one two =
      let table : two.table ≡ one.table = table_is_one b two.table one.table two.is_table (table_too one.table one.is_table) in
      let blocks : b'.blocks ≡ a'.blocks = two.blocks ∙ ((λ i. map (map (renumbered_spilled (table i))) (ap (λ v. v.blocks) alike.frame i)) ∙ sym one.blocks) in
      let path : b'.path ≡ a'.path = two.path ∙ ((λ i. renumbered_levels (table i) (ap (λ v. v.path) alike.frame i)) ∙ sym one.path) in
      let next : b'.next ≡ a'.next = two.next ∙ (ap length table ∙ sym one.next) in
      record {
        tasks =
            λ k. subst (λ s. IsAlikeAt r.to s (task_at b' (r.to k))) (sym (renumbered_at a a' one.table one.tasks k))
            (subst (λ t. IsAlikeAt r.to (option_map (renumbered_task one.table) (task_at a k)) t) (sym (renumbered_at b b' two.table two.tasks (r.to k) ∙ ap (λ t. option_map (renumbered_task t) (task_at b (r.to k))) table))
            (renumbered_alike r a b alike one.table (task_at a k) (task_at b (r.to k)) (alike.tasks k)));
        queues = ap (λ v. v.queues) two.frame ∙ (alike.queues ∙ ap (λ v. map (map r.to) v.queues) (sym one.frame));
        finished =
            ap (λ v. v.finished) two.frame ∙ (alike.finished ∙ ap (λ v. map (map r.to) v.finished) (sym one.frame));
        cores =
            ap (λ v. v.cores) two.frame ∙ (alike.cores ∙ ap (λ v. map (map (option_map r.to)) v.cores) (sym one.frame));
        frame =
            two.frame
            ∙ (ap {A = View} (λ v. record v { tasks = b'.tasks; blocks = b'.blocks; path = b'.path; next = b'.next }) alike.frame
            ∙ ((λ i. record a { tasks = b'.tasks; queues = b.queues; finished = b.finished; cores = b.cores; blocks = blocks i; path = path i; next = next i })
            ∙ (ap {A = View} (λ v. record v { tasks = b'.tasks; queues = b.queues; finished = b.finished; cores = b.cores }) (sym one.frame)
            ∙ ap {A = View} (λ v. record a' { tasks = b'.tasks; queues = v.queues; finished = v.finished; cores = v.cores }) (sym two.frame))));
      }

  -- a number is freed alike
  pub frees_number_alike : (a' b' : View) → FreesNumber a a' → FreesNumber b b' → AreAlike r a' b'
  frees_number_alike a' b' (has_free low) (has_free low') = alike
  frees_number_alike a' b' (has_free low) (renumbers new full two) =
      absurd (let next : b.next ≡ a.next = ap (λ v. v.next) alike.frame in omega arith)
  frees_number_alike a' b' (renumbers new full one) (has_free low) =
      absurd (let next : b.next ≡ a.next = ap (λ v. v.next) alike.frame in omega arith)
  frees_number_alike a' b' (renumbers new full one) (renumbers other full' two) = renumbers_alike a' b' one two
