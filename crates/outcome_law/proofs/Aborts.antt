-- What is taken back with some tasks is one set, in views that are alike.
use Rattle.std.proofs.Common.{◌≡◌, ◌<◌, ℕ, Bool, true, false, List, [], ◌∷◌, map, length, Option, Some, None}
use Rattle.std.proofs.Common.{option_map, is_some, refl, sym, ap, subst, ◌∙◌, inl, inr, arith, cond}
use Rattle.std.specs.Prelude.{filter, not, count_by, if◌then◌else◌}
use Rattle.abort_cascade.specs.Cascade.{Reached, start, step}
use Rattle.line_table.specs.Note.{Meet, wrote_in}
use Rattle.memory_law.specs.Notes.{notes_of}
use Rattle.fractal_vt.specs.Keys.{levels}
use Rattle.memory_law.specs.Tasks.{Logged, In, Ascends, IsByKey, log_of, undone_set}
use Rattle.memory_law.proofs.Orders.{one_order}
use Rattle.step_script.specs.task_law.Room.{queue_after}
use Rattle.undo_log.specs.Undo.{undone}
use Rattle.step_script.specs.spec_state.declared.task.Creator.{Creator}
use Rattle.step_script.specs.spec_state.declared.task.Creator.TheVariants.{Committed, Live}
use Rattle.step_script.specs.spec_state.declared.task.Task.{Task}
use Rattle.step_script.specs.spec_state.View.{View, task_at}
use Rattle.step_script.specs.spec_state.Tasks.{is_dispatched, idle_again}
use Rattle.step_script.specs.spec_state.Filters.{has_stored, has_touched}
use Rattle.step_script.specs.spec_state.Groups.{logged_tasks, logged_task, room_tasks, room_task, live_creator}
use Rattle.step_script.specs.spec_state.Aborts.{IsChildOf, ReadsFrom, PullsInView, is_marked, IsCascade, IsUndone}
use Rattle.step_script.specs.spec_state.Aborts.{is_marked_creator, taken_back, freed_core, Aborts}
use Rattle.step_script.proofs.Below.spec_law.Proved.{id_below, pulled_there}
use Rattle.outcome_law.specs.Alike.{IdPermutation, inverse_of, permuted_creator, IsAlikeTask, IsAlikeAt, AreAlike}
use Rattle.outcome_law.proofs.Alike.{partner, alike_turned}
use Rattle.outcome_law.proofs.Lists.{map_same, filter_mapped, left_mapped, same_bool, count_upto}
use Rattle.outcome_law.proofs.Queries.{later_too}

-- the creator of the partner
pub live_permuted : (to : ℕ → ℕ) (c : Creator) → live_creator (permuted_creator to c) ≡ option_map to (live_creator c)
live_permuted to (Committed turn index) = refl
live_permuted to (Live task index) = refl

module _ (r : IdPermutation) (a b : View) (alike : AreAlike r a b) where
  child_too : (k j : ℕ) → IsChildOf a k j → IsChildOf b (r.to k) (r.to j)
  child_too k j is =
      let p = partner r a b alike j is.child is.there in
      record {
        child = p.y;
        there = p.there;
        made_by =
            ap (λ t. live_creator t.creator) p.alike.other_is
            ∙ (live_permuted r.to is.child.creator ∙ ap (option_map r.to) is.made_by);
      }

  reads_too : (k j : ℕ) → ReadsFrom a k j → ReadsFrom b (r.to k) (r.to j)
  reads_too k j is =
      let w = partner r a b alike k is.writer is.there in
      let l = later_too r a b alike is.writer w.y w.alike j is.reader is.later in
      let settings : a.settings ≡ b.settings = sym (ap (λ v. v.settings) alike.frame) in
      let stored : has_stored a.settings.line is.writer ≡ has_stored b.settings.line w.y =
      λ i. wrote_in (notes_of (settings i).line (sym w.alike.other_is i).log) in
      record {
        writer = w.y;
        there = w.there;
        dispatched = ap is_dispatched w.alike.other_is ∙ is.dispatched;
        reader = l.y;
        later = l.is;
        meets = subst (λ f. Meet f (has_touched l.y)) stored
            (subst (λ f. Meet (has_stored a.settings.line is.writer) f) (λ i line. sym (l.alike.touched line) i)
            is.meets);
      }

  pub pulls_too : (k j : ℕ) → PullsInView a k j → PullsInView b (r.to k) (r.to j)
  pulls_too k j (inl is) = inl (child_too k j is)
  pulls_too k j (inr is) = inr (reads_too k j is)

-- some tasks, and their partners
pub record AreFirsts (r : IdPermutation) (a : View) (firsts firsts' : ℕ → Type 0) : Type 0 where
  pub there : (k : ℕ) → firsts k → (x : Task) × (task_at a k ≡ Some x)
  pub to : (k : ℕ) → firsts k → firsts' (r.to k)

module _ (r : IdPermutation) (a b : View) (alike : AreAlike r a b) (firsts firsts' : ℕ → Type 0) (are : AreFirsts r a firsts firsts') (ma mb : List Bool)
    (one : IsCascade a firsts ma) (two : IsCascade b firsts' mb) where
  reached_there : (k : ℕ) → Reached (length ma) one.pull firsts k → (x : Task) × (task_at a k ≡ Some x)
  reached_there k (start j f) = are.there j f
  reached_there k (step {a} j before in_a in_b pulled) = pulled_there _ a j ((one.pulls a j).0 pulled)

  -- the partner of a task that stands is among the marks
  within : (k : ℕ) → (x : Task) × (task_at a k ≡ Some x) → r.to k < length mb
  within k there =
      let p = partner r a b alike k there.0 there.1 in
      let below = id_below b (r.to k) p.y p.there in
      let size = two.size in
      omega arith

  marked_too : (k : ℕ) → Reached (length ma) one.pull firsts k → is_marked mb (r.to k) ≡ true
  marked_too k (start j f) = two.least.holds (r.to j) (are.to j f)
  marked_too k (step {a} j before in_a in_b pulled) =
      let is = (one.pulls a j).0 pulled in
      two.least.closed (r.to a) (r.to j) (within a (reached_there a before)) (within j (pulled_there _ a j is)) ((two.pulls (r.to a) (r.to j)).1 (pulls_too r _ b alike a j is)) (marked_too a before)

  pub mark_too : (k : ℕ) → is_marked ma k ≡ true → is_marked mb (r.to k) ≡ true
  mark_too k is = marked_too k (one.least.reached k is)

module _ (r : IdPermutation) where
  pub one_to : (i j : ℕ) → r.to i ≡ r.to j → i ≡ j
  one_to i j e = sym (r.back i) ∙ (ap r.from e ∙ r.back j)

  pub one_from : (i j : ℕ) → r.from i ≡ r.from j → i ≡ j
  one_from i j e = sym (r.forth i) ∙ (ap r.to e ∙ r.forth j)

-- the marks are the same, and so is their count
pub record AreMarkedAlike (r : IdPermutation) (ma mb : List Bool) : Type 0 where
  pub same : (k : ℕ) → is_marked mb (r.to k) ≡ is_marked ma k
  pub count : count_by (λ m. m) mb ≡ count_by (λ m. m) ma

module _ (r : IdPermutation) (a b : View) (alike : AreAlike r a b) (firsts firsts' : ℕ → Type 0)
    (are : AreFirsts r a firsts firsts') (are' : AreFirsts (inverse_of r) b firsts' firsts) (ma mb : List Bool)
    (one : IsCascade a firsts ma) (two : IsCascade b firsts' mb) where
  on : (k : ℕ) → is_marked ma k ≡ true → is_marked mb (r.to k) ≡ true
  on = mark_too r a b alike firsts firsts' are ma mb one two

  off : (k : ℕ) → is_marked mb k ≡ true → is_marked ma (r.from k) ≡ true
  off = mark_too (inverse_of r) b a (alike_turned r a b alike) firsts' firsts are' mb ma two one

  pub marked_alike : AreMarkedAlike r ma mb
  marked_alike =
      let up = count_upto r.to (one_to r) ma mb on in
      let down = count_upto r.from (one_from r) mb ma off in
      record {
        same =
            λ k. same_bool (is_marked ma k) (is_marked mb (r.to k)) (on k) (λ m. subst (λ j. is_marked ma j ≡ true) (r.back k) (off (r.to k) m));
        count = omega arith;
      }

-- ---- memory

logged_same : (to : ℕ → ℕ) (s t : Option Task) → IsAlikeAt to s t → option_map logged_task t ≡ option_map logged_task s
logged_same to None None alike = refl
logged_same to (Some x) (Some y) alike = λ i. Some (record {
  levels = levels (alike.other_is i).key;
  dispatched = is_dispatched (alike.other_is i);
  log = (alike.other_is i).log;
  touched = λ line. alike.touched line i;
  wrote = λ line. alike.written line i;
})
logged_same to None (Some y) alike = absurd alike
logged_same to (Some x) None alike = absurd alike

-- what stands in a list stands in the permuted one
pub in_permuted : (to : ℕ → ℕ) (k : ℕ) (ids : List ℕ) → In k ids → In (to k) (map to ids)
in_permuted to k [] at = absurd at
in_permuted to k (j ∷ ids) (inl here) = inl (ap to here)
in_permuted to k (j ∷ ids) (inr later) = inr (in_permuted to k ids later)

-- and comes from it
pub was_in : (to : ℕ → ℕ) (k : ℕ) (ids : List ℕ) → In k (map to ids) → (j : ℕ) × In j ids × (k ≡ to j)
was_in to k [] at = absurd at
was_in to k (j ∷ ids) (inl here) = (j, inl refl, here)
was_in to k (j ∷ ids) (inr later) = let w = was_in to k ids later in (w.0, inr w.1, w.2)

module _ (r : IdPermutation) (ta tb : ℕ → Option Logged) (same : (k : ℕ) → tb (r.to k) ≡ ta k) where
  ascends_too : (ids : List ℕ) → Ascends ta ids → Ascends tb (map r.to ids)
  ascends_too [] up = tt
  ascends_too (id ∷ ids) up =
      (up.0, same id ∙ up.1, up.2, (λ k other at there. (let w = was_in r.to k ids at in up.3 w.0 other w.1 (sym (same w.0) ∙ (ap tb (sym w.2) ∙ there)))), ascends_too ids up.4)

  by_key_too : (ids : List ℕ) → IsByKey ta ids → IsByKey tb (map r.to ids)
  by_key_too ids is = record {
    ascends = ascends_too ids is.ascends;
    complete =
        λ k task there runs. subst (λ j. In j (map r.to ids)) (r.forth k) (in_permuted r.to (r.from k) ids (is.complete (r.from k) task (sym (same (r.from k)) ∙ (ap tb (r.forth k) ∙ there)) runs));
  }

  undone_too : (sa sb : ℕ → Bool) → ((k : ℕ) → sb (r.to k) ≡ sa k) → (ids memory : List ℕ)
      → undone_set sb tb (map r.to ids) memory ≡ undone_set sa ta ids memory
  undone_too sa sb such [] memory = refl
  undone_too sa sb such (id ∷ ids) memory =
      λ i. cond (such id i) (undone (log_of (same id i)) (undone_too sa sb such ids memory i)) (undone_too sa sb such ids memory i)

module _ (r : IdPermutation) (a b : View) (alike : AreAlike r a b) where
  pub logged_too : (k : ℕ) → logged_tasks b (r.to k) ≡ logged_tasks a k
  logged_too k = logged_same r.to (task_at a k) (task_at b (r.to k)) (alike.tasks k)

  -- what is left where the stores of some tasks are taken back is one memory
  pub undone_alike : (sa sb : ℕ → Bool) → ((k : ℕ) → sb (r.to k) ≡ sa k) → (m m' : List ℕ) → IsUndone a sa m
      → IsUndone b sb m' → m' ≡ m
  undone_alike sa sb such m m' one two =
      let ids : two.ids ≡ map r.to one.ids = one_order (logged_tasks b) two.ids (map r.to one.ids) two.by_key (by_key_too r (logged_tasks a) (logged_tasks b) logged_too one.ids one.by_key) in
      let memory : b.memory ≡ a.memory = ap (λ v. v.memory) alike.frame in
      two.memory_is
      ∙ ((λ i. undone_set sb (logged_tasks b) (ids i) (memory i)) ∙ (undone_too r (logged_tasks a) (logged_tasks b) logged_too sa sb such one.ids a.memory ∙ sym one.memory_is))

-- ---- tasks, queues, commit queues and cores

module _ (r : IdPermutation) (ma mb : List Bool) (marks : AreMarkedAlike r ma mb) where
  idle_alike : (version : ℕ) (x y : Task) → IsAlikeTask r.to x y
      → IsAlikeTask r.to (idle_again version x) (idle_again version y)
  idle_alike version x y alike = record {
    other_is = ap {A = Task} (idle_again version) alike.other_is;
    touched = λ line. refl;
    written = λ line. refl;
  }

  by_marks : (version : ℕ) (x y : Task) → IsAlikeTask r.to x y → (p q : Bool)
      → IsAlikeAt r.to (if p then (if q then None else Some (idle_again version x)) else Some x) (if p then (if q then None else Some (idle_again version y)) else Some y)
  by_marks version x y alike true true = tt
  by_marks version x y alike true false = idle_alike version x y alike
  by_marks version x y alike false q = alike

  mark_of_creator : (c : Option ℕ) → is_marked_creator mb (option_map r.to c) ≡ is_marked_creator ma c
  mark_of_creator None = refl
  mark_of_creator (Some id) = marks.same id

  taken_too : (version k : ℕ) (s t : Option Task) → IsAlikeAt r.to s t
      → IsAlikeAt r.to (taken_back version ma k s) (taken_back version mb (r.to k) t)
  taken_too version k None None alike = tt
  taken_too version k (Some x) (Some y) alike =
      let creators : is_marked_creator mb (live_creator y.creator) ≡ is_marked_creator ma (live_creator x.creator) =
      ap (λ t. is_marked_creator mb (live_creator t.creator)) alike.other_is
      ∙ (ap (is_marked_creator mb) (live_permuted r.to x.creator) ∙ mark_of_creator (live_creator x.creator)) in
      subst (λ p. IsAlikeAt r.to (taken_back version ma k (Some x)) (if p then (if is_marked_creator mb (live_creator y.creator) then None else Some (idle_again version y)) else Some y)) (sym (marks.same k))
      (subst (λ q. IsAlikeAt r.to (taken_back version ma k (Some x)) (if is_marked ma k then (if q then None else Some (idle_again version y)) else Some y)) (sym creators)
      (by_marks version x y alike (is_marked ma k) (is_marked_creator ma (live_creator x.creator))))
  taken_too version k None (Some y) alike = absurd alike
  taken_too version k (Some x) None alike = absurd alike

  freed_too : (c : Option ℕ) → freed_core mb (option_map r.to c) ≡ option_map r.to (freed_core ma c)
  freed_too None = refl
  freed_too (Some id) = ap (λ m. if m then None else Some (r.to id)) (marks.same id) ∙ by_mark (is_marked ma id)
    where
      by_mark : (m : Bool) → (if m then None else Some (r.to id)) ≡ option_map r.to (if m then None else Some id)
      by_mark true = refl
      by_mark false = refl

  held_too : (cs : List (Option ℕ))
      → map (freed_core mb) (map (option_map r.to) cs) ≡ map (option_map r.to) (map (freed_core ma) cs)
  held_too = map_same (freed_core mb) (option_map r.to) (option_map r.to) (freed_core ma) freed_too

  kept_too : (ids : List ℕ)
      → filter (λ id. not (is_marked mb id)) (map r.to ids) ≡ map r.to (filter (λ id. not (is_marked ma id)) ids)
  kept_too =
      filter_mapped r.to (λ id. not (is_marked ma id)) (λ id. not (is_marked mb id)) (λ id. ap not (marks.same id))

-- an id is that of a task in both, or in neither
pub there_same : (to : ℕ → ℕ) (s t : Option Task) → IsAlikeAt to s t
    → is_some (option_map room_task t) ≡ is_some (option_map room_task s)
there_same to None None alike = refl
there_same to (Some x) (Some y) alike = refl
there_same to None (Some y) alike = absurd alike
there_same to (Some x) None alike = absurd alike

-- an abort takes as many back, and leaves views that are alike
pub record AbortAlike (r : IdPermutation) (n m : ℕ) (new new' : View) : Type 0 where
  pub aborted : m ≡ n
  pub alike : AreAlike r new new'

module _ (r : IdPermutation) (a b : View) (alike : AreAlike r a b) (firsts firsts' : ℕ → Type 0)
    (are : AreFirsts r a firsts firsts') (are' : AreFirsts (inverse_of r) b firsts' firsts) (n m : ℕ) (new new' : View)
    (one : Aborts firsts a n new) (two : Aborts firsts' b m new') where
  marks : AreMarkedAlike r one.marks two.marks
  marks = marked_alike r a b alike firsts firsts' are are' one.marks two.marks one.cascade two.cascade

  tasks_alike : (k : ℕ) → IsAlikeAt r.to (task_at new k) (task_at new' (r.to k))
  tasks_alike k =
      let version : b.version ≡ a.version = ap (λ v. v.version) alike.frame in
      subst (λ s. IsAlikeAt r.to s (task_at new' (r.to k))) (sym (one.each k))
      (subst (λ s. IsAlikeAt r.to (taken_back a.version one.marks k (task_at a k)) s) (sym (two.each (r.to k)))
      (subst (λ v. IsAlikeAt r.to (taken_back a.version one.marks k (task_at a k)) (taken_back v two.marks (r.to k) (task_at b (r.to k)))) (sym version)
      (taken_too r one.marks two.marks marks a.version k (task_at a k) (task_at b (r.to k)) (alike.tasks k))))

  pub aborts_alike : AbortAlike r n m new new'
  aborts_alike = record {
    aborted = two.counted ∙ (marks.count ∙ sym one.counted);
    alike = record {
      tasks = tasks_alike;
      queues = two.queues ∙ (ap (map (queue_after (room_tasks new'))) alike.queues
          ∙ (map_same (queue_after (room_tasks new')) (map r.to) (map r.to) (queue_after (room_tasks new)) (left_mapped r.to (room_tasks new) (room_tasks new') (λ k. there_same r.to (task_at new k) (task_at new' (r.to k)) (tasks_alike k))) a.queues
          ∙ ap (map (map r.to)) (sym one.queues)));
      finished = two.finished ∙ (ap (map (filter (λ id. not (is_marked two.marks id)))) alike.finished
          ∙ (map_same (filter (λ id. not (is_marked two.marks id))) (map r.to) (map r.to) (filter (λ id. not (is_marked one.marks id))) (kept_too r one.marks two.marks marks) a.finished
          ∙ ap (map (map r.to)) (sym one.finished)));
      cores = two.cores ∙ (ap (map (map (freed_core two.marks))) alike.cores
          ∙ (map_same (map (freed_core two.marks)) (map (option_map r.to)) (map (option_map r.to)) (map (freed_core one.marks)) (held_too r one.marks two.marks marks) a.cores
          ∙ ap (map (map (option_map r.to))) (sym one.cores)));
      frame =
          (let memory : new'.memory ≡ new.memory = undone_alike r a b alike (is_marked one.marks) (is_marked two.marks) marks.same new.memory new'.memory one.memory two.memory in
          two.frame
          ∙ (ap {A = View} (λ v. record v { tasks = new'.tasks; memory = new'.memory; queues = new'.queues; finished = new'.finished; cores = new'.cores }) alike.frame
          ∙ (ap {A = List ℕ} (λ mem. record a { tasks = new'.tasks; memory = mem; queues = new'.queues; finished = new'.finished; cores = new'.cores }) memory
          ∙ ap {A = View} (λ v. record v { tasks = new'.tasks; queues = new'.queues; finished = new'.finished; cores = new'.cores }) (sym one.frame))));
    };
  }
