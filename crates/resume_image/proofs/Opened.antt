-- A saved image opens where the first run stopped.
use Rattle.std.proofs.Common.{◌≡◌, ◌≢◌, refl, sym, ap, ◌∙◌, subst, ℕ, ◌+◌, ◌-◌, ◌≤◌, ◌<◌, ◌==◌, Bool, true, false, List}
use Rattle.std.proofs.Common.{[], ◌∷◌, ◌++◌, length, map, slice_index_or, replicate, All, if◌then◌else◌, inl, inr}
use Rattle.std.proofs.Common.{arith}
use Rattle.std.specs.List.{AllByRecursion, enumerate_from}
use Rattle.std.proofs.lemmas.Bool.Decides.{nat_tests}
use Rattle.std.proofs.lemmas.Grind.{common_steps}
use Rattle.std.proofs.lemmas.List.{append_assoc, append-nil, length-append}
use Rattle.std.proofs.lemmas.List.Elements.{All-from_recursion, recursion_from_All}
use Rattle.std.proofs.lemmas.List.Sorted.{IsPermutation-sym}
use Rattle.std.proofs.lemmas.List.{nil_from_length}
use Rattle.guest_image.specs.ImageValue.{ImageValue, IsImage}
use Rattle.guest_image.specs.declared.image.Kind.{Kind}
use Rattle.task_desc.specs.declared.desc.Name.{Name}
use Rattle.pending_list.specs.declared.task.PendingTask.{PendingTask}
use Rattle.run_journal.specs.declared.journal.Entry.{Entry}
use Rattle.conflict_book.specs.spec_state.declared.pending.Pending.{Pending}
use Rattle.conflict_book.specs.serial_machine.BagValue.{BagValue}
use Rattle.conflict_book.specs.serial_machine.Run.{image_task, opening, opening_memory}
use Rattle.conflict_book.specs.serial_machine.State.{IsStack, SerialState}
use Rattle.conflict_book.specs.serial_machine.Turn.{inner}
use Rattle.conflict_book.proofs.Below.run_law.Proved.{count-run, run_sized}
use Rattle.conflict_book.proofs.Below.serial_machine.Proved.{IsStack-inner}
use Rattle.conflict_book.specs.spec_state.Pendings.{ArePendings, IsBefore, RunLeaves, all_pending, pending_at}
use Rattle.resume_image.specs.Saved.{saved_image, saved_task}
use Rattle.resume_image.proofs.Bags.{AreGood, good_inner}
use Rattle.resume_image.proofs.Followed.{Follows}
use Rattle.resume_image.proofs.Names.{AreSaved, Know}
use Rattle.resume_image.proofs.Rising.{AllBehind, AreOld, IsOld, Rise}
use Rattle.resume_image.proofs.Shifted.{AreShifted, shifted_task}
use Rattle.conflict_book.proofs.Below.pending_law.Proved.{Holds}
use Rattle.resume_image.proofs.Sorted.{AreInOrder, holds_permuted, in_order, one_list}
use Rattle.resume_image.proofs.Standing.{IsRooted, Stands, rooted_inner, run_stands}

-- without the emptied innermost bags the same pends
pending_inner : (stack : List BagValue) → all_pending (inner stack) ≡ all_pending stack
pending_inner [] = refl
pending_inner (bag ∷ outer) = go (length bag.tasks == 0) refl (pending_inner outer)
  where
    go : (b : Bool) → (length bag.tasks == 0) ≡ b → all_pending (inner outer) ≡ all_pending outer
        → all_pending (if b then inner outer else bag ∷ outer) ≡ all_pending (bag ∷ outer)
    go true is rest =
        let none : bag.tasks ≡ [] = grind (arith, nat_tests, common_steps, nil_from_length) in
        rest ∙ ap (λ ts. map (pending_at bag.depth) ts ++ all_pending outer) (sym none)
    go false is rest = refl

-- the first bag that `inner` leaves isn't empty
inner_some : (stack : List BagValue) (bag : BagValue) (outer : List BagValue) → inner stack ≡ bag ∷ outer
    → length bag.tasks ≢ 0
inner_some [] bag outer top = absurd (cc (top))
inner_some (b ∷ bs) bag outer top = go (length b.tasks == 0) refl top (inner_some bs bag outer)
  where
    go : (c : Bool) → (length b.tasks == 0) ≡ c → (if c then inner bs else b ∷ bs) ≡ bag ∷ outer
        → (inner bs ≡ bag ∷ outer → length bag.tasks ≢ 0) → length bag.tasks ≢ 0
    go true is at rest = rest at
    go false is at rest =
        let same : b ≡ bag = cc (at) in
        let long : length b.tasks ≡ length bag.tasks = ap (λ (x : BagValue). length x.tasks) same in
        λ none. (let zero : length b.tasks ≡ 0 = long ∙ none in
        let no_way : (length b.tasks == 0) ≡ true = grind (arith, nat_tests, common_steps) in
        absurd (cc (is, no_way)))

-- the tasks of a bag of the root domain are in the order of their names
all_behind : (t : PendingTask) (ts : List PendingTask) → AllBehind t ts
    → AllByRecursion (IsBefore (pending_at 1 t)) (map (pending_at 1) ts)
all_behind t [] each = tt
all_behind t (u ∷ us) each = (each.0, all_behind t us each.1)

bag_in_order : (ts : List PendingTask) → Rise ts → AreInOrder (map (pending_at 1) ts)
bag_in_order [] rise = tt
bag_in_order (t ∷ ts) rise = (all_behind t ts rise.0, bag_in_order ts rise.1)

-- the one bag of a state where something pends, all in the root domain
pub record IsOne (image : ImageValue) (count : ℕ) (stack : List BagValue) (pendings : List Pending) : Type 0 where
  pub bag : BagValue
  pub top : inner stack ≡ bag ∷ []
  pub depth : bag.depth ≡ 1
  pub kind : bag.kind ≡ image.kind
  pub floor : bag.floor ≡ 0
  pub old : AreOld count bag.kind bag.tasks
  pub are : pendings ≡ map (pending_at 1) bag.tasks

module _ (image : ImageValue) (s : SerialState) (stands : Stands image s) (pendings : List Pending) (are : ArePendings s.stack pendings)
    (some : 0 < length pendings) (root : All (λ (p : Pending). p.depth ≡ 1) pendings) where
  held_at_one : (p : Pending) (ps : List Pending) → AllByRecursion (λ (q : Pending). q.depth ≡ 1) ps → Holds ps p
      → p.depth ≡ 1
  held_at_one p [] each held = absurd held
  held_at_one p (q ∷ qs) each (inl same) = ap (λ (x : Pending). x.depth) (sym same) ∙ each.0
  held_at_one p (q ∷ qs) each (inr held) = held_at_one p qs each.1 held

  to_stack : (p : Pending) → Holds pendings p → Holds (all_pending (inner s.stack)) p
  to_stack p held =
      subst (λ ps. Holds ps p) (sym (pending_inner s.stack)) (holds_permuted pendings (all_pending s.stack) p are.held held)

  from_stack : (p : Pending) → Holds (all_pending (inner s.stack)) p → Holds pendings p
  from_stack p held =
      holds_permuted (all_pending s.stack) pendings p (IsPermutation-sym pendings (all_pending s.stack) are.held)
      (subst (λ ps. Holds ps p) (pending_inner s.stack) held)

  first_held : (bag : BagValue) (outer : List BagValue) (ts : List PendingTask) → bag.tasks ≡ ts → length ts ≢ 0
      → ((p : Pending) → Holds (all_pending (bag ∷ outer)) p → p.depth ≡ 1) → bag.depth ≡ 1
  first_held bag outer [] is long each = absurd (long refl)
  first_held bag outer (t ∷ ts) is long each =
      each (pending_at bag.depth t) (subst (λ us. Holds (map (pending_at bag.depth) us ++ all_pending outer) (pending_at bag.depth t)) (sym is) (inl refl))

  only_bag : (outer : List BagValue) (depth : ℕ) → depth ≡ length outer + 1 → depth ≡ 1 → outer ≡ []
  only_bag [] depth is one = refl
  only_bag (b ∷ bs) depth is one = absurd (omega (arith, is, one))

  some_held : (ps : List Pending) → 0 < length ps → (p : Pending) × Holds ps p
  some_held [] long = absurd (omega (arith, long))
  some_held (p ∷ ps) long = (p, inl refl)

  pub is_one : IsOne image s.count s.stack pendings
  is_one = at (inner s.stack) refl
    where
      each_one : (p : Pending) → Holds (all_pending (inner s.stack)) p → p.depth ≡ 1
      each_one p held =
          held_at_one p pendings (recursion_from_All (λ (q : Pending). q.depth ≡ 1) pendings root) (from_stack p held)

      at : (stack : List BagValue) → inner s.stack ≡ stack → IsOne image s.count s.stack pendings
      at [] top =
          let one = some_held pendings some in
          absurd (subst (λ st. Holds (all_pending st) one.0) top (to_stack one.0 one.1))
      at (bag ∷ outer) top =
          let depth : bag.depth ≡ 1 = first_held bag outer bag.tasks refl (inner_some s.stack bag outer top)
          (λ p held. each_one p (subst (λ st. Holds (all_pending st) p) (sym top) held)) in
          let deep : IsStack (bag ∷ outer) = subst IsStack top (IsStack-inner s.stack stands.stack) in
          let alone : outer ≡ [] = only_bag outer bag.depth deep.0 depth in
          let whole : inner s.stack ≡ bag ∷ [] = top ∙ ap (λ o. bag ∷ o) alone in
          let rooted : IsRooted image.kind (bag ∷ []) = subst (IsRooted image.kind) whole (rooted_inner image.kind s.stack stands.root) in
          let old : AreGood (AreOld s.count) (bag ∷ []) = subst (AreGood (AreOld s.count)) whole (good_inner (AreOld s.count) s.stack stands.old) in
          let tasks : all_pending (inner s.stack) ≡ map (pending_at 1) bag.tasks =
          ap all_pending whole ∙ append-nil (map (pending_at bag.depth) bag.tasks)
          ∙ ap (λ d. map (pending_at d) bag.tasks) depth in
          record {
            bag = bag;
            top = whole;
            depth = depth;
            kind = rooted.0;
            floor = rooted.1;
            old = old.0;
            are =
                one_list pendings (map (pending_at 1) bag.tasks) (in_order pendings are.sorted) (bag_in_order bag.tasks old.0.rise)
                (λ p held. subst (λ ps. Holds ps p) tasks (to_stack p held))
                (λ p held. from_stack p (subst (λ ps. Holds ps p) (sym tasks) held));
          }

-- the tasks of the saved image, under their shifted names, are the tasks that pend
name_here : (front : List Pending) (p : Pending) (rest : List Pending) (d : Name)
    → slice_index_or (map (λ (q : Pending). q.name) (front ++ p ∷ rest)) (length front) d ≡ p.name
name_here [] p rest d = refl
name_here (q ∷ front) p rest d = name_here front p rest d

tasks_back : (turns count : ℕ) (kind : Kind) (pendings front : List Pending) (ts : List PendingTask)
    → pendings ≡ front ++ map (pending_at 1) ts
    → AllByRecursion (IsOld count kind) ts
    → ts ≡ map (shifted_task turns pendings) (map (image_task kind) (enumerate_from (length front) (map saved_task (map (pending_at 1) ts))))
tasks_back turns count kind pendings front [] is old = refl
tasks_back turns count kind pendings front (t ∷ ts) is old =
    let behind : pendings ≡ (front ++ pending_at 1 t ∷ []) ++ map (pending_at 1) ts = is ∙ sym (append_assoc front (pending_at 1 t ∷ []) (map (pending_at 1) ts)) in
    let long : length (front ++ pending_at 1 t ∷ []) ≡ length front + 1 = length-append front (pending_at 1 t ∷ []) in
    let rest = tasks_back turns count kind pendings (front ++ pending_at 1 t ∷ []) ts behind old.1 in
    let name : slice_index_or (map (λ (q : Pending). q.name) pendings) (length front) (record { creator = 0; index = length front }) ≡ t.name =
    ap (λ ps. slice_index_or (map (λ (q : Pending). q.name) ps) (length front) (record { creator = 0; index = length front })) is
    ∙ name_here front (pending_at 1 t) (map (pending_at 1) ts) (record { creator = 0; index = length front }) in
    let here : t ≡ shifted_task turns pendings (image_task kind (length front, saved_task (pending_at 1 t))) =
    ap (λ n. record t { name = n }) (sym name)
    ∙ ap (λ x. record t { name = slice_index_or (map (λ (q : Pending). q.name) pendings) (length front) (record { creator = 0; index = length front }); ts = x }) (sym old.0.1) in
    ap (λ x. x ∷ ts) here
    ∙ ap (λ us. shifted_task turns pendings (image_task kind (length front, saved_task (pending_at 1 t))) ∷ us)
    (rest ∙ ap (λ k. map (shifted_task turns pendings) (map (image_task kind) (enumerate_from k (map saved_task (map (pending_at 1) ts))))) long)

-- the pending tasks are sorted, and were made by the image or by the turns so far
made_before : (count : ℕ) (kind : Kind) (ts : List PendingTask) → AllByRecursion (IsOld count kind) ts
    → AllByRecursion (λ (p : Pending). p.name.creator ≤ count) (map (pending_at 1) ts)
made_before count kind [] old = tt
made_before count kind (t ∷ ts) old = (old.0.0, made_before count kind ts old.1)

are_saved : (image : ImageValue) (count : ℕ) (stack : List BagValue) (pendings : List Pending)
    → ArePendings stack pendings
    → IsOne image count stack pendings → AreSaved count pendings
are_saved image count stack pendings are one = record {
  sorted = are.sorted;
  made =
      subst (All (λ (p : Pending). p.name.creator ≤ count)) (sym one.are)
      (All-from_recursion (λ (p : Pending). p.name.creator ≤ count) (map (pending_at 1) one.bag.tasks) (made_before count one.bag.kind one.bag.tasks one.old.each));
}

-- each task of the saved image is one of the pending tasks
all_known : (kind : Kind) (pendings : List Pending) (k : ℕ) (ps : List Pending) → k + length ps ≤ length pendings
    → Know pendings (map (image_task kind) (enumerate_from k (map saved_task ps)))
all_known kind pendings k [] fits = tt
all_known kind pendings k (p ∷ ps) fits =
    (λ none. omega (arith, fits), all_known kind pendings (k + 1) ps (omega (arith, fits)))

-- the bag in which the tasks of the saved image pend
abbrev opening_bag : ImageValue → List Pending → BagValue
opening_bag image pendings = record {
  depth = 1;
  kind = image.kind;
  floor = 0;
  owner = 0;
  tasks = map (image_task image.kind) (enumerate_from 0 (map saved_task pendings));
}

long_opening : (kind : Kind) (k : ℕ) (ps : List Pending) → 0 < length ps
    → (length (map (image_task kind) (enumerate_from k (map saved_task ps))) == 0) ≡ false
long_opening kind k [] some = absurd (omega (arith, some))
long_opening kind k (p ∷ ps) some = grind (arith, nat_tests, common_steps)

opening_inner : (image : ImageValue) (pendings : List Pending) → 0 < length pendings
    → inner (opening_bag image pendings ∷ []) ≡ opening_bag image pendings ∷ []
opening_inner image pendings some = rw (long_opening image.kind 0 pendings some) refl

opened_bag : (turns : ℕ) (image : ImageValue) (count : ℕ) (stack : List BagValue) (pendings : List Pending)
    → (one : IsOne image count stack pendings)
    → one.bag ≡ record (opening_bag image pendings) { owner = one.bag.owner; tasks = map (shifted_task turns pendings) (opening_bag image pendings).tasks }
opened_bag turns image count stack pendings one =
    let tasks : one.bag.tasks ≡ map (shifted_task turns pendings) (opening_bag image pendings).tasks =
    tasks_back turns count one.bag.kind pendings [] one.bag.tasks one.are one.old.each
    ∙ ap (λ k. map (shifted_task turns pendings) (map (image_task k) (enumerate_from 0 (map saved_task (map (pending_at 1) one.bag.tasks))))) one.kind
    ∙ ap (λ ps. map (shifted_task turns pendings) (map (image_task image.kind) (enumerate_from 0 (map saved_task ps)))) (sym one.are) in
    λ i. record { depth = one.depth i; kind = one.kind i; floor = one.floor i; owner = one.bag.owner; tasks = tasks i }

opened_memory : (image : ImageValue) (memory : List ℕ) (pendings : List Pending) → length memory ≡ image.data_size
    → memory ≡ opening_memory (saved_image image memory pendings)
opened_memory image memory pendings sized =
    let none : image.data_size - length memory ≡ 0 = omega (arith, sized) in
    sym (append-nil memory) ∙ ap (λ k. memory ++ replicate k 0) (sym none)

-- the pending tasks are sorted and were made by then, and this state goes on as the opening of the saved image does
pub record IsOpened (image : ImageValue) (one : List Entry) (memory output : List ℕ) (pendings : List Pending) (s : SerialState) : Type 0 where
  pub saved : AreSaved (length one) pendings
  pub follows : Follows (length one) output pendings s (opening (saved_image image memory pendings))

pub saved_opens : (image : ImageValue) (budget : ℕ) (one : List Entry) (memory output : List ℕ) (pendings : List Pending)
    → IsImage image
    → (left : RunLeaves image budget one memory output pendings) → 0 < length pendings
    → All (λ (p : Pending). p.depth ≡ 1) pendings
    → IsOpened image one memory output pendings left.state
saved_opens image budget one memory output pendings within left some root =
    let stands = run_stands image budget one left.state left.run in
    let bag = is_one image left.state stands pendings left.pending some root in
    let count : left.state.count ≡ length one = count-run image budget one left.state left.run in
    let sized : length memory ≡ image.data_size = ap length left.memory_is ∙ run_sized image budget one left.state within left.run in
    record {
      saved =
          subst (λ n. AreSaved n pendings) count (are_saved image left.state.count left.state.stack pendings left.pending bag);
      follows = record {
        stack =
            subst (AreShifted (length one) pendings (inner left.state.stack)) (sym (opening_inner image pendings some))
            (subst (λ st. AreShifted (length one) pendings st (opening_bag image pendings ∷ [])) (sym bag.top)
            (opened_bag (length one) image left.state.count left.state.stack pendings bag, tt));
        memory = sym left.memory_is ∙ opened_memory image memory pendings sized;
        output = sym left.output_is ∙ sym (append-nil output);
        count = omega (arith, count);
        known = (all_known image.kind pendings 0 pendings (omega arith), tt);
      };
    }
