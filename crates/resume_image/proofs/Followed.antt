-- A run of a saved image is a run of the first image from where that stopped, under shifted names.
use Rattle.std.proofs.Common.{◌≡◌, ◌≢◌, refl, sym, ap, ◌∙◌, subst, ℕ, ◌+◌, Bool, true, false, not, List, [], ◌∷◌, ◌++◌}
use Rattle.std.proofs.Common.{map, Option, Some, option_map, if◌then◌else◌, arith}
use Rattle.std.proofs.lemmas.Bool.Decides.{nat_tests}
use Rattle.std.proofs.lemmas.Grind.{common_steps}
use Rattle.std.proofs.lemmas.List.{append_assoc}
use Rattle.std.proofs.lemmas.Option.{none-some}
use Rattle.guest_image.specs.ImageValue.{ImageValue}
use Rattle.guest_image.specs.declared.image.ImageTask.{ImageTask}
use Rattle.guest_image.specs.declared.image.Kind.{Kind}
use Rattle.task_desc.specs.declared.desc.Name.{Name}
use Rattle.task_desc.specs.declared.desc.Spawn.{Spawn}
use Rattle.task_desc.specs.declared.desc.Place.{Place}
use Rattle.task_desc.specs.declared.desc.Place.TheVariants.{Same, Sub, Super}
use Rattle.pending_list.specs.declared.task.PendingTask.{PendingTask}
use Rattle.run_journal.specs.declared.journal.Entry.{Entry}
use Rattle.conflict_book.specs.spec_state.declared.pending.Pending.{Pending}
use Rattle.conflict_book.specs.serial_machine.BagValue.{BagValue}
use Rattle.conflict_book.specs.serial_machine.State.{SerialState}
use Rattle.conflict_book.specs.serial_machine.TaskRun.{Done, task_run}
use Rattle.conflict_book.specs.serial_machine.Run.{Runs}
use Rattle.conflict_book.specs.serial_machine.Turn.{child, children, context_in_bag, find_named, inner, is_for}
use Rattle.conflict_book.specs.serial_machine.Turn.{is_named, run_in_bag}
use Rattle.conflict_book.specs.serial_machine.Turn.{stack_after, sub_bags, turn, with_super, without_name, MayTurn}
use Rattle.conflict_book.proofs.Below.serial_machine.Proved.{turn-done}
use Rattle.conflict_book.proofs.Below.run_law.Proved.{turn-did, Turned}
use Rattle.resume_image.specs.Joined.{shifted_name, shifted_entry}
use Rattle.resume_image.proofs.Names.{AreSaved, IsKnown, Know}
use Rattle.resume_image.proofs.Bags.{AreGood, good_after, good_inner}
use Rattle.resume_image.proofs.Same.{other, same_run}
use Rattle.resume_image.proofs.Shifted.{AreShifted, IsShifted, after_shifted, context_shifted, find_shifted}
use Rattle.resume_image.proofs.Shifted.{inner_shifted, least_shifted, shifted_task}

-- a name under which a task is found is known where all names are
known_found : (pendings : List Pending) (name : Name) (tasks : List PendingTask) (t : PendingTask)
    → find_named name tasks ≡ Some t
    → Know pendings tasks → IsKnown pendings name
known_found pendings name [] t found each = absurd (none-some _ found)
known_found pendings name (u ∷ us) t found each =
    go (is_named name u) refl found (λ later. known_found pendings name us t later each.1)
  where
    go : (b : Bool) → is_named name u ≡ b → (if b then Some u else find_named name us) ≡ Some t
        → (find_named name us ≡ Some t → IsKnown pendings name) → IsKnown pendings name
    go true is at rest first =
        let creator : u.name.creator ≡ name.creator = grind (arith, nat_tests, common_steps) in
        let index : u.name.index ≡ name.index = grind (arith, nat_tests, common_steps) in
        let inside = each.0 (creator ∙ first) in
        omega (arith, index, inside)
    go false is at rest first = rest at first

known_without : (pendings : List Pending) (name : Name) (tasks : List PendingTask) → Know pendings tasks
    → Know pendings (without_name name tasks)
known_without pendings name [] each = tt
known_without pendings name (t ∷ ts) each = go (is_named name t) (known_without pendings name ts each.1)
  where
    go : (b : Bool) → Know pendings (without_name name ts)
        → Know pendings (if not b then t ∷ without_name name ts else without_name name ts)
    go true rest = rest
    go false rest = (each.0, rest)

known_more : (pendings : List Pending) (tasks more : List PendingTask) → Know pendings tasks → Know pendings more
    → Know pendings (tasks ++ more)
known_more pendings [] more first second = second
known_more pendings (t ∷ ts) more first second = (first.0, known_more pendings ts more first.1 second)

known_map : (pendings : List Pending) (n : ℕ) (es : List (ℕ × Spawn)) → n ≢ 0 → Know pendings (map (child n) es)
known_map pendings n [] some = tt
known_map pendings n (e ∷ es) some = (λ none. absurd (some none), known_map pendings n es some)

known_children : (pendings : List Pending) (place : Place) (n : ℕ) (spawns : List Spawn) → n ≢ 0
    → Know pendings (children place n spawns)
unfolding children
known_children pendings place n spawns some = known_map pendings n _ some

-- each name of the tasks of these bags is known
abbrev pub AreKnown : List Pending → List BagValue → Type 0
AreKnown pendings = AreGood (λ kind tasks. Know pendings tasks)

known_after : (pendings : List Pending) (bag : BagValue) (outer : List BagValue) (name : Name) (n ts : ℕ) (spawns : List Spawn) (sub : Option Kind)
    → n ≢ 0 → AreKnown pendings (bag ∷ outer) → AreKnown pendings (stack_after bag outer name n ts spawns sub)
known_after pendings bag outer name n ts spawns sub some known =
    good_after (λ kind tasks. Know pendings tasks) (λ kind tasks. Know pendings tasks) (λ kind tasks each. each) bag outer name n ts spawns sub known
    (known_more pendings (without_name name bag.tasks) (children Same n spawns) (known_without pendings name bag.tasks known.0) (known_children pendings Same n spawns some))
    (λ kind is. known_children pendings Sub n spawns some)
    (λ kind is tasks each. known_more pendings tasks (children Super n spawns) each (known_children pendings Super n spawns some))

-- a state of the first image, and one of the image that was saved: the first goes on as the second does
pub record Follows (turns : ℕ) (front : List ℕ) (pendings : List Pending) (first second : SerialState) : Type 0 where
  pub stack : AreShifted turns pendings (inner first.stack) (inner second.stack)
  pub memory : first.memory ≡ second.memory
  pub output : first.output ≡ front ++ second.output
  pub count : first.count ≡ turns + second.count
  pub known : AreKnown pendings second.stack

module _ (image : ImageValue) (budget : ℕ) (initial : List ℕ) (tasks : List ImageTask) (turns : ℕ) (front : List ℕ) (pendings : List Pending)
    (saved : AreSaved turns pendings) where
  -- what a turn of the second leads to, the turn of the shifted name leads to in the first
  pub record Turns (first mid : SerialState) (e : Entry) : Type 0 where
    pub after : SerialState
    pub turned : turn image budget first (shifted_name turns pendings e.name)
        ≡ Some (after, shifted_entry turns pendings e)
    pub follows : Follows turns front pendings after mid

  turn_followed : (first second mid : SerialState) (e : Entry) → Follows turns front pendings first second
      → Turned (other image initial tasks) budget second mid e.name e → Turns first mid e
  turn_followed first second mid e same did = at (inner first.stack) refl
      (subst (AreShifted turns pendings (inner first.stack)) did.may.top same.stack)
    where
      known : AreKnown pendings (did.bag ∷ did.outer)
      known = subst (AreKnown pendings) did.may.top (good_inner (λ kind ts. Know pendings ts) second.stack same.known)

      named : IsKnown pendings e.name
      named = known_found pendings e.name did.bag.tasks did.task did.may.found known.0

      some : second.count + 1 ≢ 0
      some none = absurd (omega (arith, none))

      taken : (bag : BagValue) (outer : List BagValue) → inner first.stack ≡ bag ∷ outer
          → IsShifted turns pendings bag did.bag
          → AreShifted turns pendings outer did.outer
          → MayTurn first.stack (shifted_name turns pendings e.name) bag outer (shifted_task turns pendings did.task)
      taken bag outer top one rest = record {
        top = top;
        found =
            ap (λ (x : BagValue). find_named (shifted_name turns pendings e.name) x.tasks) one
            ∙ find_shifted turns pendings saved e.name did.bag.tasks named known.0
            ∙ ap (option_map (shifted_task turns pendings)) did.may.found;
        least =
            ap (λ (x : BagValue). Rattle.conflict_book.specs.serial_machine.Turn.is_least did.task.ts x.tasks) one
            ∙ least_shifted turns pendings did.task.ts did.bag.tasks
            ∙ did.may.least;
      }

      ran : (bag : BagValue) (outer : List BagValue) → IsShifted turns pendings bag did.bag
          → AreShifted turns pendings outer did.outer
          → run_in_bag image budget first bag outer (shifted_task turns pendings did.task) ≡ Done did.done
      ran bag outer one rest =
          ap (λ ctx. task_run image budget ctx did.task.entry did.task.args first.memory) (context_shifted turns pendings image.version bag did.bag outer did.outer did.task one rest)
          ∙ ap (task_run image budget (context_in_bag image.version did.bag did.outer did.task) did.task.entry did.task.args) same.memory
          ∙ sym (same_run image initial tasks budget (context_in_bag image.version did.bag did.outer did.task) did.task.entry did.task.args second.memory)
          ∙ did.run

      at : (stack : List BagValue) → inner first.stack ≡ stack → AreShifted turns pendings stack (did.bag ∷ did.outer)
          → Turns first mid e
      at [] top h = absurd h
      at (bag ∷ outer) top (one, rest) = record {
        after = record {
          stack =
              stack_after bag outer (shifted_name turns pendings e.name) (first.count + 1) did.task.ts did.done.spawns did.done.sub;
          memory = did.done.memory;
          output = first.output ++ did.done.bytes;
          count = first.count + 1;
        };
        turned =
            turn-done image budget first (shifted_name turns pendings e.name) bag outer (shifted_task turns pendings did.task) did.done
            (taken bag outer top one rest) (ran bag outer one rest)
            ∙ ap (λ entry. Some (
              record {
                stack =
                    stack_after bag outer (shifted_name turns pendings e.name) (first.count + 1) did.task.ts did.done.spawns did.done.sub;
                memory = did.done.memory;
                output = first.output ++ did.done.bytes;
                count = first.count + 1;
              },
              entry,
            )) (told bag one);
        follows = subst (Follows turns front pendings (record {
          stack =
              stack_after bag outer (shifted_name turns pendings e.name) (first.count + 1) did.task.ts did.done.spawns did.done.sub;
          memory = did.done.memory;
          output = first.output ++ did.done.bytes;
          count = first.count + 1;
        })) (sym did.state) (record {
          stack = inner_shifted turns pendings _ _ (stacks bag outer one rest);
          memory = refl;
          output = ap (λ bytes. bytes ++ did.done.bytes) same.output ∙ append_assoc front second.output did.done.bytes;
          count = omega (arith, same.count);
          known =
              known_after pendings did.bag did.outer e.name (second.count + 1) did.task.ts did.done.spawns did.done.sub some known;
        });
      }
        where
          told : (bag : BagValue) → IsShifted turns pendings bag did.bag
              → ◌≡◌ {A = Entry} (record { name = shifted_name turns pendings e.name; depth = bag.depth; ts = did.task.ts }) (shifted_entry turns pendings e)
          told bag one =
              ap (λ (x : BagValue). record { name = shifted_name turns pendings e.name; depth = x.depth; ts = did.task.ts }) one
              ∙ ap (λ (x : Entry). record x { name = shifted_name turns pendings e.name }) (sym did.told)

          stacks : (bag : BagValue) (outer : List BagValue) → IsShifted turns pendings bag did.bag
              → AreShifted turns pendings outer did.outer
              → AreShifted turns pendings
              (stack_after bag outer (shifted_name turns pendings e.name) (first.count + 1) did.task.ts did.done.spawns did.done.sub)
              (stack_after did.bag did.outer e.name (second.count + 1) did.task.ts did.done.spawns did.done.sub)
          stacks bag outer one rest =
              let number : turns + (second.count + 1) ≡ first.count + 1 = omega (arith, same.count) in
              subst
              (λ n. AreShifted turns pendings
              (stack_after bag outer (shifted_name turns pendings e.name) n did.task.ts did.done.spawns did.done.sub)
              (stack_after did.bag did.outer e.name (second.count + 1) did.task.ts did.done.spawns did.done.sub))
              number
              (after_shifted turns pendings saved bag did.bag outer did.outer e.name (second.count + 1) did.task.ts did.done.spawns did.done.sub some named known.0 one rest)

  pub record RunsOn (first : SerialState) (es : List Entry) (last : SerialState) : Type 0 where
    pub after : SerialState
    pub runs : Runs image budget first (map (shifted_entry turns pendings) es) after
    pub follows : Follows turns front pendings after last

  pub runs_followed : (first second : SerialState) (es : List Entry) (last : SerialState)
      → Follows turns front pendings first second
      → Runs (other image initial tasks) budget second es last → RunsOn first es last
  runs_followed first second [] last same done =
      record { after = first; runs = refl; follows = subst (Follows turns front pendings first) done same }
  runs_followed first second (e ∷ es) last same (mid, turned, rest) =
      let one = turn_followed first second mid e same (turn-did (other image initial tasks) budget second mid e.name e turned) in
      let more = runs_followed one.after mid es last one.follows rest in
      record { after = more.after; runs = (one.after, one.turned, more.runs); follows = more.follows }
