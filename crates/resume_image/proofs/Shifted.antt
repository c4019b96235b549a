-- Stacks of bags that are alike but for the names of their tasks, which are shifted.
use Rattle.std.proofs.Common.{◌≡◌, ◌≢◌, refl, sym, ap, ◌∙◌, subst, ℕ, ◌+◌, ◌==◌, ◌&&◌, nat_le, Bool, true, false, not}
use Rattle.std.proofs.Common.{List, [], ◌∷◌, ◌++◌, length, map, Option, Some, None, option_map, if◌then◌else◌, arith}
use Rattle.std.proofs.lemmas.Bool.Decides.{nat_tests}
use Rattle.std.proofs.lemmas.Grind.{common_steps}
use Rattle.std.proofs.lemmas.List.{length-map, map-append}
use Rattle.guest_image.specs.declared.image.Kind.{Kind}
use Rattle.task_desc.specs.declared.desc.Name.{Name}
use Rattle.task_desc.specs.declared.desc.Spawn.{Spawn}
use Rattle.task_desc.specs.declared.desc.Place.{Place}
use Rattle.task_desc.specs.declared.desc.Place.TheVariants.{Same, Sub, Super}
use Rattle.pending_list.specs.declared.task.PendingTask.{PendingTask}
use Rattle.conflict_book.specs.spec_state.declared.pending.Pending.{Pending}
use Rattle.conflict_book.specs.serial_machine.BagValue.{BagValue}
use Rattle.conflict_book.specs.serial_machine.Turn.{child, children, context_in_bag, find_named, inner, is_least}
use Rattle.conflict_book.specs.serial_machine.Turn.{is_named}
use Rattle.conflict_book.specs.serial_machine.Turn.{kind_outside, stack_after, sub_bags, with_super, without_name}
use Rattle.resume_image.specs.Joined.{shifted_name}
use Rattle.resume_image.proofs.Names.{AreSaved, IsKnown, Know, same_name}

module _ (turns : ℕ) (pendings : List Pending) where
  abbrev pub shifted_task : PendingTask → PendingTask
  shifted_task t = record t { name = shifted_name turns pendings t.name }

  -- the first bag is the second one with its tasks' names shifted, whoever made its domain
  abbrev pub IsShifted : BagValue → BagValue → Type 0
  IsShifted a b = a ≡ record b { owner = a.owner; tasks = map shifted_task b.tasks }

  abbrev pub AreShifted : List BagValue → List BagValue → Type 0
  AreShifted [] [] = Unit {0}
  AreShifted (a ∷ xs) (b ∷ ys) = IsShifted a b × AreShifted xs ys
  AreShifted [] (b ∷ ys) = ⊥
  AreShifted (a ∷ xs) [] = ⊥

  -- the bag with this owner and these tasks
  abbrev pub shifted_bag : ℕ → List PendingTask → BagValue → BagValue
  shifted_bag owner tasks b = record b { owner = owner; tasks = tasks }

  module _ (saved : AreSaved turns pendings) where
    pub find_shifted : (name : Name) (tasks : List PendingTask) → IsKnown pendings name → Know pendings tasks
        → find_named (shifted_name turns pendings name) (map shifted_task tasks) ≡ option_map shifted_task (find_named name tasks)
    find_shifted name [] known each = refl
    find_shifted name (t ∷ ts) known each =
        ap (λ b. if b then Some (shifted_task t) else find_named (shifted_name turns pendings name)
        (map shifted_task ts))
        (same_name turns pendings saved name t.name known each.0)
        ∙ go (is_named name t) (find_shifted name ts known each.1)
      where
        go : (b : Bool)
            → find_named (shifted_name turns pendings name) (map shifted_task ts) ≡ option_map shifted_task (find_named name ts)
            → (if b then Some (shifted_task t) else find_named (shifted_name turns pendings name) (map shifted_task ts))
            ≡ option_map shifted_task (if b then Some t else find_named name ts)
        go true rest = refl
        go false rest = rest

    pub without_shifted : (name : Name) (tasks : List PendingTask) → IsKnown pendings name → Know pendings tasks
        → without_name (shifted_name turns pendings name) (map shifted_task tasks)
        ≡ map shifted_task (without_name name tasks)
    without_shifted name [] known each = refl
    without_shifted name (t ∷ ts) known each =
        ap (λ b. if not b then shifted_task t ∷ without_name (shifted_name turns pendings name) (map shifted_task ts) else without_name (shifted_name turns pendings name) (map shifted_task ts))
        (same_name turns pendings saved name t.name known each.0)
        ∙ go (is_named name t) (without_shifted name ts known each.1)
      where
        go : (b : Bool)
            → without_name (shifted_name turns pendings name) (map shifted_task ts) ≡ map shifted_task (without_name name ts)
            → (if not b then shifted_task t ∷ without_name (shifted_name turns pendings name) (map shifted_task ts) else without_name (shifted_name turns pendings name) (map shifted_task ts))
            ≡ map shifted_task (if not b then t ∷ without_name name ts else without_name name ts)
        go true rest = rest
        go false rest = ap (λ r. shifted_task t ∷ r) rest

  pub least_shifted : (ts : ℕ) (tasks : List PendingTask) → is_least ts (map shifted_task tasks) ≡ is_least ts tasks
  least_shifted ts [] = refl
  least_shifted ts (t ∷ rest) = ap (λ b. nat_le ts t.ts && b) (least_shifted ts rest)

  child_shifted : (n : ℕ) (e : ℕ × Spawn) → n ≢ 0 → child (turns + n) e ≡ shifted_task (child n e)
  child_shifted n e some =
      let no : (n == 0) ≡ false = grind (arith, nat_tests, common_steps) in
      rw no refl

  all_shifted : (n : ℕ) (es : List (ℕ × Spawn)) → n ≢ 0
      → map (child (turns + n)) es ≡ map shifted_task (map (child n) es)
  all_shifted n [] some = refl
  all_shifted n (e ∷ es) some =
      ap (λ t. t ∷ map (child (turns + n)) es) (child_shifted n e some)
      ∙ ap (λ ts. shifted_task (child n e) ∷ ts) (all_shifted n es some)

  pub children_shifted : (place : Place) (n : ℕ) (spawns : List Spawn) → n ≢ 0
      → children place (turns + n) spawns ≡ map shifted_task (children place n spawns)
  unfolding children
  children_shifted place n spawns some = all_shifted n _ some

  long_shifted : (a b : BagValue) → IsShifted a b → (length a.tasks == 0) ≡ (length b.tasks == 0)
  long_shifted a b same =
      ap (λ (x : BagValue). length x.tasks == 0) same ∙ ap (λ n. n == 0) (length-map b.tasks shifted_task)

  pub inner_shifted : (xs ys : List BagValue) → AreShifted xs ys → AreShifted (inner xs) (inner ys)
  inner_shifted [] [] same = tt
  inner_shifted [] (b ∷ ys) same = absurd same
  inner_shifted (a ∷ xs) [] same = absurd same
  inner_shifted (a ∷ xs) (b ∷ ys) same =
      go (length a.tasks == 0) (length b.tasks == 0) (long_shifted a b same.0) (inner_shifted xs ys same.1)
    where
      go : (p q : Bool) → p ≡ q → AreShifted (inner xs) (inner ys)
          → AreShifted (if p then inner xs else a ∷ xs) (if q then inner ys else b ∷ ys)
      go true true both rest = rest
      go false false both rest = same
      go true false both rest = cc
      go false true both rest = cc

  sub_shifted : (depth floor o own : ℕ) (tasks plain : List PendingTask) (sub : Option Kind) (xs ys : List BagValue)
      → tasks ≡ map shifted_task plain → AreShifted xs ys
      → AreShifted (sub_bags depth floor o tasks sub ++ xs) (sub_bags depth floor own plain sub ++ ys)
  sub_shifted depth floor o own tasks plain None xs ys same rest = rest
  sub_shifted depth floor o own tasks plain (Some kind) xs ys same rest =
      go (length tasks == 0) (length plain == 0) (ap (λ ts. length ts == 0) same ∙ ap (λ n. n == 0) (length-map plain shifted_task))
    where
      go : (p q : Bool) → p ≡ q
          → AreShifted
          ((if p then [] else record { depth = depth; kind = kind; floor = floor; owner = o; tasks = tasks } ∷ []) ++ xs)
          ((if q then [] else record { depth = depth; kind = kind; floor = floor; owner = own; tasks = plain } ∷ []) ++ ys)
      go true true both = rest
      go false false both =
          (ap (λ ts. record { depth = depth; kind = kind; floor = floor; owner = o; tasks = ts }) same, rest)
      go true false both = cc
      go false true both = cc

  more_shifted : (tasks plain more own : List PendingTask) → tasks ≡ map shifted_task plain
      → more ≡ map shifted_task own
      → tasks ++ more ≡ map shifted_task (plain ++ own)
  more_shifted tasks plain more own same also =
      ap (λ ts. ts ++ more) same ∙ ap (λ ts. map shifted_task plain ++ ts) also
      ∙ sym (map-append shifted_task plain own)

  super_shifted : (tasks plain : List PendingTask) (xs ys : List BagValue) → tasks ≡ map shifted_task plain
      → AreShifted xs ys
      → AreShifted (with_super tasks xs) (with_super plain ys)
  super_shifted tasks plain [] [] also same = tt
  super_shifted tasks plain [] (b ∷ ys) also same = absurd same
  super_shifted tasks plain (a ∷ xs) [] also same = absurd same
  super_shifted tasks plain (a ∷ xs) (b ∷ ys) also same =
      let all : a.tasks ++ tasks ≡ map shifted_task (b.tasks ++ plain) = more_shifted a.tasks b.tasks tasks plain (ap (λ (x : BagValue). x.tasks) same.0) also in (
        ap (λ (x : BagValue). shifted_bag a.owner (a.tasks ++ tasks) x) same.0
            ∙ ap (λ ts. shifted_bag a.owner ts b) all,
        same.1,
      )

  module _ (saved : AreSaved turns pendings) where
    -- the stack after a turn
    pub after_shifted : (a b : BagValue) (xs ys : List BagValue) (name : Name) (n ts : ℕ) (spawns : List Spawn) (sub : Option Kind)
        → n ≢ 0 → IsKnown pendings name → Know pendings b.tasks → IsShifted a b → AreShifted xs ys
        → AreShifted (stack_after a xs (shifted_name turns pendings name) (turns + n) ts spawns sub) (stack_after b ys name n ts spawns sub)
    unfolding stack_after
    after_shifted a b xs ys name n ts spawns sub some known each same rest =
        let here : without_name (shifted_name turns pendings name) a.tasks
        ≡ map shifted_task (without_name name b.tasks) =
        ap (λ (x : BagValue). without_name (shifted_name turns pendings name) x.tasks) same
        ∙ without_shifted saved name b.tasks known each in
        let stay : without_name (shifted_name turns pendings name) a.tasks ++ children Same (turns + n) spawns ≡ map shifted_task (without_name name b.tasks ++ children Same n spawns) =
        more_shifted _ (without_name name b.tasks) _ (children Same n spawns) here
        (children_shifted Same n spawns some) in
        let deep : a.depth ≡ b.depth = ap (λ (x : BagValue). x.depth) same in
        subst
        (λ d. AreShifted
        (sub_bags (d + 1) ts (turns + n) (children Sub (turns + n) spawns) sub
        ++ record a {
          tasks =
              without_name (shifted_name turns pendings name) a.tasks ++ children Same (turns + n) spawns;
        }
        ∷ with_super (children Super (turns + n) spawns) xs)
        (stack_after b ys name n ts spawns sub))
        (sym deep)
        (sub_shifted (b.depth + 1) ts (turns + n) n (children Sub (turns + n) spawns) (children Sub n spawns) sub
        (record a { tasks = without_name (shifted_name turns pendings name) a.tasks ++ children Same (turns + n) spawns } ∷ with_super (children Super (turns + n) spawns) xs)
        (record b { tasks = without_name name b.tasks ++ children Same n spawns } ∷ with_super
        (children Super n spawns) ys)
        (children_shifted Sub n spawns some) (
          ap (λ (x : BagValue). shifted_bag a.owner (without_name (shifted_name turns pendings name) a.tasks ++ children Same (turns + n) spawns) x) same
              ∙ ap (λ ts. shifted_bag a.owner ts b) stay,
          super_shifted (children Super (turns + n) spawns) (children Super n spawns) xs ys (children_shifted Super n spawns some) rest,
        ))

  kinds_shifted : (xs ys : List BagValue) → AreShifted xs ys → kind_outside xs ≡ kind_outside ys
  kinds_shifted [] [] same = refl
  kinds_shifted [] (b ∷ ys) same = absurd same
  kinds_shifted (a ∷ xs) [] same = absurd same
  kinds_shifted (a ∷ xs) (b ∷ ys) same = ap (λ (x : BagValue). Some x.kind) same.0

  pub context_shifted : (version : ℕ) (a b : BagValue) (xs ys : List BagValue) (t : PendingTask) → IsShifted a b
      → AreShifted xs ys
      → context_in_bag version a xs (shifted_task t) ≡ context_in_bag version b ys t
  context_shifted version a b xs ys t same rest =
      ap (λ (x : BagValue). context_in_bag version x xs (shifted_task t)) same
      ∙ ap (λ o. record (context_in_bag version b ys t) { outer = o }) (kinds_shifted xs ys rest)
