-- What stands in the bags before and after a turn.
use Rattle.std.proofs.Common.{◌≡◌, ◌⊎◌, ℕ, zero, suc, ◌+◌, ◌≤◌, ◌==◌, Bool, true, false, not, List, [], ◌∷◌, ◌++◌}
use Rattle.std.proofs.Common.{length, map, filter, Option, Some, None, refl, sym, ap, subst, ◌∙◌, inl, inr, arith}
use Rattle.std.proofs.Common.{slice_get, if◌then◌else◌}
use Rattle.std.specs.List.{enumerate_from}
use Rattle.std.proofs.lemmas.Grind.{common_steps}
use Rattle.std.proofs.lemmas.List.{nil_from_length}
use Rattle.std.proofs.lemmas.Bool.Decides.{nat_tests}
use Rattle.guest_image.specs.declared.image.Kind.{Kind}
use Rattle.task_desc.specs.declared.desc.Name.{Name}
use Rattle.task_desc.specs.declared.desc.Spawn.{Spawn}
use Rattle.task_desc.specs.declared.desc.Place.{Place}
use Rattle.task_desc.specs.declared.desc.Place.TheVariants.{Same, Sub, Super}
use Rattle.pending_list.specs.declared.task.PendingTask.{PendingTask}
use Rattle.run_law.specs.serial_machine.BagValue.{BagValue}
use Rattle.run_law.specs.serial_machine.State.{IsStack}
use Rattle.run_law.proofs.Below.serial_machine.Proved.{children_for}
use Rattle.run_law.specs.serial_machine.Turn.{is_named, without_name, inner, place_number, child, is_for, children}
use Rattle.run_law.specs.serial_machine.Turn.{sub_bags}
use Rattle.run_law.specs.serial_machine.Turn.{with_super, stack_after}
use Rattle.task_law.specs.Tasks.{In, IsChildDepth}
use Rattle.task_law.specs.Commit.{Stands, HaveDomains}

pub In-append_left : {X : Type 0} (x : X) (xs ys : List X) → In x xs → In x (xs ++ ys)
In-append_left x [] ys at = absurd at
In-append_left x (y ∷ xs) ys (inl here) = inl here
In-append_left x (y ∷ xs) ys (inr later) = inr (In-append_left x xs ys later)

pub In-append_right : {X : Type 0} (x : X) (xs ys : List X) → In x ys → In x (xs ++ ys)
In-append_right x [] ys at = at
In-append_right x (y ∷ xs) ys at = inr (In-append_right x xs ys at)

pub In-append_cases : {X : Type 0} (x : X) (xs ys : List X) → In x (xs ++ ys) → In x xs ⊎ In x ys
In-append_cases x [] ys at = inr at
In-append_cases x (y ∷ xs) ys (inl here) = inl (inl here)
In-append_cases x (y ∷ xs) ys (inr later) = elim (In-append_cases x xs ys later) [ inl p ↦ inl (inr p) | inr q ↦ inr q ]

number_same : (p q : Place) → p ≡ q → (place_number q == place_number p) ≡ true
number_same Same Same e = refl
number_same Sub Sub e = refl
number_same Super Super e = refl
number_same Same Sub e = absurd (cc)
number_same Same Super e = absurd (cc)
number_same Sub Same e = absurd (cc)
number_same Sub Super e = absurd (cc)
number_same Super Same e = absurd (cc)
number_same Super Sub e = absurd (cc)

same_number : (p q : Place) → (place_number q == place_number p) ≡ true → p ≡ q
same_number Same Same e = refl
same_number Sub Sub e = refl
same_number Super Super e = refl
same_number Same Sub e = absurd (cc)
same_number Same Super e = absurd (cc)
same_number Sub Same e = absurd (cc)
same_number Sub Super e = absurd (cc)
same_number Super Same e = absurd (cc)
same_number Super Sub e = absurd (cc)

-- the child that one of the spawns for a domain becomes
pub record IsChildFor (place : Place) (n k : ℕ) (spawns : List Spawn) (p : PendingTask) : Type 0 where
  pub index : ℕ
  pub spawn : Spawn
  pub at : slice_get spawns index ≡ Some spawn
  pub place_is : place ≡ spawn.place
  pub is : p ≡ child n (k + index, spawn)

children_for-has : (place : Place) (n k : ℕ) (spawns : List Spawn) (index : ℕ) (s : Spawn)
    → slice_get spawns index ≡ Some s → place ≡ s.place → In (child n (k + index, s)) (children_for place n k spawns)
children_for-has place n k [] index s at same = absurd (cc)
children_for-has place n k (x ∷ spawns) zero s at same =
    let eq : x ≡ s = cc in
    let test : is_for place (k, x) ≡ true = ap (λ z. place_number z.place == place_number place) eq ∙ number_same place s.place same in
    let here : child n (k + 0, s) ≡ child n (k, x) = ap (λ j. child n (j, s)) (let e : k + 0 ≡ k = omega arith in e) ∙ ap (λ z. child n (k, z)) (sym eq) in
    subst (λ b. In (child n (k + 0, s)) (map (child n) (if b then (k, x) ∷ filter (is_for place) (enumerate_from (k + 1) spawns) else filter (is_for place) (enumerate_from (k + 1) spawns)))) (sym test) (inl here)
children_for-has place n k (x ∷ spawns) (suc index) s at same =
    let shift : k + 1 + index ≡ k + suc index = omega arith in
    let later = subst (λ j. In (child n (j, s)) (children_for place n (k + 1) spawns)) shift (children_for-has place n (k + 1) spawns index s at same) in
    by_test (is_for place (k, x)) later
  where
    by_test : (b : Bool) → In (child n (k + suc index, s)) (children_for place n (k + 1) spawns)
        → In (child n (k + suc index, s)) (map (child n) (if b then (k, x) ∷ filter (is_for place) (enumerate_from (k + 1) spawns) else filter (is_for place) (enumerate_from (k + 1) spawns)))
    by_test true later = inr later
    by_test false later = later

children_for-of : (place : Place) (n k : ℕ) (spawns : List Spawn) (p : PendingTask)
    → In p (children_for place n k spawns) → IsChildFor place n k spawns p
children_for-of place n k [] p at = absurd at
children_for-of place n k (x ∷ spawns) p at =
    by_test (is_for place (k, x)) refl at (children_for-of place n (k + 1) spawns p)
  where
    deeper : IsChildFor place n (k + 1) spawns p → IsChildFor place n k (x ∷ spawns) p
    deeper r =
        record {
          index = suc r.index;
          spawn = r.spawn;
          at = r.at;
          place_is = r.place_is;
          is = r.is ∙ ap (λ j. child n (j, r.spawn)) (let e : k + 1 + r.index ≡ k + suc r.index = omega arith in e);
        }

    by_test : (b : Bool) → is_for place (k, x) ≡ b
        → In p (map (child n) (if b then (k, x) ∷ filter (is_for place) (enumerate_from (k + 1) spawns) else filter (is_for place) (enumerate_from (k + 1) spawns)))
        → (In p (children_for place n (k + 1) spawns) → IsChildFor place n (k + 1) spawns p)
        → IsChildFor place n k (x ∷ spawns) p
    by_test true test (inl here) go =
        record {
          index = 0;
          spawn = x;
          at = refl;
          place_is = same_number place x.place test;
          is = here ∙ ap (λ j. child n (j, x)) (let e : k ≡ k + 0 = omega arith in e);
        }
    by_test true test (inr later) go = deeper (go later)
    by_test false test later go = deeper (go later)

-- a spawn is a child for its domain, and the children for a domain are its spawns
pub children-has : (n : ℕ) (spawns : List Spawn) (index : ℕ) (s : Spawn) (place : Place)
    → slice_get spawns index ≡ Some s → place ≡ s.place → In (child n (index, s)) (children place n spawns)
unfolding children
children-has n spawns index s place at same =
    let shift : 0 + index ≡ index = omega arith in
    subst (λ j. In (child n (j, s)) (children_for place n 0 spawns)) shift
    (children_for-has place n 0 spawns index s at same)

pub children-of : (place : Place) (n : ℕ) (spawns : List Spawn) (p : PendingTask) → In p (children place n spawns)
    → IsChildFor place n 0 spawns p
unfolding children
children-of place n spawns p at = children_for-of place n 0 spawns p at

-- a new child of a turn, at its depth
pub record IsNewChild (n depth : ℕ) (spawns : List Spawn) (d : ℕ) (p : PendingTask) : Type 0 where
  pub index : ℕ
  pub spawn : Spawn
  pub at : slice_get spawns index ≡ Some spawn
  pub place : IsChildDepth depth spawn.place d
  pub is : p ≡ child n (index, spawn)

pub new_child : (place : Place) (n depth : ℕ) (spawns : List Spawn) (d : ℕ) (p : PendingTask)
    → IsChildDepth depth place d → In p (children place n spawns) → IsNewChild n depth spawns d p
new_child place n depth spawns d p deep at =
    let kid = children-of place n spawns p at in
    let shift : 0 + kid.index ≡ kid.index = omega arith in
    record {
      index = kid.index;
      spawn = kid.spawn;
      at = kid.at;
      place = subst (λ q. IsChildDepth depth q d) kid.place_is deep;
      is = kid.is ∙ ap (λ j. child n (j, kid.spawn)) shift;
    }

pub without_name-in : (name : Name) (p : PendingTask) (ps : List PendingTask) → In p (without_name name ps)
    → In p ps × (is_named name p ≡ false)
without_name-in name p [] at = absurd at
without_name-in name p (q ∷ ps) at = by_test (is_named name q) refl (without_name-in name p ps) at
  where
    by_test : (b : Bool) → is_named name q ≡ b → (In p (without_name name ps) → In p ps × (is_named name p ≡ false))
        → In p (if not b then q ∷ without_name name ps else without_name name ps)
        → In p (q ∷ ps) × (is_named name p ≡ false)
    by_test true e go at' = let r = go at' in (inr r.0, r.1)
    by_test false e go (inl here) = (inl here, ap (is_named name) here ∙ e)
    by_test false e go (inr later) = let r = go later in (inr r.0, r.1)

pub in-without_name : (name : Name) (p : PendingTask) (ps : List PendingTask) → is_named name p ≡ false → In p ps
    → In p (without_name name ps)
in-without_name name p [] differs at = at
in-without_name name p (q ∷ ps) differs at = by_test (is_named name q) refl (in-without_name name p ps differs) at
  where
    by_test : (b : Bool) → is_named name q ≡ b → (In p ps → In p (without_name name ps)) → In p (q ∷ ps)
        → In p (if not b then q ∷ without_name name ps else without_name name ps)
    by_test true e go (inl here) = absurd (cc (e, ap (is_named name) here, differs))
    by_test true e go (inr later) = go later
    by_test false e go (inl here) = inl here
    by_test false e go (inr later) = inr (go later)

pub Stands-append_cases : (xs ys : List BagValue) (d : ℕ) (p : PendingTask) → Stands (xs ++ ys) d p
    → Stands xs d p ⊎ Stands ys d p
Stands-append_cases [] ys d p at = inr at
Stands-append_cases (x ∷ xs) ys d p (inl here) = inl (inl here)
Stands-append_cases (x ∷ xs) ys d p (inr later) =
    elim (Stands-append_cases xs ys d p later) [ inl a ↦ inl (inr a) | inr b ↦ inr b ]

pub Stands-append_left : (xs ys : List BagValue) (d : ℕ) (p : PendingTask) → Stands xs d p → Stands (xs ++ ys) d p
Stands-append_left [] ys d p at = absurd at
Stands-append_left (x ∷ xs) ys d p (inl here) = inl here
Stands-append_left (x ∷ xs) ys d p (inr later) = inr (Stands-append_left xs ys d p later)

pub Stands-append_right : (xs ys : List BagValue) (d : ℕ) (p : PendingTask) → Stands ys d p → Stands (xs ++ ys) d p
Stands-append_right [] ys d p at = at
Stands-append_right (x ∷ xs) ys d p at = inr (Stands-append_right xs ys d p at)

-- emptied bags hold nothing
pub nothing_in : (p : PendingTask) (tasks : List PendingTask) → (length tasks == 0) ≡ true → In p tasks → ⊥
nothing_in p tasks e at =
    let z : tasks ≡ [] = grind (arith, nat_tests, common_steps, nil_from_length) in subst (In p) z at

pub Stands-inner : (stack : List BagValue) (d : ℕ) (p : PendingTask) → Stands stack d p → Stands (inner stack) d p
Stands-inner [] d p at = at
Stands-inner (bag ∷ outer) d p at = by_test (length bag.tasks == 0) refl (Stands-inner outer d p) at
  where
    by_test : (b : Bool) → (length bag.tasks == 0) ≡ b → (Stands outer d p → Stands (inner outer) d p)
        → Stands (bag ∷ outer) d p → Stands (if b then inner outer else bag ∷ outer) d p
    by_test true e go (inl here) = absurd (nothing_in p bag.tasks e here.1)
    by_test true e go (inr later) = go later
    by_test false e go at' = at'

pub inner-Stands : (stack : List BagValue) (d : ℕ) (p : PendingTask) → Stands (inner stack) d p → Stands stack d p
inner-Stands [] d p at = at
inner-Stands (bag ∷ outer) d p at = by_test (length bag.tasks == 0) (inner-Stands outer d p) at
  where
    by_test : (b : Bool) → (Stands (inner outer) d p → Stands outer d p)
        → Stands (if b then inner outer else bag ∷ outer) d p → Stands (bag ∷ outer) d p
    by_test true go at' = inr (go at')
    by_test false go at' = at'

-- no bag is deeper than the stack is long
pub shallow : (stack : List BagValue) (d : ℕ) (p : PendingTask) → IsStack stack → Stands stack d p → d ≤ length stack
shallow [] d p is at = absurd at
shallow (bag ∷ outer) d p is (inl here) = omega (arith, is.0, here.0)
shallow (bag ∷ outer) d p is (inr later) = let less = shallow outer d p is.2 later in omega (arith, less)

-- a new subdomain's bag
sub-of : (depth floor owner : ℕ) (tasks : List PendingTask) (sub : Option Kind) (d : ℕ) (p : PendingTask)
    → Stands (sub_bags depth floor owner tasks sub) d p → (d ≡ depth) × In p tasks
sub-of depth floor owner tasks None d p at = absurd at
sub-of depth floor owner tasks (Some kind) d p at = by_test (length tasks == 0) at
  where
    by_test : (b : Bool)
        → Stands (if b then [] else record { depth = depth; kind = kind; floor = floor; owner = owner; tasks = tasks } ∷ []) d p
        → (d ≡ depth) × In p tasks
    by_test true at' = absurd at'
    by_test false (inl here) = (sym here.0, here.1)
    by_test false (inr nothing) = absurd nothing

sub-has : (depth floor owner : ℕ) (tasks : List PendingTask) (kind : Kind) (p : PendingTask) → In p tasks
    → Stands (sub_bags depth floor owner tasks (Some kind)) depth p
sub-has depth floor owner tasks kind p at = by_test (length tasks == 0) refl
  where
    by_test : (b : Bool) → (length tasks == 0) ≡ b
        → Stands (if b then [] else record { depth = depth; kind = kind; floor = floor; owner = owner; tasks = tasks } ∷ []) depth p
    by_test true e = absurd (nothing_in p tasks e at)
    by_test false e = inl (refl, at)

-- the superdomain's bag with further tasks
super-of : (tasks : List PendingTask) (outer : List BagValue) (d : ℕ) (p : PendingTask) → IsStack outer
    → Stands (with_super tasks outer) d p → Stands outer d p ⊎ ((d ≡ length outer) × In p tasks)
super-of tasks [] d p is at = absurd at
super-of tasks (bag ∷ outer) d p is (inl here) = elim (In-append_cases p bag.tasks tasks here.1) [
  | inl was ↦ inl (inl (here.0, was))
  | inr more ↦ inr ((let e : d ≡ suc (length outer) = omega (arith, here.0, is.0) in e), more)
]
super-of tasks (bag ∷ outer) d p is (inr later) = inl (inr later)

super-was : (tasks : List PendingTask) (outer : List BagValue) (d : ℕ) (p : PendingTask) → Stands outer d p
    → Stands (with_super tasks outer) d p
super-was tasks [] d p at = at
super-was tasks (bag ∷ outer) d p (inl here) = inl (here.0, In-append_left p bag.tasks tasks here.1)
super-was tasks (bag ∷ outer) d p (inr later) = inr later

super-has : (tasks : List PendingTask) (outer : List BagValue) (d : ℕ) (p : PendingTask) → IsStack outer
    → d ≡ length outer → 1 ≤ length outer → In p tasks → Stands (with_super tasks outer) d p
super-has tasks [] d p is deep some at = absurd (omega (arith, some))
super-has tasks (bag ∷ outer) d p is deep some at =
    inl ((let e : bag.depth ≡ d = omega (arith, is.0, deep) in e), In-append_right p bag.tasks tasks at)

-- what stands after a turn: what stood before it but for the task, and the new children
abbrev pub Freed : (ℕ → PendingTask → Type 0) → ℕ → ℕ → Name → List Spawn → ℕ → PendingTask → Type 0
Freed free n depth name spawns d p = (free d p × (is_named name p ≡ false)) ⊎ IsNewChild n depth spawns d p

module _ (bag : BagValue) (outer : List BagValue) (name : Name) (n ts : ℕ) (spawns : List Spawn) (sub : Option Kind) (is : IsStack (bag ∷ outer)) (unique : (d : ℕ) (p : PendingTask) → Stands outer d p → is_named name p ≡ false) where
  pub after-stands : (d : ℕ) (p : PendingTask) → Stands (stack_after bag outer name n ts spawns sub) d p
      → Freed (Stands (bag ∷ outer)) n bag.depth name spawns d p
  unfolding stack_after
  after-stands d p at =
      by_part (Stands-append_cases (sub_bags (bag.depth + 1) ts n (children Sub n spawns) sub) _ d p at)
    where
      by_part : Stands (sub_bags (bag.depth + 1) ts n (children Sub n spawns) sub) d p ⊎ Stands (record bag { tasks = without_name name bag.tasks ++ children Same n spawns } ∷ with_super (children Super n spawns) outer) d p
          → Freed (Stands (bag ∷ outer)) n bag.depth name spawns d p
      by_part (inl deeper) =
          let kid = sub-of (bag.depth + 1) ts n (children Sub n spawns) sub d p deeper in
          inr (new_child Sub n bag.depth spawns d p kid.0 kid.1)
      by_part (inr (inl here)) =
          elim (In-append_cases p (without_name name bag.tasks) (children Same n spawns) here.1) [
            | inl was ↦ (let both = without_name-in name p bag.tasks was in inl (inl (here.0, both.0), both.1))
            | inr kid ↦ inr (new_child Same n bag.depth spawns d p (sym here.0) kid)
          ]
      by_part (inr (inr lower)) = elim (super-of (children Super n spawns) outer d p is.2 lower) [
        | inl was ↦ inl (inr was, unique d p was)
        | inr kid ↦ inr (new_child Super n bag.depth spawns d p (omega (arith, is.0, kid.0)) kid.1)
      ]

  pub stands-after : HaveDomains bag.depth sub spawns → (d : ℕ) (p : PendingTask)
      → Freed (Stands (bag ∷ outer)) n bag.depth name spawns d p
      → Stands (stack_after bag outer name n ts spawns sub) d p
  unfolding stack_after
  stands-after have d p (inl (inl here, differs)) =
      Stands-append_right (sub_bags (bag.depth + 1) ts n (children Sub n spawns) sub) _ d p (inl (here.0, In-append_left p (without_name name bag.tasks) (children Same n spawns) (in-without_name name p bag.tasks differs here.1)))
  stands-after have d p (inl (inr later, differs)) =
      Stands-append_right (sub_bags (bag.depth + 1) ts n (children Sub n spawns) sub) _ d p (inr (super-was (children Super n spawns) outer d p later))
  stands-after have d p (inr kid) = by_place kid.spawn.place refl kid.place
    where
      by_place : (place : Place) → kid.spawn.place ≡ place → IsChildDepth bag.depth place d
          → Stands (sub_bags (bag.depth + 1) ts n (children Sub n spawns) sub ++ record bag { tasks = without_name name bag.tasks ++ children Same n spawns } ∷ with_super (children Super n spawns) outer) d p
      by_place Same e deep =
          let at : In p (children Same n spawns) = subst (λ q. In q (children Same n spawns)) (sym kid.is) (children-has n spawns kid.index kid.spawn Same kid.at (sym e)) in
          Stands-append_right (sub_bags (bag.depth + 1) ts n (children Sub n spawns) sub) _ d p (inl (sym deep, In-append_right p (without_name name bag.tasks) (children Same n spawns) at))
      by_place Sub e deep =
          let at : In p (children Sub n spawns) = subst (λ q. In q (children Sub n spawns)) (sym kid.is) (children-has n spawns kid.index kid.spawn Sub kid.at (sym e)) in
          let kind = have.inside kid.index kid.spawn kid.at e in
          let here : Stands (sub_bags (bag.depth + 1) ts n (children Sub n spawns) (Some kind.0)) (bag.depth + 1) p = sub-has (bag.depth + 1) ts n (children Sub n spawns) kind.0 p at in
          let here' : Stands (sub_bags (bag.depth + 1) ts n (children Sub n spawns) sub) d p = subst (λ j. Stands (sub_bags (bag.depth + 1) ts n (children Sub n spawns) sub) j p) (sym deep) (subst (λ s. Stands (sub_bags (bag.depth + 1) ts n (children Sub n spawns) s) (bag.depth + 1) p) (sym kind.1) here) in
          Stands-append_left (sub_bags (bag.depth + 1) ts n (children Sub n spawns) sub) _ d p here'
      by_place Super e deep =
          let at : In p (children Super n spawns) = subst (λ q. In q (children Super n spawns)) (sym kid.is) (children-has n spawns kid.index kid.spawn Super kid.at (sym e)) in
          let two = have.outside kid.index kid.spawn kid.at e in
          Stands-append_right (sub_bags (bag.depth + 1) ts n (children Sub n spawns) sub) _ d p (inr (super-has (children Super n spawns) outer d p is.2 (omega (arith, is.0, deep)) (omega (arith, is.0, two)) at))
