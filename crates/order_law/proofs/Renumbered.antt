-- Renumbering keeps every comparison, every path and the order of the tasks.
use Rattle.std.proofs.Common.{◌≡◌, ℕ, ◌<◌, Bool, List, [], ◌∷◌, ◌++◌, length, Option, Some, None, map, option_map, refl}
use Rattle.std.proofs.Common.{sym, ap, subst, ◌∙◌, inl, inr, arith}
use Rattle.std.proofs.lemmas.List.{length-map, map-append}
use Rattle.std.specs.List.{AllByRecursion, AllZip, Contains}
use Rattle.std.specs.Option.{IfSome}
use Rattle.std.specs.Ordering.{nat_cmp, ordering_then}
use Rattle.std.specs.FinMap.{nat_cmp-IsAntisymmetric}
use Rattle.std.specs.declared.cmp.Ordering.{Ordering}
use Rattle.std.specs.Cmp.Lexicographic.{slice_cmp}
use Rattle.fractal_vt.specs.Levels.{Open, tie_cmp, level_cmp, levels_cmp}
use Rattle.fractal_vt.specs.Paths.{OnPath}
use Rattle.fractal_vt.specs.declared.vt.TheConstants.{MAX_LEVELS}
use Rattle.order_law.specs.Tasks.{Keyed, levels_of, HasNumber, IsTimely, Kin}
use Rattle.order_law.specs.Ordered.{TieBelow, LevelsBelow, IsNumberOf, NumbersDiffer, HasCreator, IsShaped, IsOrdered}
use Rattle.fractal_vt.specs.Renumbered.{place_in, with_number}
use Rattle.fractal_vt.proofs.Proved.{place_cmp, place_within, same_number as ties_itself}
use Rattle.order_law.specs.Renumber.{new_task, renumbered_keyed_tasks, LevelsIn, IsTableOf}

-- for any elements and any order
module _ {X : Type 0} (R : X → X → Ordering) (g : X → X) (Ok : X → Type 0) (alike : (x y : X) → Ok x → Ok y → R (g x) (g y) ≡ R x y) where
  pub cmp_map : (xs ys : List X) → AllByRecursion Ok xs → AllByRecursion Ok ys
      → slice_cmp R (map g xs) (map g ys) ≡ slice_cmp R xs ys
  cmp_map [] [] one two = refl
  cmp_map [] (y ∷ ys) one two = refl
  cmp_map (x ∷ xs) [] one two = refl
  cmp_map (x ∷ xs) (y ∷ ys) one two =
      ap (λ o. ordering_then o (slice_cmp R (map g xs) (map g ys))) (alike x y one.0 two.0)
      ∙ ap (ordering_then (R x y)) (cmp_map xs ys one.1 two.1)

  pub path_map : (path ds : List X) (l : X) → AllByRecursion Ok path → Ok l → OnPath R path ds l
      → OnPath R (map g path) (map g ds) (g l)
  path_map [] [] l one ok on = tt
  path_map (p ∷ path) [] l one ok on = alike p l one.0 ok ∙ on
  path_map [] (d ∷ ds) l one ok on = absurd on
  path_map (p ∷ path) (d ∷ ds) l one ok on = (ap g on.0, path_map path ds l one.1 ok on.1)

each_front : {X : Type 0} (Ok : X → Type 0) (xs : List X) (y : X) → AllByRecursion Ok (xs ++ y ∷ [])
    → AllByRecursion Ok xs × Ok y
each_front Ok [] y each = (tt, each.0)
each_front Ok (x ∷ xs) y each = let rest = each_front Ok xs y each.1 in ((each.0, rest.0), rest.1)

timely_mapped : (f : ℕ → ℕ) (kinds : List Bool) (xs : List Open) → AllZip IsTimely kinds xs
    → AllZip IsTimely kinds (map (with_number f) xs)
timely_mapped f [] [] all = tt
timely_mapped f [] (x ∷ xs) all = absurd all
timely_mapped f (k ∷ kinds) [] all = absurd all
timely_mapped f (k ∷ kinds) (x ∷ xs) all = (all.0, timely_mapped f kinds xs all.1)

-- numbers in use keep their order, and come below this one
pub record KeepsPlaces (used : ℕ → Type 0) (f : ℕ → ℕ) (next : ℕ) : Type 0 where
  pub alike : (a b : ℕ) → used a → used b → nat_cmp (f a) (f b) ≡ nat_cmp a b
  pub below : (a : ℕ) → used a → f a < next

module _ (used : ℕ → Type 0) (f : ℕ → ℕ) (next next' : ℕ) (keeps : KeepsPlaces used f next') where
  tie_alike : (s t : Option ℕ) → IfSome s used → IfSome t used → tie_cmp (option_map f s) (option_map f t) ≡ tie_cmp s t
  tie_alike None None a b = refl
  tie_alike None (Some n) a b = refl
  tie_alike (Some m) None a b = refl
  tie_alike (Some m) (Some n) a b = keeps.alike m n a b

  level_alike : (l m : Open) → IfSome l.tb used → IfSome m.tb used
      → level_cmp (with_number f l) (with_number f m) ≡ level_cmp l m
  level_alike l m a b = ap (ordering_then (nat_cmp l.ts m.ts)) (tie_alike l.tb m.tb a b)

  pub renumber_cmp : (xs ys : List Open) → LevelsIn used xs → LevelsIn used ys
      → levels_cmp (map (with_number f) xs) (map (with_number f) ys) ≡ levels_cmp xs ys
  renumber_cmp = cmp_map level_cmp (with_number f) (λ l. IfSome l.tb used) level_alike

  levels_new : (task : Keyed) → levels_of (new_task f task) ≡ map (with_number f) (levels_of task)
  levels_new task = sym (map-append (with_number f) task.domain (task.last ∷ []))

  same_number : (a b : ℕ) → used a → used b → f a ≡ f b → a ≡ b
  same_number a b in_a in_b same =
      nat_cmp-IsAntisymmetric a b (sym (keeps.alike a b in_a in_b) ∙ ap (λ n. nat_cmp n (f b)) same ∙ ties_itself (f b))

  all_below : (xs : List Open) → LevelsBelow next xs → LevelsIn used xs → LevelsBelow next' (map (with_number f) xs)
  all_below [] below each = tt
  all_below (x ∷ xs) below each = (tie x.tb below.0 each.0, all_below xs below.1 each.1)
    where
      tie : (t : Option ℕ) → TieBelow next t → IfSome t used → TieBelow next' (option_map f t)
      tie None no_way ok = absurd no_way
      tie (Some n) low ok = keeps.below n ok

  -- a new number is that of a level with the old one
  tie_before : (t : Option ℕ) (n : ℕ) → IfSome t used → option_map f t ≡ Some n
      → (m : ℕ) × (t ≡ Some m) × used m × (n ≡ f m)
  tie_before None n ok e = absurd (cc (e))
  tie_before (Some m) n ok e = let eq : f m ≡ n = cc in (m, refl, ok, sym eq)

  number_before : (xs : List Open) (n : ℕ) → LevelsIn used xs → IsNumberOf n (map (with_number f) xs)
      → (m : ℕ) × IsNumberOf m xs × used m × (n ≡ f m)
  number_before [] n each no_way = absurd no_way
  number_before (x ∷ xs) n each (inl here) = let was = tie_before x.tb n each.0 here in (was.0, inl was.1, was.2, was.3)
  number_before (x ∷ xs) n each (inr later) =
      let was = number_before xs n each.1 later in (was.0, inr was.1, was.2, was.3)

  all_differ : (xs : List Open) → LevelsIn used xs → NumbersDiffer xs → NumbersDiffer (map (with_number f) xs)
  all_differ [] each differ = tt
  all_differ (x ∷ xs) each differ = (
    λ n is later.
        (let own = tie_before x.tb n each.0 is in
        let other = number_before xs n each.1 later in
        let same : own.0 ≡ other.0 = same_number own.0 other.0 own.2 other.2 (sym own.3 ∙ other.3) in
        differ.0 other.0 (own.1 ∙ ap Some same) other.1),
    all_differ xs each.1 differ.1,
  )

  module _ (tasks : ℕ → Option Keyed) (path : List Open) (in_path : LevelsIn used path) (in_tasks : (id : ℕ) (task : Keyed) → tasks id ≡ Some task → LevelsIn used (levels_of task)) (ordered : IsOrdered tasks path next) where
    in_domains : (id : ℕ) (task : Keyed) → tasks id ≡ Some task → LevelsIn used task.domain × IfSome task.last.tb used
    in_domains id task at = each_front (λ l. IfSome l.tb used) task.domain task.last (in_tasks id task at)

    which : (id : ℕ) (x : Keyed) → option_map (new_task f) (tasks id) ≡ Some x
        → (y : Keyed) × (tasks id ≡ Some y) × (x ≡ new_task f y)
    which id x at = by_slot (tasks id) refl at
      where
        by_slot : (o : Option Keyed) → tasks id ≡ o → option_map (new_task f) o ≡ Some x
            → (y : Keyed) × (tasks id ≡ Some y) × (x ≡ new_task f y)
        by_slot None was is = absurd (cc (is))
        by_slot (Some y) was is = let eq : new_task f y ≡ x = cc in (y, was, sym eq)

    number_of : (id : ℕ) (x y : Keyed) (n : ℕ) → tasks id ≡ Some y → x ≡ new_task f y → HasNumber x n
        → (m : ℕ) × HasNumber y m × used m × (n ≡ f m)
    number_of id x y n was is has = tie_before y.last.tb n (in_domains id y was).1 (sym (ap (λ z. z.last.tb) is) ∙ has)

    new_kin : (c x : Keyed) → Kin c x → Kin (new_task f c) (new_task f x)
    new_kin c x (inl same) = inl (ap (map (with_number f)) same.0, same.1, same.2)
    new_kin c x (inr (inl sub)) =
        inr (inl (ap (map (with_number f)) sub.0 ∙ map-append (with_number f) c.domain (c.last ∷ []), sub.1))
    new_kin c x (inr (inr super)) =
        inr (inr (with_number f super.0, (ap (map (with_number f)) super.1.0 ∙ map-append (with_number f) x.domain (super.0 ∷ []), super.1.1)))

    new_creator : (c : ℕ) (id : ℕ) (y : Keyed) → tasks id ≡ Some y → HasCreator tasks c y
        → HasCreator (renumbered_keyed_tasks f tasks) c (new_task f y)
    new_creator c id y was has =
        record {
          task = new_task f has.task;
          there = ap (option_map (new_task f)) has.there;
          number = f has.number;
          dispatched = ap (option_map f) has.dispatched;
          below =
              ap (λ ls. levels_cmp ls (levels_of (new_task f y))) (levels_new has.task)
              ∙ ap (levels_cmp (map (with_number f) (levels_of has.task))) (levels_new y)
              ∙ renumber_cmp (levels_of has.task) (levels_of y) (in_tasks c has.task has.there) (in_tasks id y was)
              ∙ has.below;
          kin = new_kin has.task y has.kin;
        }

    pub renumber_keeps_order : IsOrdered (renumbered_keyed_tasks f tasks) (map (with_number f) path) next'
    renumber_keeps_order =
        record {
          path_short =
              (let same = length-map path (with_number f) in let short = ordered.path_short in omega (arith, same, short));
          path_numbers = all_below path ordered.path_numbers in_path;
          path_differs = all_differ path in_path ordered.path_differs;
          off_path = λ id x n at has on.
              (let w = which id x at in
              let m = number_of id x w.0 n w.1 w.2 has in
              let m' = number_before path n in_path on in
              let same : m.0 ≡ m'.0 = same_number m.0 m'.0 m.2 m'.2 (sym m.3 ∙ m'.3) in
              ordered.off_path id w.0 m'.0 w.1 (m.1 ∙ ap Some same) m'.1);
          shaped = λ id x at.
              (let w = which id x at in
              let was = ordered.shaped id w.0 w.1 in
              subst IsShaped (sym w.2) (subst (λ n. n < MAX_LEVELS) (sym (length-map w.0.domain (with_number f))) was.0, timely_mapped f w.0.kinds w.0.domain was.1, was.2));
          domain_numbers =
              λ id x at. (let w = which id x at in subst (λ z. LevelsBelow next' z.domain) (sym w.2) (all_below w.0.domain (ordered.domain_numbers id w.0 w.1) (in_domains id w.0 w.1).0));
          number_below =
              λ id x n at has. (let w = which id x at in let m = number_of id x w.0 n w.1 w.2 has in subst (λ k. k < next') (sym m.3) (keeps.below m.0 m.2));
          numbers_differ = λ a b x y n at at' has has'.
              (let w = which a x at in
              let w' = which b y at' in
              let m = number_of a x w.0 n w.1 w.2 has in
              let m' = number_of b y w'.0 n w'.1 w'.2 has' in
              let same : m.0 ≡ m'.0 = same_number m.0 m'.0 m.2 m'.2 (sym m.3 ∙ m'.3) in
              ordered.numbers_differ a b w.0 w'.0 m'.0 w.1 w'.1 (m.1 ∙ ap Some same) m'.1);
          creators = λ id x c at parent.
              (let w = which id x at in
              subst (HasCreator (renumbered_keyed_tasks f tasks) c) (sym w.2) (new_creator c id w.0 w.1 (ordered.creators id w.0 c w.1 (sym (ap (λ z. z.creator) w.2) ∙ parent))));
          on_path = λ id x at parent.
              (let w = which id x at in
              subst (λ z. OnPath level_cmp (map (with_number f) path) z.domain z.last) (sym w.2)
              (path_map level_cmp (with_number f) (λ l. IfSome l.tb used) level_alike path w.0.domain w.0.last in_path (in_domains id w.0 w.1).1 (ordered.on_path id w.0 w.1 (sym (ap (λ z. z.creator) w.2) ∙ parent))));
        }

-- the places of a table
pub table_keeps_order : (table : List ℕ) → KeepsPlaces (Contains table) (place_in table) (length table)
table_keeps_order table = record { alike = place_cmp table; below = place_within table }

pub renumber_law : (table : List ℕ) (tasks : ℕ → Option Keyed) (path : List Open) (next : ℕ)
    → IsTableOf table tasks path → IsOrdered tasks path next
    → IsOrdered (renumbered_keyed_tasks (place_in table) tasks) (map (with_number (place_in table)) path) (length table)
renumber_law table tasks path next is ordered =
    renumber_keeps_order (Contains table) (place_in table) next (length table) (table_keeps_order table) tasks path is.of_path is.of_tasks ordered
