-- The domains of free tasks are those of the bags, before and after a turn.
use Rattle.std.proofs.Common.{◌≡◌, ℕ, suc, ◌+◌, ◌≤◌, ◌==◌, Bool, true, false, List, [], ◌∷◌, ◌++◌, length, map, Option}
use Rattle.std.proofs.Common.{Some, None, refl, sym, ap, subst, ◌∙◌, inl, inr, arith, slice_get, if◌then◌else◌}
use Rattle.std.proofs.lemmas.List.{length-map}
use Rattle.guest_image.specs.declared.image.Kind.{Kind}
use Rattle.task_desc.specs.declared.desc.Ctx.{Ctx}
use Rattle.task_desc.specs.declared.desc.Spawn.{Spawn}
use Rattle.task_desc.specs.declared.desc.Place.{Place}
use Rattle.task_desc.specs.declared.desc.Place.TheVariants.{Same, Sub, Super}
use Rattle.pending_list.specs.declared.task.PendingTask.{PendingTask}
use Rattle.run_law.specs.serial_machine.BagValue.{BagValue}
use Rattle.run_law.specs.serial_machine.State.{IsStack}
use Rattle.run_law.specs.serial_machine.Turn.{inner, without_name, child, children, sub_bags, with_super, stack_after}
use Rattle.run_law.specs.serial_machine.Turn.{kind_outside}
use Rattle.run_law.proofs.Below.serial_machine.Proved.{IsStack-inner}
use Rattle.task_law.specs.Tasks.{In}
use Rattle.task_law.specs.Commit.{HasTurn, HaveDomains}
use Rattle.task_law.specs.Domains.{Domain, domain_of, FitsBags, first_kind, ContextFits, ChildDomains, TurnKeepsDomains}
use Rattle.task_law.proofs.Bags.{children-has, nothing_in}

length-domains : (stack : List BagValue) → length (map domain_of stack) ≡ length stack
length-domains stack = length-map stack domain_of

-- there are no more domains than bags
fits_short : (ds : List Domain) (stack : List BagValue) → FitsBags ds stack → length ds ≤ length stack
fits_short ds [] fits = absurd fits
fits_short ds (bag ∷ outer) (inl all) =
    let e : length ds ≡ suc (length outer) = ap length all ∙ length-domains (bag ∷ outer) in omega (arith, e)
fits_short ds (bag ∷ outer) (inr later) = let less = fits_short ds outer later in omega (arith, less)

inner_short : (stack : List BagValue) → length (inner stack) ≤ length stack
inner_short [] = omega arith
inner_short (bag ∷ outer) = by_test (length bag.tasks == 0) (inner_short outer)
  where
    by_test : (b : Bool) → length (inner outer) ≤ length outer
        → length (if b then inner outer else bag ∷ outer) ≤ suc (length outer)
    by_test true less = omega (arith, less)
    by_test false less = omega arith

-- they fit still without the emptied bags, which are deeper than all of them
fits_inner : (ds : List Domain) (stack : List BagValue) → FitsBags ds stack → length ds ≤ length (inner stack)
    → FitsBags ds (inner stack)
fits_inner ds [] fits low = fits
fits_inner ds (bag ∷ outer) fits low = by_test (length bag.tasks == 0) (fits_inner ds outer) fits low
  where
    by_test : (b : Bool) → (FitsBags ds outer → length ds ≤ length (inner outer) → FitsBags ds (inner outer))
        → FitsBags ds (bag ∷ outer)
        → length ds ≤ length (if b then inner outer else bag ∷ outer)
        → FitsBags ds (if b then inner outer else bag ∷ outer)
    by_test true go (inl all) low' =
        let e : length ds ≡ suc (length outer) = ap length all ∙ length-domains (bag ∷ outer) in
        let less = inner_short outer in
        absurd (omega (arith, e, less, low'))
    by_test true go (inr later) low' = go later low'
    by_test false go fits' low' = fits'

-- as many domains as bags are all of them
fits_all : (ds : List Domain) (bag : BagValue) (outer : List BagValue) → FitsBags ds (bag ∷ outer)
    → length ds ≡ suc (length outer) → ds ≡ map domain_of (bag ∷ outer)
fits_all ds bag outer (inl all) long = all
fits_all ds bag outer (inr later) long = let less = fits_short ds outer later in absurd (omega (arith, less, long))

fits_append : (ds : List Domain) (xs ys : List BagValue) → FitsBags ds ys → FitsBags ds (xs ++ ys)
fits_append ds [] ys fits = fits
fits_append ds (x ∷ xs) ys fits = inr (fits_append ds xs ys fits)

domains-with_super : (tasks : List PendingTask) (outer : List BagValue)
    → map domain_of (with_super tasks outer) ≡ map domain_of outer
domains-with_super tasks [] = refl
domains-with_super tasks (bag ∷ outer) = refl

fits_super : (ds : List Domain) (tasks : List PendingTask) (outer : List BagValue) → FitsBags ds outer
    → FitsBags ds (with_super tasks outer)
fits_super ds tasks [] fits = fits
fits_super ds tasks (bag ∷ outer) fits = fits

-- the bag of the turn, and the domains of its task
module _ (stack : List BagValue) (task : PendingTask) (own : List Domain) (depth : ℕ) (is : IsStack stack) (fits : FitsBags own stack) (long : length own ≡ depth) (next : HasTurn stack depth task) where
  falls : IsStack (next.bag ∷ next.outer)
  falls = subst IsStack next.may.top (IsStack-inner stack is)

  size : depth ≡ suc (length next.outer)
  size = let deep = next.deep in omega (arith, falls.0, deep)

  fits_turn : (ds : List Domain) → length ds ≤ depth → FitsBags ds stack → FitsBags ds (next.bag ∷ next.outer)
  fits_turn ds low fits' =
      let bags : length (inner stack) ≡ suc (length next.outer) = ap length next.may.top in
      let less : length ds ≤ length (inner stack) = omega (arith, low, size, bags) in
      subst (FitsBags ds) next.may.top (fits_inner ds stack fits' less)

  own_is : own ≡ map domain_of (next.bag ∷ next.outer)
  own_is = fits_all own next.bag next.outer (fits_turn own (omega (arith, long)) fits) (long ∙ size)

  module _ (n : ℕ) (spawns : List Spawn) (sub : Option Kind) (have : HaveDomains depth sub spawns) where
    abbrev rest : List BagValue
    rest =
        record next.bag { tasks = without_name task.name next.bag.tasks ++ children Same n spawns } ∷ with_super (children Super n spawns) next.outer

    rest_is : own ≡ map domain_of rest
    rest_is =
        own_is ∙ ap (λ ds. domain_of next.bag ∷ ds) (sym (domains-with_super (children Super n spawns) next.outer))

    others : (ds : List Domain) → length ds ≤ depth → FitsBags ds stack
        → FitsBags ds (stack_after next.bag next.outer task.name n task.ts spawns sub)
    unfolding stack_after
    others ds low fits' =
        fits_append ds (sub_bags (next.bag.depth + 1) task.ts n (children Sub n spawns) sub) rest (by_bag (fits_turn ds low fits'))
      where
        by_bag : FitsBags ds (next.bag ∷ next.outer) → FitsBags ds rest
        by_bag (inl all) =
            inl (all ∙ ap (λ ds. domain_of next.bag ∷ ds) (sym (domains-with_super (children Super n spawns) next.outer)))
        by_bag (inr later) = inr (fits_super ds (children Super n spawns) next.outer later)

    -- the bag of the subdomain, if there is a new one
    abbrev News : Option Kind → List BagValue
    News s = sub_bags (next.bag.depth + 1) task.ts n (children Sub n spawns) s

    -- that bag, where it has a child
    deeper : (kind : Kind) (tasks : List PendingTask) (p : PendingTask) → In p tasks
        → FitsBags (record { kind = kind; floor = task.ts } ∷ own) (sub_bags (next.bag.depth + 1) task.ts n tasks (Some kind) ++ rest)
    deeper kind tasks p at = by_test (length tasks == 0) refl
      where
        by_test : (b : Bool) → (length tasks == 0) ≡ b
            → FitsBags (record { kind = kind; floor = task.ts } ∷ own) ((if b then [] else record { depth = next.bag.depth + 1; kind = kind; floor = task.ts; owner = n; tasks = tasks } ∷ []) ++ rest)
        by_test true e = absurd (nothing_in p tasks e at)
        by_test false e = inl (ap (λ ds. record { kind = kind; floor = task.ts } ∷ ds) rest_is)

    outside : (ds : List Domain) (d : Domain) (outer : List BagValue) → own ≡ d ∷ ds
        → own ≡ domain_of next.bag ∷ map domain_of outer → 1 ≤ length outer → FitsBags ds outer
    outside ds d [] e f some = absurd (omega (arith, some))
    outside ds d (b ∷ bs) e f some =
        let both : d ∷ ds ≡ domain_of next.bag ∷ map domain_of (b ∷ bs) = sym e ∙ f in
        let same : ds ≡ map domain_of (b ∷ bs) = cc in
        inl same

    all_children : (index : ℕ) (spawn : Spawn) (ds : List Domain) → slice_get spawns index ≡ Some spawn
        → ChildDomains own task.ts sub spawn.place ds
        → FitsBags ds (stack_after next.bag next.outer task.name n task.ts spawns sub)
    unfolding stack_after
    all_children index spawn ds at domains = by_place spawn.place refl domains
      where
        by_place : (place : Place) → spawn.place ≡ place → ChildDomains own task.ts sub place ds
            → FitsBags ds (News sub ++ rest)
        by_place Same e same = fits_append ds (News sub) rest (inl (same ∙ rest_is))
        by_place Sub e more =
            let p : PendingTask = child n (index, spawn) in
            let here = deeper more.0 (children Sub n spawns) p (children-has n spawns index spawn Sub at (sym e)) in
            subst (λ s. FitsBags ds (News s ++ rest)) (sym more.1) (subst (λ z. FitsBags z (News (Some more.0) ++ rest)) (sym more.2) here)
        by_place Super e less =
            let two = have.outside index spawn at e in
            fits_append ds (News sub) rest (inr (fits_super ds (children Super n spawns) next.outer (outside ds less.0 next.outer less.1 own_is (omega (arith, two, size)))))

pub turns_keep_domains : TurnKeepsDomains
turns_keep_domains stack task own depth n spawns sub is fits long have next =
    record {
      others = others stack task own depth is fits long next n spawns sub have;
      children = all_children stack task own depth is fits long next n spawns sub have;
    }

kind_first : (outer : List BagValue) → kind_outside outer ≡ first_kind (map domain_of outer)
kind_first [] = refl
kind_first (bag ∷ outer) = refl

abbrev context : ℕ → ℕ → ℕ → Domain → Option Kind → Ctx
context version depth ts own outer =
    record {
      version = version;
      depth = depth;
      own = own.kind;
      outer = outer;
      ts = ts;
      floor = own.floor;
      sub = None;
      children = 0;
      bytes = 0;
    }

pub contexts_fit : ContextFits
contexts_fit version stack task own outer is fits next =
    let long : length (own ∷ outer) ≡ length outer + 1 = omega arith in
    let all : own ∷ outer ≡ map domain_of (next.bag ∷ next.outer) = own_is stack task (own ∷ outer) (length outer + 1) is fits long next in
    let first : own ≡ domain_of next.bag = cc in
    let rest : outer ≡ map domain_of next.outer = cc in
    ap (λ d. context version d task.ts (domain_of next.bag) (kind_outside next.outer)) next.deep
    ∙ ap (λ d. context version (length outer + 1) task.ts d (kind_outside next.outer)) (sym first)
    ∙ ap (context version (length outer + 1) task.ts own) (kind_first next.outer ∙ ap first_kind (sym rest))
