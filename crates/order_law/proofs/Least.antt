-- A least task is below all others once it is dispatched, and below each dispatched one in any case.
use Rattle.std.proofs.Common.{◌≡◌, ◌≢◌, ℕ, List, [], ◌∷◌, ◌++◌, Option, Some, None, refl, sym, ap, ◌∙◌}
use Rattle.std.specs.Ordering.{nat_cmp, ordering_then}
use Rattle.std.specs.FinMap.{nat_cmp-IsAntisymmetric}
use Rattle.std.specs.declared.cmp.Ordering.{Ordering}
use Rattle.std.specs.declared.cmp.Ordering.TheVariants.{Less, Equal, Greater}
use Rattle.std.specs.Cmp.Lexicographic.{slice_cmp}
use Rattle.fractal_vt.specs.Levels.{Open, tie_cmp, level_cmp, levels_cmp}
use Rattle.fractal_vt.proofs.Proved.{both_equal, less_of, then_equal}
use Rattle.order_law.specs.Tasks.{Keyed, levels_of, HasNumber}
use Rattle.order_law.specs.Ordered.{IsOrdered}
use Rattle.order_law.specs.Events.{IsLeastInKeys}

-- lists that tie have last elements that tie
pub last_ties : {X : Type 0} (R : X → X → Ordering) (ds es : List X) (l m : X)
    → slice_cmp R (ds ++ l ∷ []) (es ++ m ∷ []) ≡ Equal → R l m ≡ Equal
last_ties R [] [] l m e = (both_equal (R l m) Equal e).0
last_ties R [] (x ∷ []) l m e = let no_way : Less ≡ Equal = then_equal (R l x) Less e in absurd (cc)
last_ties R [] (x ∷ y ∷ es) l m e = let no_way : Less ≡ Equal = then_equal (R l x) Less e in absurd (cc)
last_ties R (x ∷ []) [] l m e = let no_way : Greater ≡ Equal = then_equal (R x m) Greater e in absurd (cc)
last_ties R (x ∷ y ∷ ds) [] l m e = let no_way : Greater ≡ Equal = then_equal (R x m) Greater e in absurd (cc)
last_ties R (x ∷ ds) (y ∷ es) l m e =
    last_ties R ds es l m (then_equal (R x y) (slice_cmp R (ds ++ l ∷ []) (es ++ m ∷ [])) e)

ties_same : (s t : Option ℕ) → tie_cmp s t ≡ Equal → s ≡ t
ties_same None None e = refl
ties_same None (Some n) e = absurd (cc)
ties_same (Some m) None e = absurd (cc)
ties_same (Some m) (Some n) e = ap Some (nat_cmp-IsAntisymmetric m n e)

-- two tasks that tie are both idle, or have one number
same_tie : (x y : Keyed) → levels_cmp (levels_of x) (levels_of y) ≡ Equal → x.last.tb ≡ y.last.tb
same_tie x y e =
    ties_same x.last.tb y.last.tb (then_equal (nat_cmp x.last.ts y.last.ts) (tie_cmp x.last.tb y.last.tb) (last_ties level_cmp x.domain y.domain x.last y.last e))

-- the task is below each other one
abbrev pub IsBelowAll : (ℕ → Option Keyed) → ℕ → Keyed → Type 0
IsBelowAll tasks id task = (k : ℕ) (x : Keyed) → k ≢ id → tasks k ≡ Some x
    → levels_cmp (levels_of task) (levels_of x) ≡ Less

-- a dispatched least task is below each other one, since those that tie have one number
pub least_is_below : (tasks : ℕ → Option Keyed) (path : List Open) (next id n : ℕ) (task : Keyed)
    → IsOrdered tasks path next → IsLeastInKeys tasks id task → HasNumber task n → IsBelowAll tasks id task
least_is_below tasks path next id n task ordered least number k x other there =
    less_of (levels_cmp (levels_of task) (levels_of x)) (least.least k x there)
    (λ e. other (ordered.numbers_differ k id x task n there least.there (sym (same_tie task x e) ∙ number) number))

-- the least task is below each dispatched one, since those that tie have one tiebreaker
pub below_dispatched : (tasks : ℕ → Option Keyed) (path : List Open) (next id k n : ℕ) (task x : Keyed)
    → IsOrdered tasks path next → IsLeastInKeys tasks id task → k ≢ id → tasks k ≡ Some x → HasNumber x n
    → levels_cmp (levels_of task) (levels_of x) ≡ Less
below_dispatched tasks path next id k n task x ordered least other there number =
    less_of (levels_cmp (levels_of task) (levels_of x)) (least.least k x there)
    (λ e. other (ordered.numbers_differ k id x task n there least.there number (same_tie task x e ∙ number)))
