-- A list that was changed in place as a slice.
use Rattle.std.proofs.Common.{◌≡◌, List, map, sym, subst}
use Rattle.place_policy.specs.Policy.{Policy}

-- what holds of the slice before and after holds of the list
pub as_slice : {X : Type 0} (see : X → Policy) (items first last back : List X) (holds : List Policy → List Policy → Type 0)
    → first ≡ items → back ≡ last → holds (map see first) (map see last) → holds (map see items) (map see back)
as_slice see items first last back holds is same fact =
    subst (λ xs. holds (map see items) (map see xs)) (sym same) (subst (λ xs. holds (map see xs) (map see last)) is fact)
