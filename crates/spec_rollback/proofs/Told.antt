-- What is told of marked tasks, one after another.
use Rattle.std.proofs.Common.{◌≡◌, ◌≢◌, ◌≤◌, ◌<◌, ◌+◌, ◌∷◌, ◌++◌, ℕ, Bool, false, List, [], length, map, take, Some}
use Rattle.std.proofs.Common.{refl, sym}
use Rattle.std.proofs.Common.{ap, subst, ◌∙◌, arith, slice_get}
use Rattle.std.specs.Prelude.{AllPairs, Contains}
use Rattle.spec_state.specs.Aborts.{is_marked}
use Rattle.std.proofs.lemmas.List.{length-map, length-take-le, map-append}
use Rattle.fractal_vt.proofs.Lists.{take_one_more}
use Rattle.spec_state.specs.View.{View}
use Rattle.spec_state.specs.StateValue.{Scratch}
use Rattle.spec_state.specs.declared.effect.TakenTask.{TakenTask}
use Rattle.spec_rollback.specs.Pulled.{ListsMarked}
use Rattle.spec_state.specs.Told.{told_at, TellsBack}

-- one more of a list
pub told_more : (f : ℕ → TakenTask) (members : List ℕ) (place id : ℕ) (told : List TakenTask)
    → slice_get members place ≡ Some id → told ≡ map f (take place members)
    → told ++ f id ∷ [] ≡ map f (take (place + 1) members)
told_more f members place id told at so_far =
    ap (λ (ts : List TakenTask). ts ++ f id ∷ []) so_far
    ∙ sym (map-append f (take place members) (id ∷ []))
    ∙ ap (map f) (sym (take_one_more members place id at))

-- so many of a list
pub told_length : (f : ℕ → TakenTask) (members : List ℕ) (place : ℕ) (told : List TakenTask)
    → place ≤ length members → told ≡ map f (take place members) → length told ≡ place
told_length f members place told within so_far =
    ap (λ (ts : List TakenTask). length ts) so_far ∙ length-map (take place members) f
    ∙ length-take-le place members within

-- the members are told as they stood before their stores were undone
pub tells_members : (old mid : View) (marks : List Bool) (scratch : Scratch) (found : ℕ) (told : List TakenTask)
    → mid ≡ record old { memory = mid.memory } → scratch.marks ≡ marks → ListsMarked scratch found
    → AllPairs (λ a b. a ≢ b) (take found scratch.members)
    → told ≡ map (told_at mid scratch.marks) (take found scratch.members) → TellsBack old marks told
tells_members old mid marks scratch found told rest same listed once is =
    subst (λ (m : List Bool). TellsBack old m told) same
    (record {
      ids = take found scratch.members;
      exact = λ id. ((listed.marked id).1, (listed.marked id).0);
      once = once;
      told_are = subst (λ (v : View). told ≡ map (told_at v scratch.marks) (take found scratch.members)) rest is;
    })

-- no member is told where none is marked
pub tells_none : (old : View) (marks : List Bool) → ((id : ℕ) → is_marked marks id ≡ false) → TellsBack old marks []
tells_none old marks off = record {
  ids = [];
  exact = λ id. (λ has. absurd (let low = has.1 in omega (arith, low)), λ marked. absurd (cc (marked, off id)));
  once = λ i j d low within. absurd (omega (arith, low, within));
  told_are = refl;
}
