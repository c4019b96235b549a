-- Children stay noted through each change of a state.
use Rattle.std.proofs.Common.{◌≡◌, ◌≢◌, ℕ, List, [], Option, Some, None, refl, sym, ap, subst, ◌∙◌, inl, inr, slice_get}
use Rattle.std.proofs.Common.{slice_index_or}
use Rattle.std.specs.Prelude.{IsTrue, slice_set}
use Rattle.std.proofs.lemmas.Bool.{cases_eq}
use Rattle.spec_state.specs.declared.task.Creator.TheVariants.{Committed, Live}
use Rattle.spec_state.specs.declared.task.Task.{Task}
use Rattle.spec_state.specs.declared.task.TaskId.{TaskId}
use Rattle.spec_state.specs.Children.{AreNoted, AreNotedBut, ChildrenValue, IsChildAt, IsNotable, Notes, noted_of}
use Rattle.spec_state.proofs.Kept.{others_set, task_set}

-- where each child that stands now stood there before
pub noted_back : (old now : List (Option Task)) (children : ChildrenValue)
    → ((k id place : ℕ) → IsChildAt id place (slice_index_or now k None) → IsChildAt id place (slice_index_or old k None))
    → AreNoted old children → AreNoted now children
noted_back old now children back noted complete k id place is = noted complete k id place (back k id place is)

-- a task with the same creator is the same child
pub same_child : (id place : ℕ) (task changed : Task) → changed.creator ≡ task.creator
    → IsChildAt id place (Some changed) → IsChildAt id place (Some task)
same_child id place task changed same is =
    let it : changed ≡ is.child = cc (is.there) in
    record { child = task; there = refl; made_by = sym same ∙ ap (λ (t : Task). t.creator) it ∙ is.made_by }

-- where one task is another of the same creator
pub noted_but_one : (old now : List (Option Task)) (children : ChildrenValue) (id : ℕ) (task changed : Task)
    → slice_index_or old id None ≡ Some task → slice_index_or now id None ≡ Some changed
    → ((k : ℕ) → k ≢ id → slice_index_or now k None ≡ slice_index_or old k None) → changed.creator ≡ task.creator
    → AreNoted old children → AreNoted now children
noted_but_one old now children id task changed there here others same = noted_back old now children back
  where
    back : (k c place : ℕ) → IsChildAt c place (slice_index_or now k None)
        → IsChildAt c place (slice_index_or old k None)
    back k c place is = elim (cases_eq k id) [
      | inl own ↦
          let was : IsChildAt c place (Some changed) =
          subst (IsChildAt c place) here (subst (λ j. IsChildAt c place (slice_index_or now j None)) own is) in
          subst (λ j. IsChildAt c place (slice_index_or old j None)) (sym own)
          (subst (IsChildAt c place) (sym there) (same_child c place task changed same was))
      | inr other ↦ subst (IsChildAt c place) (others k other) is
    ]

-- where one task is written over by another of the same creator
pub noted_set : (tasks : List (Option Task)) (children : ChildrenValue) (id : ℕ) (task changed : Task)
    → slice_index_or tasks id None ≡ Some task
    → changed.creator ≡ task.creator → AreNoted tasks children → AreNoted (slice_set tasks id (Some changed)) children
noted_set tasks children id task changed there same =
    noted_but_one tasks (slice_set tasks id (Some changed)) children id task changed there
    (task_set tasks id task changed there) (others_set tasks id changed) same

-- where one task is gone
pub noted_left : (old now : List (Option Task)) (children : ChildrenValue) (id : ℕ) → slice_index_or now id None ≡ None
    → ((k : ℕ) → k ≢ id → slice_index_or now k None ≡ slice_index_or old k None)
    → AreNoted old children → AreNoted now children
noted_left old now children id gone others = noted_back old now children back
  where
    back : (k c place : ℕ) → IsChildAt c place (slice_index_or now k None)
        → IsChildAt c place (slice_index_or old k None)
    back k c place is = elim (cases_eq k id) [
      | inl own ↦ absurd (cc (is.there, ap (λ j. slice_index_or now j None) own, gone))
      | inr other ↦ subst (IsChildAt c place) (others k other) is
    ]

-- where one task is new, all others are noted
pub noted_others : (old now : List (Option Task)) (children : ChildrenValue) (id : ℕ)
    → ((k : ℕ) → k ≢ id → slice_index_or now k None ≡ slice_index_or old k None)
    → AreNoted old children → AreNotedBut id now children
noted_others old now children id others noted complete k c place other is =
    noted complete k c place (subst (IsChildAt c place) (others k other) is)

-- where there is no task
pub none_noted : (tasks : List (Option Task)) (children : ChildrenValue) → tasks ≡ [] → AreNoted tasks children
none_noted tasks children none complete k c place is =
    absurd (cc (is.there, ap (λ (ts : List (Option Task)). slice_index_or ts k None) none))

-- what is no child needs no note
pub no_child_noted : (tasks : List (Option Task)) (children : ChildrenValue) (id : ℕ)
    → ((c place : ℕ) → IsChildAt c place (slice_index_or tasks id None) → ⊥) → AreNotedBut id tasks children
    → AreNoted tasks children
no_child_noted tasks children id none but complete k c place is = elim (cases_eq k id) [
  | inl own ↦ absurd (none c place (subst (λ j. IsChildAt c place (slice_index_or tasks j None)) own is))
  | inr other ↦ but complete k c place other is
]

-- where nothing stands under the id, or a task whose creator has committed
pub nothing_noted : (tasks : List (Option Task)) (children : ChildrenValue) (id : ℕ)
    → slice_index_or tasks id None ≡ None → AreNotedBut id tasks children → AreNoted tasks children
nothing_noted tasks children id empty = no_child_noted tasks children id (λ c place is. absurd (cc (is.there, empty)))

pub firm_noted : (tasks : List (Option Task)) (children : ChildrenValue) (id turn index : ℕ) (task : Task)
    → slice_index_or tasks id None ≡ Some task → task.creator ≡ Committed turn index → AreNotedBut id tasks children
    → AreNoted tasks children
firm_noted tasks children id turn index task there by = no_child_noted tasks children id
    (λ c place is. (let both : Some task ≡ Some is.child = sym there ∙ is.there in
    let one : task ≡ is.child = cc in
    absurd (cc (sym by ∙ ap (λ (t : Task). t.creator) one ∙ is.made_by))))

-- a task is the child at one place of one creator
same_creator_and_place : (a b p q : ℕ) (stands : Option Task) → IsChildAt a p stands → IsChildAt b q stands
    → Live (record { 0 = a }) p ≡ Live (record { 0 = b }) q
same_creator_and_place a b p q stands one other =
    let both : Some one.child ≡ Some other.child = sym one.there ∙ other.there in
    let task : one.child ≡ other.child = cc in
    sym one.made_by ∙ ap (λ (t : Task). t.creator) task ∙ other.made_by

same_creator : (a b p q : ℕ) (stands : Option Task) → IsChildAt a p stands → IsChildAt b q stands → a ≡ b
same_creator a b p q stands one other =
    let made = same_creator_and_place a b p q stands one other in
    let ids : ◌≡◌ {A = TaskId} (record { 0 = a }) (record { 0 = b }) = cc (made) in
    ap (λ (t : TaskId). t.0) ids

same_place : (a b p q : ℕ) (stands : Option Task) → IsChildAt a p stands → IsChildAt b q stands → p ≡ q
same_place a b p q stands one other = (let made = same_creator_and_place a b p q stands one other in cc (made))

-- whichever way the child is told, it can be noted
pub notable_as : (tasks : List (Option Task)) (children : ChildrenValue) (id creator place : ℕ)
    → IsChildAt creator place (slice_index_or tasks id None) → IsNotable tasks id creator place children
    → (c p : ℕ) → IsChildAt c p (slice_index_or tasks id None) → IsNotable tasks id c p children
notable_as tasks children id creator place child notable c p is =
    subst (λ j. IsNotable tasks id j p children) (same_creator creator c place p (slice_index_or tasks id None) child is)
    (subst (λ q. IsNotable tasks id creator q children) (same_place creator c place p (slice_index_or tasks id None) child is) notable)

-- the child under the id is noted where no other child is noted at its place
module _ (tasks : List (Option Task)) (old new : ChildrenValue) (id creator place : ℕ)
    (child : IsChildAt creator place (slice_index_or tasks id None)) (but : AreNotedBut id tasks old)
    (free : (k : ℕ) → slice_get (noted_of old creator) place ≡ Some k → k ≢ id → IsChildAt creator place (slice_index_or tasks k None) → ⊥)
    (notes : Notes creator place id old new) (complete : new.complete ≡ old.complete) where
  own_noted : (c p : ℕ) → IsChildAt c p (slice_index_or tasks id None) → slice_get (noted_of new c) p ≡ Some id
  own_noted c p is =
      let one : c ≡ creator = same_creator c creator p place (slice_index_or tasks id None) is child in
      let at : p ≡ place = same_place c creator p place (slice_index_or tasks id None) is child in
      ap (λ j. slice_get (noted_of new j) p) one ∙ ap (slice_get (noted_of new creator)) at ∙ notes.own.here

  other_noted : (k c p : ℕ) → k ≢ id → IsChildAt c p (slice_index_or tasks k None)
      → slice_get (noted_of old c) p ≡ Some k
      → slice_get (noted_of new c) p ≡ Some k
  other_noted k c p other is was = elim (cases_eq c creator) [
    | inl one ↦ elim (cases_eq p place) [
      | inl at ↦
          let there : IsChildAt creator place (slice_index_or tasks k None) =
          subst (λ q. IsChildAt creator q (slice_index_or tasks k None)) at (subst (λ j. IsChildAt j p (slice_index_or tasks k None)) one is) in
          let noted : slice_get (noted_of old creator) place ≡ Some k =
          subst (λ q. slice_get (noted_of old creator) q ≡ Some k) at (subst (λ j. slice_get (noted_of old j) p ≡ Some k) one was) in
          absurd (free k noted other there)
      | inr else ↦
          ap (λ j. slice_get (noted_of new j) p) one ∙ notes.own.others p else
          ∙ ap (λ j. slice_get (noted_of old j) p) (sym one) ∙ was
    ]
    | inr else ↦ ap (λ (ids : List ℕ). slice_get ids p) (notes.others c else) ∙ was
  ]

  pub noted_more : AreNoted tasks new
  noted_more whole k c p is = elim (cases_eq k id) [
    | inl own ↦
        let here : slice_get (noted_of new c) p ≡ Some id = own_noted c p (subst (λ j. IsChildAt c p (slice_index_or tasks j None)) own is) in
        here ∙ ap Some (sym own)
    | inr other ↦ other_noted k c p other is (but (subst IsTrue complete whole) k c p other is)
  ]
