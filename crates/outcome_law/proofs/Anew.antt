-- New tasks may stand under any ids: the permutation is changed there.
use Rattle.std.proofs.Common.{◌≡◌, ◌≢◌, ◌≤◌, ◌<◌, ◌+◌, ◌==◌, ℕ, zero, suc, Bool, true, false, List, [], ◌∷◌, map, set}
use Rattle.std.proofs.Common.{length, Option, Some, None, option_map, refl, sym, ap, subst, ◌∙◌, inl, inr, ◌⊎◌, arith}
use Rattle.std.proofs.Common.{cond}
use Rattle.std.specs.Prelude.{if◌then◌else◌, slice_get, slice_index_or, Contains}
use Rattle.std.proofs.lemmas.Option.{get_or_from_slice_get}
use Rattle.guest_image.specs.ImageValue.{ImageValue}
use Rattle.step_script.specs.spec_state.declared.task.TaskId.{TaskId}
use Rattle.step_script.specs.spec_law.Sound.{Sound}
use Rattle.step_script.proofs.Below.spec_law.Proved.{get_contains}
use Rattle.std.proofs.lemmas.Bool.{cases_eq}
use Rattle.std.proofs.lemmas.Bool.Decides.{nat_tests}
use Rattle.step_script.specs.spec_state.declared.task.Creator.{Creator}
use Rattle.step_script.specs.spec_state.declared.task.Creator.TheVariants.{Committed, Live}
use Rattle.step_script.specs.spec_state.declared.task.Task.{Task}
use Rattle.step_script.specs.spec_state.View.{View, task_at, queue_at, finished_at, cores_at, ChangesTask}
use Rattle.outcome_law.specs.Alike.{IdPermutation, inverse_of, permuted_creator, IsAlikeTask, IsAlikeAt, AreAlike}
use Rattle.outcome_law.proofs.Alike.{Partner, partner, none_there, alike_turned}

-- ---- two ids change places

pub swapped : ℕ → ℕ → ℕ → ℕ
swapped x y k = if k == x then y else if k == y then x else k

swapped_first : (x y k : ℕ) → k ≡ x → swapped x y k ≡ y
unfolding swapped
swapped_first x y k same = grind (arith, nat_tests)

swapped_second : (x y k : ℕ) → k ≡ y → swapped x y k ≡ x
unfolding swapped
swapped_second x y k same = grind (arith, nat_tests)

swapped_other : (x y k : ℕ) → k ≢ x → k ≢ y → swapped x y k ≡ k
unfolding swapped
swapped_other x y k not_x not_y = grind (arith, nat_tests)

pub swapped_twice : (x y k : ℕ) → swapped x y (swapped x y k) ≡ k
swapped_twice x y k = elim (cases_eq k x) [
  | inl here ↦ ap (swapped x y) (swapped_first x y k here) ∙ (swapped_second x y y refl ∙ sym here)
  | inr other ↦ by_second other (cases_eq k y)
]
  where
    by_second : k ≢ x → (k ≡ y) ⊎ (k ≢ y) → swapped x y (swapped x y k) ≡ k
    by_second other (inl here) = ap (swapped x y) (swapped_second x y k here) ∙ (swapped_first x y x refl ∙ sym here)
    by_second other (inr too) = ap (swapped x y) (swapped_other x y k other too) ∙ swapped_other x y k other too

-- this id has that other id, and the one that had it gets what this one had
abbrev pub with_new : IdPermutation → ℕ → ℕ → IdPermutation
with_new r id id' = record {
  to = λ k. swapped (r.to id) id' (r.to k);
  from = λ k. r.from (swapped (r.to id) id' k);
  back = λ k. ap r.from (swapped_twice (r.to id) id' (r.to k)) ∙ r.back k;
  forth = λ k. ap (swapped (r.to id) id') (r.forth (swapped (r.to id) id' k)) ∙ swapped_twice (r.to id) id' k;
}

pub named_so : (r : IdPermutation) (id id' : ℕ) → (with_new r id id').to id ≡ id'
named_so r id id' = swapped_first (r.to id) id' (r.to id) refl

-- a task stands there
abbrev pub IsThere : View → ℕ → Type 0
IsThere view k = (x : Task) × (task_at view k ≡ Some x)

-- each id in a list, on a core or of a creator is that of a task
pub record HoldsTasks (view : View) : Type 0 where
  pub queued : (tile k : ℕ) → Contains (queue_at view tile) k → IsThere view k
  pub ended : (tile k : ℕ) → Contains (finished_at view tile) k → IsThere view k
  pub held : (tile core k : ℕ) → slice_get (cores_at view tile) core ≡ Some (Some k) → IsThere view k
  pub creators : (k : ℕ) (x : Task) (task : TaskId) (index : ℕ) → task_at view k ≡ Some x → x.creator ≡ Live task index
      → IsThere view task.0

pub holds_tasks : (image : ImageValue) (view : View) → Sound image view → HoldsTasks view
holds_tasks image view sound = record {
  queued = λ tile k has. (let t = (sound.sizes.queued_are tile k).0 has in (t.0, t.1));
  ended = λ tile k has. (let t = (sound.sizes.finished_are tile k).0 has in (t.0, t.1));
  held = λ tile core k has. (let t = (sound.sizes.held_are tile core k).0 has in (t.0, t.1));
  creators =
      λ k x task index there made. (let m = sound.tasks.children k x task index there made in (m.creator, m.there));
}

-- functions that agree on the elements of a list map it alike
maps_alike : {X Y : Type 0} (f g : X → Y) (xs : List X) → ((p : ℕ) (x : X) → slice_get xs p ≡ Some x → f x ≡ g x)
    → map f xs ≡ map g xs
maps_alike f g [] same = refl
maps_alike f g (x ∷ xs) same = λ i. same zero x refl i ∷ maps_alike f g xs (λ p. same (suc p)) i

module _ (r : IdPermutation) (a b : View) (alike : AreAlike r a b) (holds : HoldsTasks a) (id id' : ℕ) (vacant : task_at a id ≡ None) (vacant' : task_at b id' ≡ None) where
  abbrev pub anew : IdPermutation
  anew = with_new r id id'

  -- a task keeps its other id
  pub keeps_name : (k : ℕ) → IsThere a k → anew.to k ≡ r.to k
  keeps_name k there =
      let p = partner r a b alike k there.0 there.1 in
      let not_id : r.to k ≢ r.to id = λ e. (let clash : Some p.y ≡ None = sym p.there ∙ (ap (task_at b) e ∙ none_there r a b alike id vacant) in cc (clash)) in
      let not_new : r.to k ≢ id' = λ e. (let clash : Some p.y ≡ None = sym p.there ∙ (ap (task_at b) e ∙ vacant') in cc (clash)) in
      swapped_other (r.to id) id' (r.to k) not_id not_new

  creator_named : (k : ℕ) (x : Task) → task_at a k ≡ Some x → (c : Creator) → x.creator ≡ c
      → permuted_creator anew.to c ≡ permuted_creator r.to c
  creator_named k x there (Committed turn index) made = refl
  creator_named k x there (Live task index) made =
      ap (λ (n : ℕ). Live (record { 0 = n }) index) (keeps_name task.0 (holds.creators k x task index there made))

  alike_named : (k : ℕ) (x y : Task) → task_at a k ≡ Some x → IsAlikeTask r.to x y → IsAlikeTask anew.to x y
  alike_named k x y there same = record {
    other_is =
        same.other_is
        ∙ ap {A = Creator} (λ c. record x { creator = c; lines = y.lines }) (sym (creator_named k x there x.creator refl));
    touched = same.touched;
    written = same.written;
  }

  -- where a task stands, its partner stands under the same other id as before; and elsewhere none does
  tasks_named : (k : ℕ) (s t : Option Task) → task_at a k ≡ s → task_at b (anew.to k) ≡ t → IsAlikeAt anew.to s t
  tasks_named k (Some x) t at at' =
      let p = partner r a b alike k x at in
      let same : t ≡ Some p.y = sym at' ∙ (ap (task_at b) (keeps_name k (x, at)) ∙ p.there) in
      subst (λ u. IsAlikeAt anew.to (Some x) u) (sym same) (alike_named k x p.y at p.alike)
  tasks_named k None None at at' = tt
  tasks_named k None (Some y) at at' = by_first (cases_eq (r.to k) (r.to id)) (cases_eq (r.to k) id')
    where
      by_first : (r.to k ≡ r.to id) ⊎ (r.to k ≢ r.to id) → (r.to k ≡ id') ⊎ (r.to k ≢ id') → ⊥
      by_first (inl here) second =
          let clash : Some y ≡ None = sym at' ∙ (ap (task_at b) (swapped_first (r.to id) id' (r.to k) here) ∙ vacant') in
          cc (clash)
      by_first (inr other) (inl here) =
          let clash : Some y ≡ None = sym at' ∙ (ap (task_at b) (swapped_second (r.to id) id' (r.to k) here) ∙ none_there r a b alike id vacant) in
          cc (clash)
      by_first (inr other) (inr too) =
          let clash : Some y ≡ None = sym at' ∙ (ap (task_at b) (swapped_other (r.to id) id' (r.to k) other too) ∙ none_there r a b alike k at) in
          cc (clash)

  ids_named : (lists : List (List ℕ)) → ((tile k : ℕ) → Contains (slice_index_or lists tile []) k → IsThere a k)
      → map (map r.to) lists ≡ map (map anew.to) lists
  ids_named lists there =
      maps_alike (map r.to) (map anew.to) lists (λ tile ids at. maps_alike r.to anew.to ids (λ p k at'. sym (keeps_name k (there tile k
      (subst (λ (q : List ℕ). Contains q k) (sym (get_or_from_slice_get lists tile ids [] at)) (get_contains ids p k at'))))))

  held_named : (c : Option ℕ) → ((k : ℕ) → c ≡ Some k → IsThere a k) → option_map r.to c ≡ option_map anew.to c
  held_named None there = refl
  held_named (Some k) there = ap Some (sym (keeps_name k (there k refl)))

  -- the views are alike under the new permutation too
  pub alike_anew : AreAlike anew a b
  alike_anew = record {
    tasks = λ k. tasks_named k (task_at a k) (task_at b (anew.to k)) refl refl;
    queues = alike.queues ∙ ids_named a.queues holds.queued;
    finished = alike.finished ∙ ids_named a.finished holds.ended;
    cores =
        alike.cores
        ∙ maps_alike (map (option_map r.to)) (map (option_map anew.to)) a.cores (λ tile cs at. maps_alike (option_map r.to) (option_map anew.to) cs (λ core c at'. held_named c (λ k is. holds.held tile core k
        (ap (λ (q : List (Option ℕ)). slice_get q core) (get_or_from_slice_get a.cores tile cs [] at) ∙ (at' ∙ ap Some is)))));
    frame = alike.frame;
  }
