-- A leg is one, and so is the event for the least task.
use Rattle.std.proofs.Common.{◌≡◌, ◌≢◌, ◌≤◌, ◌<◌, ◌+◌, zero, suc, ℕ, Bool, true, false, List, [], ◌∷◌, map, length}
use Rattle.std.proofs.Common.{Option, Some, None, refl, sym, ap, subst, ◌∙◌, inl, inr, ◌⊎◌, arith}
use Rattle.std.proofs.lemmas.Bool.{cases_eq, cases_lt}
use Rattle.guest_image.specs.ImageValue.{ImageValue}
use Rattle.rv_core.specs.declared.state.Core.{Core}
use Rattle.rv_core.specs.declared.state.Stop.{Stop}
use Rattle.rv_core.specs.Next.{Next, Goes, Stops}
use Rattle.rv_core.specs.Legs.{next_at, PlainInstructions, IsLeg}
use Rattle.rv_core.specs.LegValue.{LegValue}
use Rattle.step_script.specs.spec_state.declared.task.Status.{Status}
use Rattle.step_script.specs.spec_state.declared.task.Status.TheVariants.{Idle, Running, Trapped, Finished}
use Rattle.step_script.specs.spec_state.declared.task.Task.{Task}
use Rattle.step_script.specs.spec_state.View.{View, task_at}
use Rattle.step_script.specs.spec_state.Least.{Spot, Queued, Spilled_at, IsLeastTask, IsLeastSpilled}
use Rattle.step_script.proofs.Below.spec_state.Proved.{one_least}
use Rattle.step_script.proofs.Below.spec_law.Proved.{least_is_one}
use Rattle.step_script.specs.event_def.declared.event.Event.{Event}
use Rattle.step_script.specs.event_def.declared.event.Event.TheVariants as event
use Rattle.step_script.specs.event_def.Advancing.{IsLegFrom, IsLeastLeg, IsLeastEvent}
use Rattle.outcome_law.specs.Alike.{IdPermutation, inverse_of, IsAlikeTask, AreAlike}
use Rattle.outcome_law.proofs.Alike.{alike_turned}
use Rattle.outcome_law.proofs.Leasts.{least_too, spilled_too}
use Rattle.outcome_law.proofs.Picks.{task_one}

module _ (image : ImageValue) (size budget : ℕ) (from : Core) where
  -- so many instructions lead to one core
  plain_one : (n : ℕ) (to other : Core) → PlainInstructions image size budget n from to
      → PlainInstructions image size budget n from other → to ≡ other
  plain_one zero to other one two = sym one ∙ two
  plain_one (suc n) to other one two =
      let mid : one.0 ≡ two.0 = plain_one n one.0 two.0 one.1 two.1 in
      let both : Goes to ≡ Goes other = sym one.2 ∙ (ap (next_at image size budget) mid ∙ two.2) in
      cc

  -- a shorter run goes on
  goes_further : (n m : ℕ) (to other : Core) → PlainInstructions image size budget n from to
      → PlainInstructions image size budget m from other → n < m
      → (further : Core) × (next_at image size budget to ≡ Goes further)
  goes_further n zero to other one two less = absurd (omega arith)
  goes_further n (suc m) to other one two less = elim (cases_eq n m) [
    | inl same ↦ (other, ap (next_at image size budget) (plain_one m to two.0 (subst (λ k. PlainInstructions image size budget k from to) same one) two.1) ∙ two.2)
    | inr differs ↦ goes_further n m to two.0 one two.1 (let apart : n ≢ m = differs in grind (arith, apart))
  ]

  -- a leg is no shorter than another
  not_shorter : (quantum n m : ℕ) (to other : Core) (s t : Stop) → IsLeg image size budget quantum from to n s
      → IsLeg image size budget quantum from other m t → n < m → ⊥
  not_shorter quantum n m to other s t one two less =
      let further = goes_further n m to other one.run two.run less in
      let bound = two.bound in
      let stops = one.next (omega arith) in
      let clash : Stops s ≡ Goes further.0 = sym stops ∙ further.1 in
      absurd (cc (clash))

-- the leg from a core is one
pub leg_one : (image : ImageValue) (size budget quantum : ℕ) (leg other : LegValue) → other.from ≡ leg.from
    → IsLeg image size budget quantum leg.from leg.to leg.steps leg.stop
    → IsLeg image size budget quantum other.from other.to other.steps other.stop → other ≡ leg
leg_one image size budget quantum leg other same one two' =
    let two : IsLeg image size budget quantum leg.from other.to other.steps other.stop = subst (λ c. IsLeg image size budget quantum c other.to other.steps other.stop) same two' in
    let below = not_shorter image size budget leg.from quantum leg.steps other.steps leg.to other.to leg.stop other.stop one two in
    let above = not_shorter image size budget leg.from quantum other.steps leg.steps other.to leg.to other.stop leg.stop two one in
    let steps : other.steps ≡ leg.steps = grind (arith, below, above) in
    let to : other.to ≡ leg.to = plain_one image size budget leg.from leg.steps other.to leg.to (subst (λ n. PlainInstructions image size budget n leg.from other.to) steps two.run) one.run in
    let stops : other.stop ≡ leg.stop = elim (cases_lt leg.steps quantum) [
      | inl less ↦ (let both : Stops other.stop ≡ Stops leg.stop = sym (two.next (omega arith)) ∙ (ap (next_at image size budget) to ∙ one.next less) in cc (both))
      | inr full ↦ (let bound = one.bound in let is : leg.steps ≡ quantum = omega arith in two.full (steps ∙ is) ∙ sym (one.full is))
    ] in
    λ i. record { from = same i; to = to i; steps = steps i; stop = stops i }

-- ---- the event for the least task

module _ (r : IdPermutation) (a b : View) (alike : AreAlike r a b) where
  -- the two least tasks are partners
  pub leasts_alike : (k j : ℕ) (x y : Task) → IsLeastTask a k x → IsLeastTask b j y → IsAlikeTask r.to x y
  leasts_alike k j x y one two =
      let l = least_too r a b alike k x one in
      subst (λ z. IsAlikeTask r.to x z) (sym (task_one b j (r.to k) y l.y (one_least b j (r.to k) y l.y two l.least) two.queued_at.there l.least.queued_at.there)) l.alike

  status_same : (k j : ℕ) (x y : Task) → IsLeastTask a k x → IsLeastTask b j y → y.status ≡ x.status
  status_same k j x y one two = ap (λ t. t.status) (leasts_alike k j x y one two).other_is

  tile_same : (k j : ℕ) (x y : Task) → IsLeastTask a k x → IsLeastTask b j y → y.tile ≡ x.tile
  tile_same k j x y one two = ap (λ t. t.tile) (leasts_alike k j x y one two).other_is

  not_queued : (tile j : ℕ) (y : Task) → IsLeastSpilled a tile → IsLeastTask b j y → ⊥
  not_queued tile j y spilled least =
      let s = spilled_too r a b alike tile spilled in
      let same = least_is_one b (Spilled_at tile s.place) (Queued y.tile least.place) s.least least.least in
      absurd (cc (same))

  spilled_one : (tile other : ℕ) → IsLeastSpilled a tile → IsLeastSpilled b other → other ≡ tile
  spilled_one tile other one two =
      let s = spilled_too r a b alike tile one in
      let same : Spilled_at other two.place ≡ Spilled_at tile s.place = least_is_one b (Spilled_at other two.place) (Spilled_at tile s.place) two.least s.least in
      cc

module _ (image : ImageValue) (r : IdPermutation) (a b : View) (alike : AreAlike r a b) where
  legs_same : (tile core tile' core' : ℕ) (leg leg' : LegValue) → IsLeastLeg image a tile core leg
      → IsLeastLeg image b tile' core' leg' → (tile' ≡ tile) × (core' ≡ core) × (leg' ≡ leg)
  legs_same tile core tile' core' leg leg' one two =
      let like = leasts_alike r a b alike one.id two.id one.task two.task one.least two.least in
      let tiles : tile' ≡ tile = sym two.there ∙ (ap (λ t. t.tile) like.other_is ∙ one.there) in
      let status : Running core' ≡ Running core = sym two.runs ∙ (ap (λ t. t.status) like.other_is ∙ one.runs) in
      let cores : core' ≡ core = cc in
      let from : leg'.from ≡ leg.from = two.runs_on.from ∙ (ap (λ t. t.core) like.other_is ∙ sym one.runs_on.from) in (
        tiles,
        cores,
        leg_one image image.data_size a.settings.budget a.settings.quantum leg leg' from one.runs_on.is_leg
            (subst (λ s. IsLeg image image.data_size s.budget s.quantum leg'.from leg'.to leg'.steps leg'.stop) (ap (λ v. v.settings) alike.frame) two.runs_on.is_leg),
      )

module _ {N : Type 0} (image : ImageValue) (r : IdPermutation) (a b : View) (alike : AreAlike r a b) where
  pub next_one : (e f : Event N) → IsLeastEvent image a e → IsLeastEvent image b f → f ≡ e
  next_one (event.Split tile) (event.Split other) one two = ap event.Split (spilled_one r a b alike tile other one two)
  next_one (event.Split tile) (event.Dispatch other) one two =
      absurd (not_queued r a b alike tile two.0 two.1 one two.2)
  next_one (event.Split tile) (event.Step other core leg) one two =
      absurd (not_queued r a b alike tile two.id two.task one two.least)
  next_one (event.Split tile) event.Commit one two = absurd (not_queued r a b alike tile two.0 two.1 one two.2)
  next_one (event.Dispatch tile) (event.Split other) one two =
      absurd (not_queued (inverse_of r) b a (alike_turned r a b alike) other one.0 one.1 two one.2)
  next_one (event.Dispatch tile) (event.Dispatch other) one two =
      ap event.Dispatch (sym two.4 ∙ (tile_same r a b alike one.0 two.0 one.1 two.1 one.2 two.2 ∙ one.4))
  next_one (event.Dispatch tile) (event.Step other core leg) one two =
      absurd (let clash : Running core ≡ Idle = sym two.runs ∙ (status_same r a b alike one.0 two.id one.1 two.task one.2 two.least ∙ one.3) in cc (clash))
  next_one (event.Dispatch tile) event.Commit one two =
      absurd (let clash : Finished ≡ Idle = sym two.3 ∙ (status_same r a b alike one.0 two.0 one.1 two.1 one.2 two.2 ∙ one.3) in cc (clash))
  next_one (event.Step tile core leg) (event.Split other) one two =
      absurd (not_queued (inverse_of r) b a (alike_turned r a b alike) other one.id one.task two one.least)
  next_one (event.Step tile core leg) (event.Dispatch other) one two =
      absurd (let clash : Idle ≡ Running core = sym two.3 ∙ (status_same r a b alike one.id two.0 one.task two.1 one.least two.2 ∙ one.runs) in cc (clash))
  next_one (event.Step tile core leg) (event.Step other core' leg') one two =
      let same = legs_same image r a b alike tile core other core' leg leg' one two in
      λ i. event.Step (same.0 i) (same.1 i) (same.2 i)
  next_one (event.Step tile core leg) event.Commit one two =
      absurd (let clash : Finished ≡ Running core = sym two.3 ∙ (status_same r a b alike one.id two.0 one.task two.1 one.least two.2 ∙ one.runs) in cc (clash))
  next_one event.Commit (event.Split other) one two =
      absurd (not_queued (inverse_of r) b a (alike_turned r a b alike) other one.0 one.1 two one.2)
  next_one event.Commit (event.Dispatch other) one two =
      absurd (let clash : Idle ≡ Finished = sym two.3 ∙ (status_same r a b alike one.0 two.0 one.1 two.1 one.2 two.2 ∙ one.3) in cc (clash))
  next_one event.Commit (event.Step other core leg) one two =
      absurd (let clash : Running core ≡ Finished = sym two.runs ∙ (status_same r a b alike one.0 two.id one.1 two.task one.2 two.least ∙ one.3) in cc (clash))
  next_one event.Commit event.Commit one two = refl
  next_one (event.Abort tile) f one two = absurd one
  next_one (event.Coalesce tile) f one two = absurd one
  next_one (event.Split tile) (event.Abort other) one two = absurd two
  next_one (event.Split tile) (event.Coalesce other) one two = absurd two
  next_one (event.Dispatch tile) (event.Abort other) one two = absurd two
  next_one (event.Dispatch tile) (event.Coalesce other) one two = absurd two
  next_one (event.Step tile core leg) (event.Abort other) one two = absurd two
  next_one (event.Step tile core leg) (event.Coalesce other) one two = absurd two
  next_one event.Commit (event.Abort other) one two = absurd two
  next_one event.Commit (event.Coalesce other) one two = absurd two
