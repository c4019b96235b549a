-- A quantum, a trap, a call for a subdomain, a call that emits a byte and an end call keep a view sound.
use Rattle.std.proofs.Common.{◌≡◌, ◌≢◌, ◌⊎◌, ◌≤◌, ◌∷◌, ◌++◌, ℕ, [], length, Option, Some, None, refl, sym, ap, subst}
use Rattle.std.proofs.Common.{◌∙◌, inl, inr, is_some, slice_get}
use Rattle.guest_image.specs.declared.image.Kind.{Kind}
use Rattle.guest_image.specs.ImageValue.{ImageValue}
use Rattle.rv_core.specs.Legs.{after_other_of}
use Rattle.rv_core.specs.LegValue.{LegValue}
use Rattle.spec_state.proofs.Below.run_law.Proved.{HasDomain, IsPlaced}
use Rattle.task_desc.specs.declared.calls.TheConstants.{MAX_BYTES}
use Rattle.task_desc.specs.declared.desc.Place.{Place}
use Rattle.task_desc.specs.declared.desc.Place.TheVariants.{Same, Sub, Super}
use Rattle.task_request.specs.declared.request.Request.{Request}
use Rattle.task_request.specs.declared.request.Request.TheVariants as request
use Rattle.task_request.specs.Conditions.{IsCall}
use Rattle.task_request.specs.Effects.{Continues, after_request}
use Rattle.task_request.specs.TaskState.{TaskState, task_at_start}
use Rattle.task_request.proofs.Proved.{allowed_by-limits, AllowedBy, request_at-allowed_spawn}
use Rattle.spec_state.specs.task_law.Logged.{call}
use Rattle.spec_state.proofs.Below.task_law.Proved.{on_memory}
use Rattle.spec_state.specs.declared.task.Status.TheVariants.{Trapped, Finished}
use Rattle.spec_state.specs.declared.task.Task.{Task}
use Rattle.spec_state.specs.View.{View}
use Rattle.spec_state.specs.Tasks.{child_domain, child_kinds, context_of, progress_at, start_context}
use Rattle.spec_state.specs.Changes.{Keeps}
use Rattle.spec_state.specs.Stored.{HasCore}
use Rattle.spec_law.specs.Keeping.{AsksAt, ByteStaysSound, EndStaysSound, IsLegOf, QuantumStaysSound, SubStaysSound}
use Rattle.spec_law.specs.Keeping.{TrapStaysSound}
use Rattle.spec_law.specs.Sound.{RanTo, Sound, StandsAs, StaysSound}
use Rattle.spec_law.proofs.Steps.Runs.{Leaves, placed_at, request_leaves, run_placed}
use Rattle.spec_law.proofs.Steps.Ends.{end_fits, end_steps}
use Rattle.spec_law.proofs.Steps.Sound.{asks_next, keeps_sound, ran_leg, step_stays_sound, stood}
use Rattle.spec_law.proofs.Steps.Tasks.{KeepsChildren}

-- the task stands at the end of its leg, to which its run goes on
pub quantum_stays_sound : QuantumStaysSound
quantum_stays_sound image old new sound tile core id leg task taken keeps =
    keeps_sound image old new sound id task (record task { core = leg.to }) taken.takes.runs.on.there keeps refl refl refl (λ index spawn at. (at, refl))
    (subst (StandsAs image old.version old.settings.budget (record task { core = leg.to })) (sym taken.takes.runs.running)
    ((stood image old sound tile core id leg task taken).0, ran_leg image old sound tile core id leg task taken))
    (λ is. is, λ is. is) (λ c. (λ is. is, λ is. is)) (sound.sizes.bytes id task taken.takes.runs.on.there)

-- the trap is the next instruction of the run
pub trap_stays_sound : TrapStaysSound
trap_stays_sound image old new sound tile core id cause leg task at keeps =
    let taken = at.is_leg in
    let running = taken.takes.runs.running in
    keeps_sound image old new sound id task (record task { core = leg.to; status = Trapped core cause }) taken.takes.runs.on.there keeps refl refl refl (λ index spawn at. (at, refl)) (
      (stood image old sound tile core id leg task taken).0,
      record {
        ran = ran_leg image old sound tile core id leg task taken;
        traps =
            asks_next image old sound tile core id leg task taken (request.Trap cause) at.asks (λ e. absurd (cc (e)));
      },
    )
    (λ is. absurd (cc (is)), λ is. absurd (cc (sym running ∙ is)))
    (λ c. (λ is. subst (λ status. HasCore status c) (sym running) is, λ is. subst (λ status. HasCore status c) running is))
    (sound.sizes.bytes id task taken.takes.runs.on.there)

-- the kinds of a child that was made stay: a subdomain is made once
kinds_same : (task now : Task) (outer : Option Kind) (place : Place) → now.kinds ≡ task.kinds → now.key ≡ task.key
    → HasDomain outer task.sub place
    → (now.sub ≡ task.sub) ⊎ (task.sub ≡ None) → child_kinds now place ≡ child_kinds task place
kinds_same task now outer Same kinds key has sub = kinds
kinds_same task now outer Sub kinds key has (inl same) =
    λ i. child_kinds (record task { kinds = kinds i; key = key i; sub = same i }) Sub
kinds_same task now outer Sub kinds key has (inr none) = absurd (cc (has, ap is_some none))
kinds_same task now outer Super kinds key has sub =
    λ i. child_kinds (record task { kinds = kinds i; key = key i }) Super

-- the task at a later point of its run, its loads and stores aside
abbrev pub progressed : Task → TaskState → Task
progressed task after = record task { core = after.core; spawns = after.spawns; bytes = after.bytes; sub = after.sub }

-- a call is no request to go on
call_other : (asked : Request) → IsCall asked → asked ≢ request.Continue
call_other asked is_call same = subst IsCall same is_call

module _ (image : ImageValue) (old : View) (sound : Sound image old) (tile core id : ℕ) (leg : LegValue) (task : Task) (asked : Request) (after : TaskState) (at : AsksAt image old tile core leg id task asked) (is_call : IsCall asked) (goes : after_request (progress_at [] leg.to task) asked ≡ Continues (on_memory [] after)) where
  abbrev taken : IsLegOf image old tile core leg id task
  taken = at.is_leg

  -- what the call leaves
  pub left : ((after.sub ≡ task.sub) ⊎ (task.sub ≡ None)) × (length task.bytes ≤ MAX_BYTES → length after.bytes ≤ MAX_BYTES)
  left =
      let allows : AllowedBy (context_of old.version task) asked = subst (AllowedBy (context_of old.version task)) at.asks (request_at-allowed_spawn (context_of old.version task) leg.to leg.stop) in
      subst (Leaves (progress_at [] leg.to task)) goes
      (request_leaves (start_context old.version task) (progress_at [] leg.to task) asked (allowed_by-limits (context_of old.version task) asked allows))

  -- the run goes on by it
  pub ran_call : RanTo image old.version old.settings.budget task (on_memory [] after)
  ran_call =
      call asked (on_memory [] after) (ran_leg image old sound tile core id leg task taken)
      (asks_next image old sound tile core id leg task taken asked at.asks (call_other asked is_call)) is_call goes

  -- the children that were made stay
  children_stay : after.spawns ≡ task.spawns → KeepsChildren task (progressed task after)
  children_stay spawns index spawn made =
      let placed : IsPlaced (start_context old.version task).outer (progress_at [] leg.to task) =
      run_placed image old.settings.budget image.data_size (start_context old.version task) (task_at_start old.version task.entry task.key.ts task.args [])
      (ran_leg image old sound tile core id leg task taken) tt
      in
      let has = placed_at (start_context old.version task).outer task.sub task.spawns index spawn placed made in
      let kinds = kinds_same task (progressed task after) (start_context old.version task).outer spawn.place refl refl has left.0 in (
        ap (λ all. slice_get all index) spawns ∙ made,
        λ i. record { entry = spawn.entry; args = spawn.args; hint = spawn.hint; ts = spawn.ts; domain = child_domain task spawn.place; kinds = kinds i },
      )

  -- so the view stays sound
  pub call_keeps : (new : View) → after.spawns ≡ task.spawns → Keeps id (progressed task after) old new
      → StaysSound image old sound new
  call_keeps new spawns keeps =
      keeps_sound image old new sound id task (progressed task after) taken.takes.runs.on.there keeps refl refl spawns (children_stay spawns)
      (subst (StandsAs image old.version old.settings.budget (progressed task after)) (sym taken.takes.runs.running)
      ((stood image old sound tile core id leg task taken).0, ran_call))
      (λ is. is, λ is. is) (λ c. (λ is. is, λ is. is)) (left.1 (sound.sizes.bytes id task taken.takes.runs.on.there))

-- the call for a subdomain is one more instruction of the run
pub sub_stays_sound : SubStaysSound
sub_stays_sound image old new sound tile core id leg task kind at keeps =
    call_keeps image old sound tile core id leg task (request.MakeSub kind)
    (record (progress_at [] (after_other_of leg.to) task) { sub = Some kind }) at tt refl new refl keeps

-- so is that for a byte
pub byte_stays_sound : ByteStaysSound
byte_stays_sound image old new sound tile core id byte leg task at keeps =
    call_keeps image old sound tile core id leg task (request.Emit byte)
    (record (progress_at [] (after_other_of leg.to) task) { bytes = task.bytes ++ byte ∷ [] }) at tt refl new refl keeps

-- the end call is the last instruction of the run
pub end_stays_sound : EndStaysSound
end_stays_sound image old new sound tile core id leg task at few ends =
    let taken = at.is_leg in
    step_stays_sound image old new sound id task (record task { core = after_other_of leg.to; status = Finished })
    (end_steps old new sound.sizes tile core id task leg taken.takes.runs few ends)
    (ap (λ v. v.memory) ends.frame) refl refl refl (λ index spawn at. (at, refl)) (
      (stood image old sound tile core id leg task taken).0,
      record {
        before = progress_at [] leg.to task;
        ran = ran_leg image old sound tile core id leg task taken;
        ends = asks_next image old sound tile core id leg task taken request.End at.asks (λ e. absurd (cc (e)));
        leaves = refl;
      },
    )
    (end_fits old new sound.sizes tile core id task leg taken.takes.runs few ends)
    (sound.sizes.bytes id task taken.takes.runs.on.there)
