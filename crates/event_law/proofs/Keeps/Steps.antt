-- A step of a running task that forces nothing, or that takes back what conflicts with it, leaves a sound view.
use Rattle.std.proofs.Common.{ℕ, ◌/◌, ◌≡◌, Bool, true, false, Some, refl, sym, ap, subst, ◌∙◌}
use Rattle.std.proofs.lemmas.Bool.{false_from_ne_true}
use Rattle.guest_image.specs.declared.image.Kind.{Kind}
use Rattle.guest_image.specs.ImageValue.{ImageValue}
use Rattle.rv_core.specs.LegValue.{LegValue, IsLegOfImage}
use Rattle.rv_table.specs.declared.instr.LoadWidth.{LoadWidth}
use Rattle.task_request.specs.declared.request.Request.{Request}
use Rattle.task_request.specs.declared.request.Request.TheVariants.{Load, Store, MakeSub, Emit, Trap}
use Rattle.task_request.specs.Requests.{request_at}
use Rattle.event_def.specs.spec_state.declared.task.Task.{Task}
use Rattle.event_def.specs.spec_state.View.{View, task_at}
use Rattle.event_def.specs.spec_state.Tasks.{is_dispatched, context_of}
use Rattle.event_def.specs.spec_state.Aborts.{is_marked}
use Rattle.event_def.specs.spec_state.Queries.{Conflicts, HasLine}
use Rattle.event_def.specs.spec_state.Changes.{TakesLeg, request_of, KeepsQuantum, KeepsTrap, MakesSub, Emits}
use Rattle.spec_law.specs.Sound.{Sound}
use Rattle.spec_law.specs.Keeping.{AsksAt, IsLegOf, NoneConflicts}
use Rattle.spec_law.proofs.Proved.{abort_of_conflicts_is_sound, byte_stays_sound, conflicts_spare_asker}
use Rattle.spec_law.proofs.Proved.{load_stays_sound, marked_is_back, quantum_stays_sound, store_stays_sound}
use Rattle.spec_law.proofs.Proved.{sub_stays_sound, trap_stays_sound}
use Rattle.event_def.specs.Events.{TakesConflicts, LoadEvent, StoreEvent}
use Rattle.event_law.proofs.Keeps.Forced.{Follows, abort_follows, still_taken, spared_stays}

module _ (image : ImageValue) (old : View) (sound : Sound image old) (tile core : ℕ) (leg : LegValue) (run : IsLegOfImage image old.settings.budget leg) (id : ℕ) (task : Task) (takes : TakesLeg old tile core leg id task) where
  -- the leg is one of a running task
  pub is_taken : IsLegOf image old tile core leg id task
  is_taken = record { takes = takes; run = run }

  -- which asks for this
  pub asks_at : (request : Request) → request_of old task leg ≡ request → AsksAt image old tile core leg id task request
  asks_at request asks = record { is_leg = is_taken; asks = asks }

  -- a leg that did its quantum
  pub quantum_leads : (new : View) → KeepsQuantum id task leg old new → Follows image old new
  quantum_leads new change = record {
    now = (quantum_stays_sound image old new sound tile core id leg task is_taken change).0;
    settings = ap (λ view. view.settings) change.frame;
  }

  -- a trap
  pub trap_leads : (cause : ℕ) → request_of old task leg ≡ Trap cause → (new : View)
      → KeepsTrap id task leg core cause old new → Follows image old new
  trap_leads cause asks new change = record {
    now = (trap_stays_sound image old new sound tile core id cause leg task (asks_at (Trap cause) asks) change).0;
    settings = ap (λ view. view.settings) change.frame;
  }

  -- a subdomain
  pub sub_leads : (kind : Kind) → request_of old task leg ≡ MakeSub kind → (new : View)
      → MakesSub id task leg kind old new → Follows image old new
  sub_leads kind asks new change = record {
    now = (sub_stays_sound image old new sound tile core id leg task kind (asks_at (MakeSub kind) asks) change).0;
    settings = ap (λ view. view.settings) change.frame;
  }

  -- a byte
  pub byte_leads : (byte : ℕ) → request_of old task leg ≡ Emit byte → (new : View) → Emits id task leg byte old new
      → Follows image old new
  byte_leads byte asks new change = record {
    now = (byte_stays_sound image old new sound tile core id byte leg task (asks_at (Emit byte) asks) change).0;
    settings = ap (λ view. view.settings) change.frame;
  }

  module _ (offset : ℕ) (write : Bool) (aborted : ℕ) (mid : View) (forced : TakesConflicts task offset write old aborted mid) where
    -- the task is queued
    there : task_at old id ≡ Some task
    there = takes.runs.on.there

    -- once what conflicts is taken back, the view is sound
    conflicts_follow : Follows image old mid
    conflicts_follow =
        abort_follows image (Conflicts old task (offset / old.settings.line) write) old mid aborted forced
        (abort_of_conflicts_is_sound image id (offset / old.settings.line) task write old aborted mid sound there forced).0

    -- the task that makes the access stays as it was
    taker_stays : task_at mid id ≡ Some task
    taker_stays =
        spared_stays (Conflicts old task (offset / old.settings.line) write) old mid aborted id forced
        (false_from_ne_true (is_marked forced.marks id)
        (conflicts_spare_asker image old id (offset / old.settings.line) task write forced.marks sound there forced.cascade))
        ∙ there

    -- and asks for the same
    asks_still : (request : Request) → request_of old task leg ≡ request
        → AsksAt image mid tile core leg id task request
    asks_still request asks =
        record {
          is_leg = still_taken image old sound mid tile core id leg task conflicts_follow taker_stays is_taken;
          asks = ap (λ v. request_at (context_of v task) leg.to leg.stop) (conflicts_follow.now.version ∙ sym sound.version) ∙ asks;
        }

    -- and nothing conflicts any more: what conflicted was taken back, and what was taken back is idle
    none_conflicts : NoneConflicts mid task offset write
    none_conflicts k c = by_mark (is_marked forced.marks k) refl
      where
        by_mark : (b : Bool) → is_marked forced.marks k ≡ b → ⊥
        by_mark true marked =
            let back = marked_is_back forced k c.other marked c.later.there in
            let no_way : true ≡ false = sym c.later.dispatched ∙ ap is_dispatched back.is in
            absurd (cc (no_way))
        by_mark false spared =
            let was : task_at old k ≡ Some c.other =
            sym (spared_stays (Conflicts old task (offset / old.settings.line) write) old mid aborted k forced spared)
            ∙ c.later.there in
            let line : HasLine write c.other (offset / old.settings.line) =
            subst (λ s. HasLine write c.other (offset / s.line)) conflicts_follow.settings c.has_line in
            let marked = forced.cascade.least.holds k (record { other = c.other; later = record { there = was; dispatched = c.later.dispatched; later = c.later.later }; has_line = line }) in
            let no_way : true ≡ false = sym marked ∙ spared in
            absurd (cc (no_way))

  -- a load
  pub load_leads : (width : LoadWidth) (rd offset : ℕ) → request_of old task leg ≡ Load width rd offset
      → (aborted : ℕ) (new : View)
      → LoadEvent tile core leg id task width rd offset old aborted new → Follows image old new
  load_leads width rd offset asks aborted new made =
      let follows = conflicts_follow offset false aborted made.mid made.forced in
      record {
        now = (load_stays_sound image made.mid new follows.now tile core id leg task width rd offset
            (asks_still offset false aborted made.mid made.forced (Load width rd offset) asks) (none_conflicts offset false aborted made.mid made.forced) made.change).0;
        settings = ap (λ view. view.settings) made.change.frame ∙ follows.settings;
      }

  -- a store
  pub store_leads : (offset bytes value : ℕ) → request_of old task leg ≡ Store offset bytes value
      → (aborted : ℕ) (new : View)
      → StoreEvent tile core leg id task offset bytes value old aborted new → Follows image old new
  store_leads offset bytes value asks aborted new made =
      let follows = conflicts_follow offset true aborted made.mid made.forced in
      record {
        now = (store_stays_sound image made.mid new follows.now tile core id leg task offset bytes value
            (asks_still offset true aborted made.mid made.forced (Store offset bytes value) asks) (none_conflicts offset true aborted made.mid made.forced) made.change).0;
        settings = ap (λ view. view.settings) made.change.frame ∙ follows.settings;
      }
