-- An enqueue of the least task brings it nearer to its commit.
use Rattle.std.proofs.Common.{ℕ, ◌≡◌, ◌≢◌, ◌<◌, [], ◌∷◌, ◌++◌, List, Some, refl, sym, ap, ◌∙◌, arith}
use Rattle.std.specs.Prelude.{length}
use Rattle.std.specs.declared.cmp.Ordering.TheVariants.{Less}
use Rattle.fractal_vt.specs.Keys.{key_cmp}
use Rattle.fractal_vt.specs.declared.key.Key.{Key}
use Rattle.guest_image.specs.ImageValue.{ImageValue}
use Rattle.place_policy.specs.Policy.{Policy}
use Rattle.rv_core.specs.LegValue.{LegValue}
use Rattle.task_desc.specs.declared.desc.Spawn.{Spawn}
use Rattle.task_request.specs.declared.request.Request.TheVariants.{Enqueue}
use Rattle.task_request.specs.Requests.{request_at}
use Rattle.event_def.specs.spec_state.declared.task.Status.TheVariants.{Idle, Running}
use Rattle.event_def.specs.spec_state.declared.task.Task.{Task}
use Rattle.event_def.specs.spec_state.View.{View, task_at}
use Rattle.event_def.specs.spec_state.Tasks.{context_of}
use Rattle.event_def.specs.spec_state.Least.{IsHeir, IsTheLeast}
use Rattle.event_def.specs.spec_state.Room.{Enqueuer, asker_of}
use Rattle.event_def.specs.spec_state.Changes.{TakesLeg, request_of, task_past_leg}
use Rattle.spec_law.specs.RoomLaws.{AsksAsLeast, child_of}
use Rattle.spec_law.specs.Sound.{Sound}
use Rattle.spec_law.specs.Keeping.{AsksAt, IsLegOf}
use Rattle.spec_law.proofs.Proved.{add_keeps_heir, adds, child_is_above, step_keeps_heir, steps_one, StepsOne}
use Rattle.spec_law.proofs.Proved.{without_child}
use Rattle.event_def.specs.Advancing.{HasRest, IsLeastLeg}
use Rattle.event_def.specs.Book.{BookView, picked_tile}
use Rattle.event_def.specs.End.{IsOver}
use Rattle.event_def.specs.Events.{EnqueueEvent}
use Rattle.event_law.proofs.Falls.Heir.{the_heir, room_leaves_heir}
use Rattle.event_law.proofs.Falls.Legs.{is_run, ask_leads_on}
use Rattle.event_law.proofs.Falls.Steps.{heir_is_least, taker_is_heir, runs_further}
use Rattle.event_law.proofs.Keeps.Forced.{Follows, still_taken}
use Rattle.event_law.proofs.Keeps.Room.{room_follows, asker_is_there}

module _ (image : ImageValue) (book : BookView) (sound : Sound image book.view) (tile core : ℕ) (leg : LegValue) (next : IsLeastLeg image book.view tile core leg) (goes_on : IsOver book.view → ⊥) (before : ℕ) (had : HasRest book.view before) (new : View) (after : ℕ) (has : HasRest new after) (id : ℕ) (task : Task) (takes : TakesLeg book.view tile core leg id task) (spawn : Spawn) (asks_it : request_of book.view task leg ≡ Enqueue spawn) (aborted : ℕ) (placers : List Policy) (made : EnqueueEvent tile core leg id task spawn book aborted new placers) where
  -- the tile of the child
  abbrev to : ℕ
  to = picked_tile book spawn.hint

  -- the task that makes it is the heir
  heir : IsHeir book.view (Some id)
  heir = taker_is_heir image book.view sound tile core leg next goes_on before had id task takes

  heir_same : IsTheLeast book.view id → Enqueuer id ≡ asker_of sound.heir
  heir_same least = ap asker_of (sym (the_heir image book.view sound id heir))

  -- a running task isn't idle
  is_busy : task.status ≢ Idle
  is_busy idle = (let clash : Running core ≡ Idle = sym takes.runs.running ∙ idle in absurd (cc (clash)))

  -- it asks as the least task
  asks : IsTheLeast book.view id → (low : Key) × AsksAsLeast book.view to (Enqueuer id) low
  asks least = (heir.0.key, (heir.0, heir.1, heir.2, refl))

  -- what makes room for it leaves a sound view
  follows : Follows image book.view made.mid
  follows = room_follows image to (Enqueuer id) book.view sound heir_same asks made.forced

  -- where the leg is taken still
  taken : IsLegOf image made.mid tile core leg id task
  taken =
      let there = asker_is_there image to (Enqueuer id) book.view sound heir_same asks id task refl
      takes.runs.on.there is_busy made.forced in
      still_taken image book.view sound made.mid tile core id leg task follows there (record {
        takes = takes;
        run =
            is_run image book.view.settings.budget book.view.settings.quantum leg next.runs_on.is_leg (context_of book.view.version task) (Enqueue spawn) asks_it tt;
      })

  -- and asks for the same
  at : AsksAt image made.mid tile core leg id task (Enqueue spawn)
  at =
      record {
        is_leg = taken;
        asks = ap (λ v. request_at (context_of v task) leg.to leg.stop) (follows.now.version ∙ sym sound.version) ∙ asks_it;
      }

  -- the task, once it has made the child
  abbrev behind : Task
  behind = record (task_past_leg task leg) { spawns = task.spawns ++ spawn ∷ [] }

  -- the view without the child, where the task has made its step
  abbrev stepped : View
  stepped = without_child made.mid new made.change.child

  step : StepsOne made.mid stepped id task behind
  step = steps_one image made.mid new follows.now tile core id to leg task spawn at made.change

  -- in which it is the heir
  heir_stepped : IsHeir stepped (Some id)
  heir_stepped =
      step_keeps_heir made.mid stepped id task behind step (Some id)
      (room_leaves_heir image book.view sound id heir to made.forced)

  -- and below the child
  child_above : (h : ℕ) (x : Task) → Some id ≡ Some h → task_at stepped h ≡ Some x
      → key_cmp x.key (child_of made.mid.version id task spawn to).key ≡ Less
  child_above h x same at =
      let id_is : id ≡ h = cc in
      let both : Some x ≡ Some behind = sym at ∙ (ap (task_at stepped) (sym id_is) ∙ step.changes.changed) in
      let one : x ≡ behind = cc in
      ap (λ (t : Task). key_cmp t.key (child_of made.mid.version id task spawn to).key) one
      ∙ (child_is_above image book.view tile core id to leg task spawn sound takes asks_it).1

  -- the tile of the child has a queue
  inside : to < length made.mid.queues
  inside =
      let below = made.inside in
      let tiles : made.mid.settings.tiles ≡ book.view.settings.tiles = ap (λ s. s.tiles) follows.settings in
      let queues = follows.now.sizes.queues in
      omega (arith, below, tiles, queues)

  -- so it is the heir still
  heir_now : IsHeir new (Some id)
  heir_now =
      add_keeps_heir stepped new made.change.child (child_of made.mid.version id task spawn to)
      (adds image made.mid new follows.now tile core id to leg task spawn at made.change) inside
      (Some id) refl child_above heir_stepped

  -- and less is left
  pub enqueue_falls : after < before
  enqueue_falls =
      runs_further image book.view sound tile core leg next goes_on before had id task takes new
      (ap (λ view. view.settings) made.change.frame ∙ follows.settings) after has behind
      (heir_is_least new id behind heir_now made.change.creator) takes.runs.running
      (ask_leads_on image book.view.settings.budget book.view.settings.quantum leg next.runs_on.is_leg (context_of book.view.version task) (Enqueue spawn) asks_it tt behind.core refl)
