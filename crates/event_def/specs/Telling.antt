-- What an event reports of what it did beside its one change: the tasks that it aborted, those that it spilled, and the
-- one that it created. The report is about the event's own cascade, its own coalescing and its own new task, and no
-- other.
use Rattle.std.specs.Prelude.{◌≡◌, ℕ, Bool, List, [], Some, None, map}
use Rattle.place_policy.specs.Policy.{Policy}
use Rattle.guest_image.specs.ImageValue.{ImageValue}
use Rattle.rv_core.specs.LegValue.{LegValue}
use Rattle.task_request.specs.declared.request.Request.{Request}
use Rattle.task_request.specs.declared.request.Request.TheVariants as requests
use Rattle.spec_state.specs.declared.task.Task.{Task}
use Rattle.spec_state.specs.View.{View}
use Rattle.spec_state.specs.Changes.{request_of}
use Rattle.spec_state.specs.Effects.{EffectValue, nothing}
use Rattle.spec_state.specs.Room as room
use Rattle.spec_state.specs.Room.{Asker, Enqueuer, MakesRoom, Splitter}
use Rattle.spec_state.specs.Told.{TellsBack, told_spilled}
use Rattle.event_def.specs.declared.event.Advance.{Advance}
use Rattle.event_def.specs.declared.event.Advance.TheVariants as answers
use Rattle.event_def.specs.declared.event.Came.{Came}
use Rattle.event_def.specs.declared.event.Came.TheVariants.{Made, Refused}
use Rattle.event_def.specs.declared.event.Event.{Event}
use Rattle.event_def.specs.declared.event.Event.TheVariants as event
use Rattle.event_def.specs.declared.event.Reply.{Reply}
use Rattle.event_def.specs.declared.event.Reply.TheVariants as replies
use Rattle.event_def.specs.Advancing.{AdvanceAnswers}
use Rattle.event_def.specs.Book.{BookView, picked_tile}
use Rattle.event_def.specs.Comes.{Comes}
use Rattle.event_def.specs.Events as events
use Rattle.event_def.specs.Events.{ComesTo, FreesCommit, FreesCore, Makes}
use Rattle.event_def.specs.Happens.{Happens}

-- these are reported as aborted, from here with these marks, and none as spilled
abbrev pub TellsAbort : View → List Bool → EffectValue → Type 0
TellsAbort old marks effect = TellsBack old marks effect.back × (effect.spilled ≡ [])

-- the tasks of these ids are reported as spilled, from here
abbrev pub TellsSpilled : View → List ℕ → EffectValue → Type 0
TellsSpilled old ids effect = effect.spilled ≡ map (told_spilled old) ids

-- none is reported as aborted or spilled
abbrev pub TellsNeither : EffectValue → Type 0
TellsNeither effect = (effect.back ≡ []) × (effect.spilled ≡ [])

-- what is reported where a core is freed
abbrev pub TellsCore : (tile : ℕ) (old : View) (aborted : ℕ) (mid : View) → FreesCore tile old aborted mid
    → EffectValue → Type 0
TellsCore tile old aborted mid (events.has_free core free) effect = TellsNeither effect
TellsCore tile old aborted mid (events.aborts_latest taken v task new held latest aborts) effect =
    TellsAbort old aborts.marks effect

-- where the commit queue gets a free place
abbrev pub TellsCommit : (tile : ℕ) (task : Task) (old : View) (aborted : ℕ) (mid : View)
    → FreesCommit tile task old aborted mid → EffectValue → Type 0
TellsCommit tile task old aborted mid (events.has_free free) effect = TellsNeither effect
TellsCommit tile task old aborted mid (events.aborts_latest taken v x new full latest later aborts) effect =
    TellsAbort old aborts.marks effect

-- where a task queue makes room
abbrev pub TellsRoom : (tile : ℕ) (asker : Asker) (old : View) (aborted : ℕ) (mid : View)
    → MakesRoom tile asker old aborted mid → EffectValue → Type 0
TellsRoom tile asker old aborted mid (room.queue_has_room has) effect = TellsNeither effect
TellsRoom tile asker old aborted mid (room.coalesces new full spills) effect =
    (effect.back ≡ []) × TellsSpilled old spills.ids effect
TellsRoom tile asker old aborted mid
    (room.aborts_victim taken v x between new full none least victim firm aborts spills) effect =
    TellsBack old aborts.marks effect.back × TellsSpilled between spills.ids effect
TellsRoom tile asker old aborted mid
    (room.aborts_creator taken v c x new full none least victim loose made_by aborts) effect =
    TellsAbort old aborts.marks effect

-- what a step reports, by what the task asks for at the end of its leg
abbrev pub TellsRequest : (tile core : ℕ) (leg : LegValue) (id : ℕ) (task : Task) (request : Request) (book : BookView)
    (aborted : ℕ) (new : View) (placers : List Policy)
    → ComesTo tile core leg id task request book aborted new placers → EffectValue → Type 0
TellsRequest tile core leg id task (requests.Load width rd offset) book aborted new placers comes effect =
    TellsAbort book.view comes.0.forced.marks effect × (effect.arrived ≡ None)
TellsRequest tile core leg id task (requests.Store offset width value) book aborted new placers comes effect =
    TellsAbort book.view comes.0.forced.marks effect × (effect.arrived ≡ None)
TellsRequest tile core leg id task (requests.Enqueue spawn) book aborted new placers comes effect =
    TellsRoom (picked_tile book spawn.hint) (Enqueuer id) book.view aborted comes.mid comes.forced effect
    × (effect.arrived ≡ Some (record { 0 = comes.change.child }))
TellsRequest tile core leg id task requests.End book aborted new placers comes effect =
    TellsCommit tile task book.view aborted comes.0.mid comes.0.forced effect × (effect.arrived ≡ None)
TellsRequest tile core leg id task other book aborted new placers comes effect = effect ≡ nothing

-- what an event reports that makes this
abbrev pub Tells : {N : Type 0} (book : BookView) (e : Event N) (aborted : ℕ) (new : View) (placers : List Policy)
    → Makes book e aborted new placers → EffectValue → Type 0
Tells book (event.Dispatch tile) aborted new placers makes effect =
    TellsCore tile book.view aborted makes.0.mid makes.0.forced effect × (effect.arrived ≡ None)
Tells book (event.Step tile core leg) aborted new placers makes effect =
    TellsRequest tile core leg makes.id makes.task (request_of book.view makes.task leg) book aborted new placers
    makes.comes effect
Tells book (event.Abort tile) aborted new placers makes effect =
    TellsAbort book.view makes.0.aborts.marks effect × (effect.arrived ≡ None)
Tells book event.Commit aborted new placers makes effect = effect ≡ nothing
Tells book (event.Coalesce tile) aborted new placers makes effect =
    effect ≡ record nothing { spilled = map (told_spilled book.view) makes.0.ids }
Tells book (event.Split tile) aborted new placers makes effect =
    TellsRoom tile Splitter book.view aborted makes.0.mid makes.0.forced effect
    × (effect.arrived ≡ Some (record { 0 = makes.0.change.id }))

-- the outcome of an event, and what it reports where it is made; where it is refused, nothing
abbrev pub TellsComing : {N : Type 0} (book : BookView) (e : Event N) (came : Came) (view : View)
    (placers : List Policy) → Comes book e came view placers → EffectValue → Type 0
TellsComing book e (Made seen) view placers comes effect = Tells book e seen.aborted view placers comes.1 effect
TellsComing book e (Refused reply) view placers comes effect = effect ≡ nothing

abbrev pub ComesTelling : {N : Type 0} → BookView → Event N → Came → View → List Policy → EffectValue → Type 0
ComesTelling book e came view placers effect =
    (comes : Comes book e came view placers) × TellsComing book e came view placers comes effect

-- an event happens so, and what it reports where it is made; where it is refused, nothing
abbrev pub TellsHappening : {N : Type 0} (old : BookView) (e : Event N) (reply : Reply) (aborted : ℕ)
    (new : BookView) → Happens old e reply aborted new → EffectValue → Type 0
TellsHappening old e replies.Ok aborted new happens effect =
    Tells old e aborted new.view new.placers happens.makes effect
TellsHappening old e reply aborted new happens effect = effect ≡ nothing

abbrev pub HappensTelling : {N : Type 0} → BookView → Event N → Reply → ℕ → BookView → EffectValue → Type 0
HappensTelling old e reply aborted new effect =
    (happens : Happens old e reply aborted new) × TellsHappening old e reply aborted new happens effect

-- what an advance reports, by the event for the least task; nothing where none is made
abbrev pub TellsAdvance : (N : Type 0) (image : ImageValue) (old : BookView) (reply : Advance) (new : BookView)
    → AdvanceAnswers N image old reply new → EffectValue → Type 0
TellsAdvance N image old (answers.Moved aborted) new answered effect =
    Tells old answered.0 aborted new.view new.placers answered.3.makes effect
TellsAdvance N image old other new answered effect = effect ≡ nothing

abbrev pub AdvanceTelling : Type 0 → ImageValue → BookView → Advance → BookView → EffectValue → Type 0
AdvanceTelling N image old reply new effect =
    (answered : AdvanceAnswers N image old reply new) × TellsAdvance N image old reply new answered effect
