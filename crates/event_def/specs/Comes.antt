-- The outcome of an event in a book that wasn't stopped, before its taps note it.
use Rattle.std.specs.Prelude.{◌≡◌, List}
use Rattle.place_policy.specs.Policy.{Policy}
use Rattle.spec_state.specs.View.{View}
use Rattle.event_def.specs.declared.event.Came.{Came}
use Rattle.event_def.specs.declared.event.Came.TheVariants.{Made, Refused}
use Rattle.event_def.specs.declared.event.Event.{Event}
use Rattle.event_def.specs.declared.event.Reply.TheVariants as replies
use Rattle.event_def.specs.Book.{BookView}
use Rattle.event_def.specs.Causes.{IsRefused, IsGranted, TakesMemory}
use Rattle.event_def.specs.Events.{Makes}
use Rattle.event_def.specs.Trace.{IsRecord}

-- the view and the placers are as they were
abbrev pub IsAsBefore : BookView → View → List Policy → Type 0
IsAsBefore book view placers = (view ≡ book.view) × (placers ≡ book.placers)

-- from a book the event leads to this view and these placers, and this is its record; or it is refused with this
-- reply, or memory runs out for an event that takes it and that nothing else refuses, and view and placers are as
-- they were
abbrev pub Comes : {N : Type 0} → BookView → Event N → Came → View → List Policy → Type 0
Comes book event (Made seen) view placers =
    IsGranted book event
    × Makes book event seen.aborted view placers
    × IsRecord book.view event seen.aborted view seen
Comes book event (Refused replies.Ok) view placers = ⊥
Comes book event (Refused replies.Memory) view placers =
    IsGranted book event × TakesMemory book event × IsAsBefore book view placers
Comes book event (Refused reply) view placers = IsRefused book event reply × IsAsBefore book view placers
