-- The categories of counts: the kinds of acts and events, why tasks were aborted, and why what was asked for stalled.
use Rattle.std.specs.Prelude.{◌+◌, Some, None}
use Rattle.std.specs.declared.option.Option.{Option}
use Rattle.task_request.specs.declared.request.Request.{Request}
use Rattle.task_request.specs.declared.request.Request.TheVariants as requests
use Rattle.watch_text.specs.event_def.declared.event.Event.{Event}
use Rattle.watch_text.specs.event_def.declared.event.Event.TheVariants as event
use Rattle.watch_text.specs.step_script.declared.act.Act.{Act}
use Rattle.watch_text.specs.step_script.declared.act.Act.TheVariants as acts
use Rattle.watch_text.specs.step_script.Asking.{Attempt, Hands, Says}
use Rattle.watch_counts.specs.declared.acts.ActCounts.{ActCounts}
use Rattle.watch_counts.specs.declared.acts.ActKind.{ActKind}
use Rattle.watch_counts.specs.declared.acts.ActKind.TheVariants as kinds
use Rattle.watch_counts.specs.declared.causes.Cause.{Cause}
use Rattle.watch_counts.specs.declared.causes.Cause.TheVariants as causes
use Rattle.watch_counts.specs.declared.causes.CauseCounts.{CauseCounts}
use Rattle.watch_counts.specs.declared.stalls.StallCounts.{StallCounts}

-- ---- acts and events

abbrev pub kind_of_event : {N : Type 0} → Event N → ActKind
kind_of_event (event.Dispatch tile) = kinds.Dispatch
kind_of_event (event.Step tile core leg) = kinds.Step
kind_of_event (event.Abort tile) = kinds.Abort
kind_of_event event.Commit = kinds.Commit
kind_of_event (event.Coalesce tile) = kinds.Coalesce
kind_of_event (event.Split tile) = kinds.Split

abbrev pub kind_of_act : Act → ActKind
kind_of_act (acts.Dispatch tile) = kinds.Dispatch
kind_of_act (acts.Step tile core) = kinds.Step
kind_of_act (acts.Take tile core) = kinds.Take
kind_of_act (acts.Give tile core) = kinds.Give
kind_of_act (acts.Abort tile) = kinds.Abort
kind_of_act acts.Commit = kinds.Commit
kind_of_act (acts.Coalesce tile) = kinds.Coalesce
kind_of_act (acts.Split tile) = kinds.Split
kind_of_act acts.Advance = kinds.Advance

-- the kind of the event that is handed in, or of the act where none is
abbrev pub kind_done : {N : Type 0} → Act → Attempt N → ActKind
kind_done act (Hands event) = kind_of_event event
kind_done act (Says reply) = kind_of_act act

-- one more of a kind
abbrev pub one_more : ActKind → ActCounts → ActCounts
one_more kinds.Dispatch c = record c { dispatch = c.dispatch + 1 }
one_more kinds.Step c = record c { step = c.step + 1 }
one_more kinds.Take c = record c { take = c.take + 1 }
one_more kinds.Give c = record c { give = c.give + 1 }
one_more kinds.Abort c = record c { abort = c.abort + 1 }
one_more kinds.Commit c = record c { commit = c.commit + 1 }
one_more kinds.Coalesce c = record c { coalesce = c.coalesce + 1 }
one_more kinds.Split c = record c { split = c.split + 1 }
one_more kinds.Advance c = record c { advance = c.advance + 1 }

-- ---- aborted tasks

-- why a step aborts tasks, by what its task asks for: a load or a store conflicts with them, an enqueue needs room in a
-- task queue, and an end in the commit queue
abbrev pub cause_in_step : Option Request → Option Cause
cause_in_step None = None
cause_in_step (Some (requests.Load width rd offset)) = Some causes.Load
cause_in_step (Some (requests.Store offset width value)) = Some causes.Store
cause_in_step (Some (requests.Enqueue spawn)) = Some causes.TaskQueue
cause_in_step (Some requests.End) = Some causes.CommitQueue
cause_in_step (Some other) = None

-- why an event does: a dispatch wants a core, a split room in a task queue; an abort was asked for
abbrev pub cause_of : {N : Type 0} → Event N → Option Request → Option Cause
cause_of (event.Dispatch tile) request = Some causes.Core
cause_of (event.Step tile core leg) request = cause_in_step request
cause_of (event.Abort tile) request = Some causes.Asked
cause_of event.Commit request = None
cause_of (event.Coalesce tile) request = None
cause_of (event.Split tile) request = Some causes.TaskQueue

-- one more for this cause
abbrev pub one_taken : Option Cause → CauseCounts → CauseCounts
one_taken None c = c
one_taken (Some causes.Load) c = record c { load = c.load + 1 }
one_taken (Some causes.Store) c = record c { store = c.store + 1 }
one_taken (Some causes.CommitQueue) c = record c { commit_queue = c.commit_queue + 1 }
one_taken (Some causes.TaskQueue) c = record c { task_queue = c.task_queue + 1 }
one_taken (Some causes.Core) c = record c { core = c.core + 1 }
one_taken (Some causes.Asked) c = record c { asked = c.asked + 1 }

-- ---- stalls

-- one more step that stalled, by what its task asks for
abbrev pub one_stalled_step : Option Request → StallCounts → StallCounts
one_stalled_step None c = c
one_stalled_step (Some (requests.Enqueue spawn)) c = record c { task_queue = c.task_queue + 1 }
one_stalled_step (Some requests.End) c = record c { commit_queue = c.commit_queue + 1 }
one_stalled_step (Some other) c = c
