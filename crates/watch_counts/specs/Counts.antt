-- What is counted of a story, from its opening on: what each moment adds, what an act that passes, and what the end of
-- a round. docs/machine/FIGURES.md has the same words.
use Rattle.std.specs.Prelude.{◌+◌, ◌-◌, ◌*◌, ◌&&◌, ℕ, List, Bool, true, false, not, max, length, replicate, fold}
use Rattle.std.specs.Prelude.{Some, None, count_by, is_some, option_and_then, slice_index_or, slice_set}
use Rattle.std.specs.Prelude.{if◌then◌else◌}
use Rattle.std.specs.declared.option.Option.{Option}
use Rattle.std.specs.List.{range_with_len}
use Rattle.guest_image.specs.declared.image.Kind.{Kind}
use Rattle.guest_image.specs.declared.image.Kind.TheVariants.{Unordered, Ordered}
use Rattle.task_request.specs.declared.request.Request.{Request}
use Rattle.watch_text.specs.spec_state.declared.effect.TakenTask.{TakenTask}
use Rattle.watch_text.specs.spec_state.declared.task.Task.{Task}
use Rattle.watch_text.specs.spec_state.Effects.{EffectValue}
use Rattle.watch_text.specs.spec_state.Tasks.{trap_cause}
use Rattle.watch_text.specs.spec_state.View.{View, block_at, cores_at, finished_at, queue_at}
use Rattle.watch_text.specs.event_def.declared.event.Event.{Event}
use Rattle.watch_text.specs.event_def.declared.event.Event.TheVariants as event
use Rattle.watch_text.specs.event_def.declared.event.Reply.{Reply}
use Rattle.watch_text.specs.event_def.declared.event.Reply.TheVariants as replies
use Rattle.watch_text.specs.step_script.declared.act.Act.{Act}
use Rattle.watch_text.specs.step_script.declared.act.Act.TheVariants as acts
use Rattle.watch_text.specs.step_script.Asking.{Attempt, Hands, Says}
use Rattle.watch_text.specs.Changes.{core_of_status, task_if}
use Rattle.watch_text.specs.Moments.{Moment}
use Rattle.watch_counts.specs.declared.accesses.AccessCounts.{AccessCounts}
use Rattle.watch_counts.specs.declared.acts.ActKind.{ActKind}
use Rattle.watch_counts.specs.declared.causes.Cause.{Cause}
use Rattle.watch_counts.specs.declared.counts.Counts.{Counts}
use Rattle.watch_counts.specs.declared.domains.DomainCounts.{DomainCounts}
use Rattle.watch_counts.specs.declared.done.Done.{Done}
use Rattle.watch_counts.specs.declared.places.PlaceCounts.{PlaceCounts}
use Rattle.watch_counts.specs.Kinds.{cause_of, kind_done, kind_of_act, kind_of_event, one_more, one_stalled_step}
use Rattle.watch_counts.specs.Kinds.{one_taken}
use Rattle.watch_counts.specs.Nothing.{no_counts}
use Rattle.watch_counts.specs.Work.{done_by, instructions, length_place, over_tiles, refused_leg}

-- ---- work

-- so many more at a place of a list of counts
abbrev pub add_at : ℕ → ℕ → List ℕ → List ℕ
add_at place more counts = slice_set counts place (slice_index_or counts place 0 + more)

abbrev pub more_accesses : (loads stores bytes : ℕ) → AccessCounts → AccessCounts
more_accesses loads stores bytes c =
    record { loads = c.loads + loads; stores = c.stores + stores; bytes = c.bytes + bytes }

-- one more of a kind, with so many domains around it
abbrev pub one_domain : Kind → ℕ → DomainCounts → DomainCounts
one_domain Ordered outer c = record c { ordered = add_at outer 1 c.ordered }
one_domain Unordered outer c = record c { unordered = add_at outer 1 c.unordered }

-- the subdomain, where there is one
abbrev pub one_subdomain : Option Kind → ℕ → DomainCounts → DomainCounts
one_subdomain None outer c = c
one_subdomain (Some kind) outer c = one_domain kind outer c

-- behind the commit of a task that has done this
abbrev pub after_commit : Done → Counts → Counts
after_commit done c = record c {
  work = record c.work { useful = c.work.useful + done.used };
  committed = more_accesses done.loads done.stores done.bytes c.committed;
  commits = one_domain done.kind done.outer c.commits;
  domains = one_subdomain done.sub (done.outer + 1) c.domains;
  lengths = add_at (length_place done.used) 1 c.lengths;
  tiles = record c.tiles { useful = add_at done.tile done.used c.tiles.useful };
}

-- ---- aborted tasks

-- after one more task that was aborted, which was discarded where it is gone
abbrev pub after_taken : Option Cause → Counts → TakenTask → Counts
after_taken cause c task = record c {
  work = record c.work { wasted = c.work.wasted + task.used };
  undone = more_accesses (task.accesses - task.stores) task.stores task.bytes c.undone;
  taken = one_taken cause c.taken;
  discarded = if task.gone then one_taken cause c.discarded else c.discarded;
  tiles = record c.tiles {
    wasted = add_at task.tile task.used c.tiles.wasted;
    taken = add_at task.tile 1 c.tiles.taken;
  };
}

-- ---- occupancy

-- of each core of a tile it is kept whether its last step stalled, since the last dispatch to it
abbrev pub put_stalled : (tile core : ℕ) → Bool → List Bool → List Bool
put_stalled tile core stalled cores = slice_set cores (4 * tile + core) stalled

-- a task was dispatched to the core of a tile
abbrev pub not_stalled : ℕ → Option ℕ → List Bool → List Bool
not_stalled tile None cores = cores
not_stalled tile (Some core) cores = put_stalled tile core false cores

-- whether a core of a tile passes a test, by whether it is stalled, on the task that it holds
abbrev pub on_core : View → List Bool → (Bool → Option Task → Bool) → (tile core : ℕ) → Bool
on_core view stalled test tile core = test (slice_index_or stalled (4 * tile + core) false)
    (task_if view (slice_index_or (cores_at view tile) core None))

-- how many cores of a tile do
abbrev pub cores_in : View → List Bool → (Bool → Option Task → Bool) → ℕ → ℕ
cores_in view stalled test tile = count_by (on_core view stalled test tile) (range_with_len 0 view.settings.cores)

abbrev pub runs : Bool → Option Task → Bool
runs stalled None = false
runs stalled (Some task) = not (is_some (trap_cause task.status)) && not stalled

abbrev pub stalls : Bool → Option Task → Bool
stalls stalled None = false
stalls stalled (Some task) = not (is_some (trap_cause task.status)) && stalled

abbrev pub is_trapped : Bool → Option Task → Bool
is_trapped stalled None = false
is_trapped stalled (Some task) = is_some (trap_cause task.status)

-- how many tasks are where: in task queues, where those on cores and in commit queues keep their places, and in blocks
abbrev pub places : View → List Bool → PlaceCounts
places view stalled = record {
  queued = over_tiles view (λ tile. length (queue_at view tile));
  running = over_tiles view (cores_in view stalled runs);
  stalled = over_tiles view (cores_in view stalled stalls);
  trapped = over_tiles view (cores_in view stalled is_trapped);
  finished = over_tiles view (λ tile. length (finished_at view tile));
  spilled = over_tiles view (λ tile. length (block_at view tile));
}

-- both added up, and the greater of each two, by a function of two numbers
abbrev pub by_place : (ℕ → ℕ → ℕ) → PlaceCounts → PlaceCounts → PlaceCounts
by_place both a b = record {
  queued = both a.queued b.queued;
  running = both a.running b.running;
  stalled = both a.stalled b.stalled;
  trapped = both a.trapped b.trapped;
  finished = both a.finished b.finished;
  spilled = both a.spilled b.spilled;
}

-- an event left this machine
abbrev pub with_standing : View → Counts → Counts
with_standing new c = let standing = places new c.stalled_cores in record c {
  standing = standing;
  over_events = by_place (λ sum number. sum + number) c.over_events standing;
  greatest = by_place max c.greatest standing;
}

-- ---- moments

-- a core of a tile to which a task was dispatched
abbrev pub dispatched_core : View → Option ℕ → Option ℕ
dispatched_core new task = option_and_then (λ (task : Task). core_of_status task.status) (task_if new task)

-- behind what is the own of each event that was made
abbrev pub after_own : {N : Type 0} → Event N → Option ℕ → Option Request → Option Done → View → Counts → Counts
after_own (event.Dispatch tile) task request did new c =
    record c { stalled_cores = not_stalled tile (dispatched_core new task) c.stalled_cores }
after_own (event.Step tile core leg) task request did new c = record c {
  work = record c.work { executed = c.work.executed + instructions leg.steps request };
  stalled_cores = put_stalled tile core false c.stalled_cores;
}
after_own event.Commit task request (Some done) new c = after_commit done c
after_own event task request did new c = c

-- after an event that was made, with the tasks that it aborted and spilled
abbrev pub after_event : {N : Type 0} → Event N → Option ℕ → Option Request → EffectValue → Option Done → View → Counts
    → Counts
after_event event task request effect did new c = with_standing new
    (fold (after_taken (cause_of event request)) (after_own event task request did new (record c {
      events = c.events + 1;
      made = one_more (kind_of_event event) c.made;
      spilled = c.spilled + length effect.spilled;
    })) effect.back)

-- behind an event that was refused
abbrev pub after_refusal : {N : Type 0} → Event N → Option Request → Counts → Counts
after_refusal (event.Step tile core leg) request c =
    record c { work = record c.work { refused = c.work.refused + refused_leg leg.steps request } }
after_refusal event request c = c

-- and stalled, too
abbrev pub after_stall : {N : Type 0} → Event N → Option Request → Counts → Counts
after_stall (event.Step tile core leg) request c = record c {
  stalls = one_stalled_step request c.stalls;
  stalled_cores = put_stalled tile core true c.stalled_cores;
}
after_stall (event.Split tile) request c = record c { stalls = record c.stalls { splits = c.stalls.splits + 1 } }
after_stall event request c = c

-- behind an event that has this reply
abbrev pub after_reply : {N : Type 0} → Reply → Event N → Option ℕ → Option Request → EffectValue → Option Done → View
    → Counts → Counts
after_reply replies.Ok event task request effect did new c = after_event event task request effect did new c
after_reply replies.Stall event task request effect did new c =
    after_stall event request (after_refusal event request c)
after_reply other event task request effect did new c = after_refusal event request c

-- after the outcome of an act
abbrev pub after_attempt : {N : Type 0} → Reply → Attempt N → Option ℕ → Option Request → EffectValue → Option Done
    → View → Counts → Counts
after_attempt reply (Hands event) task request effect did new c =
    after_reply reply event task request effect did new c
after_attempt reply (Says word) task request effect did new c = c

-- with one more advance, where the act is one
abbrev pub one_advance : Act → ℕ → ℕ
one_advance acts.Advance advances = advances + 1
one_advance act advances = advances

-- after an act of this number that has a log entry, and did what this kind does
abbrev pub after_told : ℕ → Act → ActKind → Counts → Counts
after_told at act kind c =
    record c { acts = at; told = one_more kind c.told; advances = one_advance act c.advances }

-- behind a moment
abbrev pub counts_after : {N : Type 0} → Counts → Moment N → Counts
counts_after c m = after_attempt m.reply m.asks m.task m.request m.effect (done_by m.old.view m.asks m.task) m.new.view
    (after_told m.at m.act (kind_done m.act m.asks) c)

-- behind an act that isn't asked for, and so passes
abbrev pub after_passed : Act → Counts → Counts
after_passed act c = record c { passed = one_more (kind_of_act act) c.passed }

-- behind the last act of a round
abbrev pub after_round : Counts → Counts
after_round c =
    record c { rounds = c.rounds + 1; over_rounds = by_place (λ sum number. sum + number) c.over_rounds c.standing }

-- before the first act: the tasks of the image that were placed in blocks, and where all of them are
abbrev pub counts_at : View → Counts
counts_at opening = let none = replicate 64 false in record no_counts {
  opening = over_tiles opening (λ tile. length (block_at opening tile));
  standing = places opening none;
}
