-- A machine with one task, which is dispatched.
use Rattle.std.proofs.Common.{arith, ◌≡◌, ◌≢◌, ◌∙◌, ◌<◌, ◌^◌, ℕ, zero, suc, true, inl, refl, sym, ap, List, []}
use Rattle.std.proofs.Common.{◌∷◌, Option, Some, None, replicate, slice_index_or}
use Rattle.std.proofs.lemmas.List.Elements.{All-cons, All-nil}
use Rattle.std.specs.declared.marker.Brand.{Brand}
use Rattle.line_table.specs.declared.lines.FilterKind.TheVariants.{Modulo}
use Rattle.guest_image.specs.declared.image.ImageTask.{ImageTask}
use Rattle.guest_image.specs.declared.image.Kind.TheVariants.{Unordered}
use Rattle.guest_image.specs.ImageValue.{ImageValue, IsImage, IsTask, image_value}
use Rattle.memory_law.specs.Tasks.{In, Logged}
use Rattle.trace_tap.specs.declared.record.Deed.TheVariants as deed
use Rattle.run_journal.specs.declared.end.End.{End}
use Rattle.run_journal.specs.declared.end.End.TheVariants as ends
use Rattle.machine_run.specs.serial_machine.Run as serial
use Rattle.machine_run.specs.serial_machine.WholeRun.{IsRunOf}
use Rattle.machine_run.specs.serial_machine.declared.whole_run.SerialRun.{SerialRun}
use Rattle.machine_run.specs.spec_state.declared.settings.Settings.{Settings}
use Rattle.machine_run.specs.spec_state.declared.task.Creator.TheVariants.{Committed}
use Rattle.machine_run.specs.spec_state.declared.task.Status.TheVariants.{Running, Trapped}
use Rattle.machine_run.specs.spec_state.declared.task.Task.{Task}
use Rattle.machine_run.specs.spec_state.View.{View}
use Rattle.machine_run.specs.spec_state.Tasks.{idle_task, start_core}
use Rattle.machine_run.specs.spec_state.Groups.{logged_task, logged_tasks}
use Rattle.machine_run.specs.spec_state.Least.{Queued, Precedes}
use Rattle.machine_run.specs.spec_state.Queries.{IsIdle}
use Rattle.machine_run.specs.spec_state.Numbers as numbers
use Rattle.machine_run.specs.spec_state.Changes.{Dispatches}
use Rattle.machine_run.specs.spec_state.Aborts.{IsUndone}
use Rattle.machine_run.specs.event_def.declared.event.Event.TheVariants as event
use Rattle.machine_run.specs.event_def.declared.event.Reply.{Reply}
use Rattle.machine_run.specs.event_def.declared.event.Reply.TheVariants as reply
use Rattle.machine_run.specs.event_def.Book.{BookView, book_of}
use Rattle.machine_run.specs.event_def.Causes.{Cause}
use Rattle.machine_run.specs.event_def.End.{HasEnd, IsOver}
use Rattle.machine_run.specs.event_def.Events as events
use Rattle.machine_run.specs.event_def.Happens.{IsMade}
use Rattle.machine_run.specs.event_def.Opening.{IsOpening, PlacesImageTask, image_descriptor, opening_book}
use Rattle.machine_run.specs.event_def.Trace.{record_of}
use Rattle.machine_run.specs.step_script.declared.act.Act.{Act}
use Rattle.machine_run.specs.step_script.declared.act.Act.TheVariants as acts
use Rattle.machine_run.specs.step_script.declared.saying.Said.{Said}
use Rattle.machine_run.specs.step_script.Playing.{Plays, plainly}
use Rattle.machine_run.specs.Played.{IsPlayedRun}

-- ---- the image, its task, and the machine

abbrev pub settings : Settings
settings = record {
  tiles = 4;
  cores = 2;
  task_queue = 64;
  commit_queue = 16;
  line = 16;
  quantum = 64;
  workers = 0;
  commits = 1000000;
  budget = 65536;
  phase = 1000000;
  filter = Modulo;
}

abbrev image_task : ImageTask
image_task = record { entry = 0; ts = 0; args = 0 ∷ 0 ∷ 0 ∷ [] }

abbrev pub image : ImageValue
image = image_value Unordered [] [] 0 0 0 (image_task ∷ [])

is_task : IsTask image_task
is_task =
    let P : ℕ → Type 0 = λ arg. arg < 2 ^ 32 in
    let below : 0 < 2 ^ 32 = omega arith in
    record {
      entry = below;
      ts = below;
      three = refl;
      args =
          All-cons P 0 (0 ∷ 0 ∷ []) below (All-cons P 0 (0 ∷ []) below (All-cons P 0 [] below (All-nil P)));
    }

pub is_image : IsImage image
is_image = record {
  version = inl refl;
  text = omega arith;
  initial = omega arith;
  data_size = omega arith;
  window_aligned = refl;
  window_inside = omega arith;
  window_words = omega arith;
  tasks = omega arith;
  some_task = omega arith;
  words = All-nil (λ (word : ℕ). word < 2 ^ 32);
  bytes = All-nil (λ (byte : ℕ). byte < 256);
  each_task = All-cons IsTask image_task [] is_task (All-nil IsTask);
}

-- the task before its dispatch and after it
abbrev idle : Task
idle = idle_task 1 (image_descriptor Unordered 0 image_task) (Committed 0 0) 0

abbrev running : Task
running = record idle { key = record idle.key { tb = Some 0 }; status = Running 0; core = start_core 1 idle }

-- the machine with these tasks, this next dispatch number, and these ids in the queue and on the cores of tile 0
abbrev view_with : List (Option Task) → ℕ → List ℕ → List (Option ℕ) → View
view_with tasks next queue cores = record {
  version = 1;
  settings = settings;
  tasks = tasks;
  memory = [];
  history = [];
  output = [];
  next = next;
  path = [];
  queues = queue ∷ replicate 3 [];
  finished = replicate 4 [];
  cores = cores ∷ replicate 3 (replicate 2 None);
  blocks = replicate 4 [];
}

-- it without the task, with it idle, and with it running
abbrev empty : View
empty = view_with [] 0 [] (None ∷ None ∷ [])

abbrev placed : View
placed = view_with (Some idle ∷ []) 0 (0 ∷ []) (None ∷ None ∷ [])

abbrev dispatched : View
dispatched = view_with (Some running ∷ []) 1 (0 ∷ []) (Some 0 ∷ None ∷ [])

abbrev opened : BookView
opened = book_of placed [] [] 0

abbrev played : BookView
played = book_of dispatched [] [] 1

-- ---- one task alone

none_else : (t : Task) (k : ℕ) → k ≢ 0 → slice_index_or (Some t ∷ []) k None ≡ None
none_else t zero other = absurd (other refl)
none_else t (suc k) other = refl

the_only : (t : Task) (id : ℕ) (x : Task) → slice_index_or (Some t ∷ []) id None ≡ Some x → t ≡ x
the_only t zero x is = cc
the_only t (suc id) x is = absurd (cc (is))

-- with a task that isn't trapped, and no commit, the run has no end
no_end : (t : Task) (next : ℕ) (cores : List (Option ℕ)) → ((core cause : ℕ) → t.status ≡ Trapped core cause → ⊥)
    → (end : End) → HasEnd (view_with (Some t ∷ []) next (0 ∷ []) cores) end → ⊥
no_end t next cores goes ends.Normal all =
    all (Queued 0 0) t.key (0, t, record { queued = refl; there = refl }, refl)
no_end t next cores goes ends.Limit limit = let count = limit.1 in omega (arith, count)
no_end t next cores goes (ends.Trap name cause pc) trap =
    let found = trap.1 in
    let same : t ≡ found.task = the_only t found.id found.task found.least.queued_at.there in
    goes found.core cause (ap (λ (x : Task). x.status) same ∙ found.trapped)
no_end t next cores goes ends.Unfinished none = none

not_over : (t : Task) (next : ℕ) (cores : List (Option ℕ)) → ((core cause : ℕ) → t.status ≡ Trapped core cause → ⊥)
    → IsOver (view_with (Some t ∷ []) next (0 ∷ []) cores) → ⊥
not_over t next cores goes over = no_end t next cores goes over.0 over.1

-- ---- the opening

places : PlacesImageTask Unordered 0 image_task (opening_book empty [] []) opened
places = record {
  inside = omega arith;
  mid = empty;
  room = inl (omega arith, refl);
  id = 0;
  vacant = refl;
  changes = record { changed = refl; others = none_else idle };
  queues = refl;
  frame = refl;
  told = refl;
  same = refl;
}

is_opening : IsOpening image settings [] [] opened
is_opening = record {
  empty = empty;
  is_empty = record { none = λ id. refl; frame = refl };
  placed = (opened, places, refl);
}

-- ---- the dispatch

is_idle : IsIdle placed 0 0 idle
is_idle = record { queued = (0, omega arith, refl); there = refl; idle = refl }

none_before : (k : ℕ) (x : Task) → k ≢ 0 → IsIdle placed 0 k x → Precedes placed 0 0 k
none_before k x other is =
    let none = none_else idle k other in
    let there = is.there in
    absurd (cc (none, there))

dispatches : Dispatches 0 placed dispatched
dispatches = record {
  id = 0;
  task = idle;
  least = record { idle = is_idle; least = none_before };
  core = 0;
  free = record { free = refl; lowest = λ other less is. omega (arith, less) };
  changes = record {
    changed = refl;
    others = λ k other. none_else running k other ∙ sym (none_else idle k other);
  };
  next = refl;
  cores = refl;
  frame = refl;
}

granted : (other : Reply) → Cause {N = Brand} opened (event.Dispatch 0) other → ⊥
granted reply.Ended cause = not_over idle 0 (None ∷ None ∷ []) (λ core number is. cc (is)) cause
granted reply.Empty cause = cause 0 idle is_idle
granted reply.Busy cause = cause.held 0 refl
granted other cause = cause

is_made : IsMade {N = Brand} opened (event.Dispatch 0) 0 played
is_made = record {
  goes_on = refl;
  granted = granted;
  makes = (
    record {
      mid = placed;
      forced = events.has_free 0 refl;
      ready = placed;
      number = numbers.has_free (omega arith);
      change = dispatches;
    },
    refl,
  );
  seen = record_of deed.Dispatch 0 None 0 dispatched;
  is_record = refl;
  noted_it = refl;
  steps = refl;
  stopped = refl;
}

-- ---- what is played and left

abbrev pub script : List Act
script = acts.Dispatch 0 ∷ []

abbrev pub said : List Said
said = plainly reply.Ok ∷ []

plays : Plays Brand image script opened said played
plays = (
  [],
  (
    record { book = played; held = [] },
    record {
      hands_in = record { reply = reply.Ok; word = refl; there = λ e. cc (e); happens = is_made };
      held = refl;
    },
    refl,
  ),
)

abbrev pub run : SerialRun
run = record { journal = []; memory = []; output = []; end = Some ends.Unfinished }

by_key : (id : ℕ) (task : Logged) → logged_tasks dispatched id ≡ Some task → task.dispatched ≡ true → In id (0 ∷ [])
by_key zero task is on = inl refl
by_key (suc id) task is on = absurd (cc (is))

is_undone : IsUndone dispatched (λ id. true) []
is_undone = record {
  ids = 0 ∷ [];
  by_key = record {
    ascends = (logged_task running, refl, refl, λ k other none is. absurd none, tt);
    complete = by_key;
  };
  memory_is = refl;
}

pub is_played : IsPlayedRun Brand image settings script [] [] said 1 ends.Unfinished run
is_played = record {
  opening = opened;
  is_opening = is_opening;
  last = played;
  plays = plays;
  leaves = record { journal_is = refl; output_is = refl; memory_is = is_undone; events_are = refl };
  stands = not_over running 1 (Some 0 ∷ None ∷ []) (λ core number is. cc (is));
  end_is = refl;
}

pub is_run : IsRunOf image 1000000 65536 run
is_run = record {
  state = serial.opening image;
  is_run = refl;
  within = omega arith;
  memory_is = refl;
  output_is = refl;
  end_is = (λ e. cc (e), omega arith);
}
