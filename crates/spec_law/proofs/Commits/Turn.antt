-- The commit of a finished least task of a sound view is the serial machine's next turn.
use Rattle.std.proofs.Common.{◌≡◌, ◌+◌, ◌++◌, ℕ, true, [], length, Option, Some, None, refl, sym, ap, subst, ◌∙◌}
use Rattle.std.proofs.Common.{option_map, is_some, unwrap_or, slice_get}
use Rattle.std.specs.Prelude.{IsSome}
use Rattle.std.proofs.lemmas.List.{length-map}
use Rattle.fractal_vt.specs.Keys.{levels}
use Rattle.fractal_vt.specs.Levels.{closed_level}
use Rattle.guest_image.specs.ImageValue.{ImageValue}
use Rattle.memory_law.specs.Accesses.{after_accesses, Replays}
use Rattle.spec_state.proofs.Below.run_law.Proved.{count-run, done-placed}
use Rattle.pending_list.specs.declared.task.PendingTask.{PendingTask}
use Rattle.spec_state.specs.serial_machine.State.{SerialState, IsStack}
use Rattle.spec_state.specs.serial_machine.TaskRun.{Done, task_at_start}
use Rattle.spec_state.specs.serial_machine.TaskState.{TaskState}
use Rattle.spec_state.specs.serial_machine.Turn.{turn, stack_after, context_in_bag, run_in_bag}
use Rattle.spec_state.proofs.Below.serial_machine.Proved.{IsStack-inner}
use Rattle.spec_state.specs.task_law.Commit.{Matches, HasTurn, HaveDomains, IsLeastInBags, IsNextTurn}
use Rattle.spec_state.specs.task_law.Domains.{FitsBags, KeepsDomains}
use Rattle.spec_state.specs.task_law.Logged.{LoggedRun, FinishesWithLog}
use Rattle.spec_state.specs.task_law.Sound.{AreSound}
use Rattle.spec_state.specs.task_law.Tasks.{pending}
use Rattle.spec_state.proofs.Below.task_law.Proved.{commit_is_turn, contexts_fit, end_on, finished, have_domains}
use Rattle.spec_state.proofs.Below.task_law.Proved.{least_has_turn}
use Rattle.spec_state.proofs.Below.task_law.Proved.{logged_on, logged_run_is_turn, turns_keep_domains}
use Rattle.spec_state.specs.declared.task.Task.{Task}
use Rattle.spec_state.specs.View.{View, queue_at}
use Rattle.spec_state.specs.Tasks.{depth_of, start_context, is_dispatched}
use Rattle.spec_state.specs.Groups.{keyed_task, bag_creator, bag_task, bag_tasks, bags_spilled, domains_of}
use Rattle.spec_state.specs.Least.{IsHeir, IsLeastTask, Queued}
use Rattle.spec_state.specs.Changes.{Commits}
use Rattle.spec_law.specs.Sound.{Sound, HasEnded, StandsAs, done_so_far}
use Rattle.spec_law.proofs.Tasks.Beside.{queued_stands}
use Rattle.spec_law.proofs.Tasks.Foremost.{IsForemost, foremost}
use Rattle.spec_law.proofs.Tasks.Next.{least_is_innermost, queued_key}
use Rattle.spec_law.proofs.Tasks.Ranked.{least_is_one}
use Rattle.spec_law.proofs.Tasks.Stacked.{run_stack}
use Rattle.spec_law.proofs.Commits.Domains.{starts_so, count_domains}
use Rattle.spec_law.proofs.Commits.Memory.{log_replays}
use Rattle.spec_law.proofs.Commits.Taken.{bags_commit}

-- what is there
pub number_of : (o : Option ℕ) → IsSome o → (n : ℕ) × (o ≡ Some n)
number_of None is = absurd (cc (is))
number_of (Some n) is = (n, refl)

-- the least task, where it is dispatched, is the heir
least_is_heir : (view : View) (heir : Option ℕ) → IsHeir view heir → (id : ℕ) (task : Task) → IsLeastTask view id task
    → is_dispatched task ≡ true → heir ≡ Some id
least_is_heir view None none id task least runs = absurd (none id task least runs)
least_is_heir view (Some h) is id task least runs =
    let spots : Queued is.0.tile is.1.place ≡ Queued task.tile least.place =
    least_is_one view (Queued is.0.tile is.1.place) (Queued task.tile least.place) is.1.least least.least in
    let tile : is.0.tile ≡ task.tile = cc in
    let place : is.1.place ≡ least.place = cc in
    let both : Some h ≡ Some id = sym is.1.queued_at.queued ∙ (λ i. slice_get (queue_at view (tile i)) (place i)) ∙ least.queued_at.queued in
    both

module _ (image : ImageValue) (old new : View) (sound : Sound image old) (commit : Commits old new) where
  -- the task has come to its end
  ended : IsSome commit.task.key.tb × HasEnded image old.version old.settings.budget commit.task
  ended =
      subst (StandsAs image old.version old.settings.budget commit.task) commit.finished_is (sound.tasks.stands commit.id commit.task commit.least.queued_at.there)

  -- its dispatch number
  pub numbered : (n : ℕ) × (commit.task.key.tb ≡ Some n)
  numbered = number_of commit.task.key.tb ended.0

  -- it is dispatched
  pub runs : is_dispatched commit.task ≡ true
  runs = ap is_some numbered.1

  -- it is the heir
  pub is_heir : sound.heir ≡ Some commit.id
  is_heir = least_is_heir old sound.heir sound.is_heir commit.id commit.task commit.least runs

  -- the serial machine has taken as many turns as the journal is long
  pub counted : sound.serial.count ≡ length old.history
  counted = count-run image old.settings.budget old.history sound.serial sound.is_run

  -- names are apart with this task as the heir
  pub names : AreSound (length old.history) commit.id true (bag_tasks old) (bags_spilled old)
  names =
      subst (λ heir. AreSound (length old.history) (unwrap_or heir 0) (is_some heir) (bag_tasks old) (bags_spilled old)) is_heir sound.tasks.names

  -- the depths of the serial machine's bags fall by one
  is_stack : IsStack sound.serial.stack
  is_stack = run_stack image old.settings.budget old.history sound.serial sound.is_run

  -- no free task is deeper, and none of its depth is earlier
  pub front : IsForemost old sound.sizes sound.heir (depth_of commit.task) commit.task.key.ts
  front =
      let least = commit.least in
      let key = queued_key old commit.task.tile least.place commit.id commit.task least.least.key least.queued_at least.least.has in
      let inner = least_is_innermost image old sound (Queued commit.task.tile least.place) least.least commit.id (keyed_task commit.task)
      (queued_stands old sound.heir commit.id commit.task least.queued_at.there) (ap levels (sym key)) in
      foremost old sound.sizes sound.heir (keyed_task commit.task) (depth_of commit.task) commit.task.key.ts inner
      (ap (λ n. n + 1) (length-map commit.task.key.domain closed_level)) refl

  -- the pending task of the serial machine
  abbrev pub p : PendingTask
  p = pending commit.turn commit.index (bag_task commit.task).body commit.task.key.ts

  -- it is the least task for the bags
  is_least : IsLeastInBags (length old.history) (bag_tasks old) (bags_spilled old) commit.id (bag_task commit.task) commit.turn commit.index
  is_least =
      record {
        there = ap (option_map bag_task) commit.least.queued_at.there;
        creator = ap bag_creator commit.creator;
        deepest = front.deepest;
        first = front.first;
      }

  -- and may take the next turn
  pub next : HasTurn sound.serial.stack (depth_of commit.task) p
  next =
      least_has_turn (length old.history) commit.id commit.id commit.turn commit.index true (bag_tasks old) (bags_spilled old) sound.serial.stack (bag_task commit.task)
      names sound.tasks.matches is_stack is_least

  -- the log replays on the serial machine's memory
  replays : Replays sound.serial.memory commit.task.log
  replays =
      log_replays old new commit sound.sizes sound.heir sound.order numbered.0 numbered.1 sound.serial sound.memory

  -- the domains of the task are those of the bags, and its calls depend on them
  in_bags : FitsBags (domains_of commit.task.kinds commit.task.key.domain) sound.serial.stack
  in_bags =
      sound.tasks.domains commit.id commit.task commit.turn commit.index commit.least.queued_at.there commit.creator

  -- its calls depended on what those of its serial turn depend on
  same_context : context_in_bag image.version next.bag next.outer p ≡ start_context old.version commit.task
  same_context =
      let start = starts_so commit.task in
      let deep : depth_of commit.task ≡ length start.rest + 1 = ap (λ n. n + 1) (sym start.long) in
      ap (λ v. context_in_bag v next.bag next.outer p) (sym sound.version)
      ∙ contexts_fit old.version sound.serial.stack p start.own start.rest is_stack (subst (λ ds. FitsBags ds sound.serial.stack) start.is in_bags)
      (record { bag = next.bag; outer = next.outer; may = next.may; deep = next.deep ∙ deep })
      ∙ sym (start.context old.version)

  -- what the task did
  abbrev pub after : TaskState
  after = done_so_far image old.version old.settings.budget commit.task

  -- so its run by its log is a finished one on the serial machine's memory
  ends_so : FinishesWithLog image old.settings.budget (length sound.serial.memory) (context_in_bag image.version next.bag next.outer p) p commit.task.log after
  ends_so =
      let end = ended.1 in
      let start = task_at_start old.version commit.task.entry commit.task.key.ts commit.task.args [] in
      subst (λ ctx. FinishesWithLog image old.settings.budget (length sound.serial.memory) ctx p commit.task.log after) (sym same_context)
      (record {
        before = end.before;
        run =
            subst (λ v. LoggedRun image old.settings.budget (length sound.serial.memory) (start_context old.version commit.task)
            (task_at_start v commit.task.entry commit.task.key.ts commit.task.args []) commit.task.log end.before)
            sound.version
            (logged_on image old.settings.budget image.data_size (start_context old.version commit.task) start sound.serial.memory end.ran replays);
        ends =
            end_on image old.settings.budget image.data_size (start_context old.version commit.task) start sound.serial.memory end.ends;
        leaves = end.leaves;
      })

  -- the serial machine's state after the turn
  abbrev pub state : SerialState
  state = record {
    stack =
        stack_after next.bag next.outer p.name (sound.serial.count + 1) commit.task.key.ts commit.task.spawns commit.task.sub;
    memory = after_accesses sound.serial.memory commit.task.log;
    output = sound.serial.output ++ commit.task.bytes;
    count = sound.serial.count + 1;
  }

  -- the turn leads there
  pub taken : turn image old.settings.budget sound.serial (record { creator = commit.turn; index = commit.index })
      ≡ Some (state, record { name = record { creator = commit.turn; index = commit.index }; depth = depth_of commit.task; ts = commit.task.key.ts })
  taken =
      logged_run_is_turn image old.settings.budget (depth_of commit.task) sound.serial p commit.task.log after next ends_so replays
      ∙ ap (λ d. Some (state, record { name = p.name; depth = d; ts = commit.task.key.ts })) next.deep

  -- each child for a subdomain or for the superdomain has that domain
  pub have : HaveDomains (depth_of commit.task) commit.task.sub commit.task.spawns
  have =
      let done : TaskState = record after { memory = after_accesses sound.serial.memory commit.task.log } in
      let ran : run_in_bag image old.settings.budget sound.serial next.bag next.outer p ≡ Done done =
      finished image old.settings.budget (context_in_bag image.version next.bag next.outer p) sound.serial.memory p commit.task.log after ends_so replays in
      have_domains next.bag next.outer (depth_of commit.task) commit.task.sub commit.task.spawns
      (subst IsStack next.may.top (IsStack-inner sound.serial.stack is_stack)) next.deep
      (done-placed image old.settings.budget sound.serial next.bag next.outer p done ran)

  -- for the bags this is the commit of the next turn
  pub is_next : IsNextTurn (length old.history) (bag_tasks old) (bag_tasks new) commit.id (bag_task commit.task) commit.turn commit.index
  is_next =
      record {
        there = ap (option_map bag_task) commit.least.queued_at.there;
        dispatched = runs;
        creator = ap bag_creator commit.creator;
        commits = bags_commit old new commit;
      }

  -- the free tasks are the pending ones after the turn
  pub matches_now : Matches (length old.history + 1) (bag_tasks new) (bags_spilled old) state.stack
  matches_now =
      subst (λ count. Matches (length old.history + 1) (bag_tasks new) (bags_spilled old)
      (stack_after next.bag next.outer p.name (count + 1) commit.task.key.ts commit.task.spawns commit.task.sub)) (sym counted)
      (commit_is_turn (length old.history) commit.id commit.turn commit.index (bag_tasks old) (bag_tasks new) (bags_spilled old) sound.serial.stack (bag_task commit.task)
      commit.task.sub names sound.tasks.matches is_stack is_next have next)

  -- the domains of the other free tasks stay, and those of the children are there
  pub keeps_domains : KeepsDomains (depth_of commit.task) commit.task.key.ts (domains_of commit.task.kinds commit.task.key.domain) commit.task.sub commit.task.spawns
      sound.serial.stack state.stack
  keeps_domains =
      turns_keep_domains sound.serial.stack p (domains_of commit.task.kinds commit.task.key.domain) (depth_of commit.task) (sound.serial.count + 1) commit.task.spawns commit.task.sub
      is_stack in_bags (count_domains commit.task.kinds commit.task.key.domain) have next
