-- The laws of a commit and of a trap of the least task, put together.
use Rattle.std.proofs.Common.{◌≡◌, ℕ, zero, suc, ◌+◌, ◌≤◌, true, List, [], ◌∷◌, ◌++◌, length, Option, Some, None, refl}
use Rattle.std.proofs.Common.{sym, ap, subst, ◌∙◌, arith, slice_get}
use Rattle.std.specs.Prelude.{IsSome}
use Rattle.guest_image.specs.declared.image.Kind.{Kind}
use Rattle.task_desc.specs.declared.desc.Spawn.{Spawn}
use Rattle.pending_list.specs.declared.task.PendingTask.{PendingTask}
use Rattle.run_law.specs.serial_machine.BagValue.{BagValue}
use Rattle.run_law.specs.serial_machine.State.{SerialState, IsStack}
use Rattle.run_law.specs.serial_machine.TaskState.{TaskState}
use Rattle.run_law.specs.serial_machine.TaskRun.{Done}
use Rattle.run_law.specs.serial_machine.Turn.{context_in_bag, kind_outside, stack_after, run_in_bag}
use Rattle.run_law.proofs.Below.serial_machine.Proved.{IsStack-after, IsStack-inner}
use Rattle.run_law.proofs.Proved.{done-placed, HasDomain, HaveDomains as HavePlaces}
use Rattle.task_law.specs.Tasks.{pending}
use Rattle.task_law.specs.Commit.{Matches, HasTurn, HaveDomains}
use Rattle.task_law.specs.Domains.{context_of_domains}
use Rattle.memory_law.specs.Accesses.{after_accesses}
use Rattle.task_law.specs.Logged.{FinishesWithLog, TrapsWithLog}
use Rattle.task_law.specs.Turns.{IsSerialTurn, LeastCommitsSerially, LeastTrapsSerially}
use Rattle.task_law.proofs.Turning.{least_has_turn, commit_is_turn}
use Rattle.task_law.proofs.Fitting.{contexts_fit}
use Rattle.task_law.proofs.Subdomains.{done-fits}
use Rattle.task_law.proofs.Logging.{finished, logged_run_is_turn, logged_trap_is_serial}

place_at : (outer sub : Option Kind) (spawns : List Spawn) (index : ℕ) (spawn : Spawn) → HavePlaces outer sub spawns
    → slice_get spawns index ≡ Some spawn → HasDomain outer sub spawn.place
place_at outer sub [] index spawn have at = absurd (cc)
place_at outer sub (s ∷ spawns) zero spawn have at =
    let same : s ≡ spawn = cc in subst (λ z. HasDomain outer sub z.place) same have.0
place_at outer sub (s ∷ spawns) (suc index) spawn have at = place_at outer sub spawns index spawn have.1 at

some_kind : (sub : Option Kind) → IsSome sub → (kind : Kind) × (sub ≡ Some kind)
some_kind None is = absurd (cc (is))
some_kind (Some kind) is = (kind, refl)

two_bags : (outer : List BagValue) → IsSome (kind_outside outer) → 1 ≤ length outer
two_bags [] is = absurd (cc (is))
two_bags (bag ∷ outer) is = omega arith

pub have_domains : (bag : BagValue) (outer : List BagValue) (depth : ℕ) (sub : Option Kind) (spawns : List Spawn)
    → IsStack (bag ∷ outer) → bag.depth ≡ depth → HavePlaces (kind_outside outer) sub spawns
    → HaveDomains depth sub spawns
have_domains bag outer depth sub spawns falls deep have =
    record {
      inside =
          λ index spawn at e. some_kind sub (subst (HasDomain (kind_outside outer) sub) e (place_at (kind_outside outer) sub spawns index spawn have at));
      outside =
          λ index spawn at e. (let some = two_bags outer (subst (HasDomain (kind_outside outer) sub) e (place_at (kind_outside outer) sub spawns index spawn have at)) in omega (arith, some, deep, falls.0));
    }

pub least_commits : LeastCommitsSerially
least_commits image budget id turn_number index s old new spilled task own outer log after sound matches is_stack is_least is ready = (state, turns)
  where
    p : PendingTask
    p = pending turn_number index task.body task.ts

    next : HasTurn s.stack task.depth p
    next = least_has_turn s.count id id turn_number index true old spilled s.stack task sound matches is_stack is_least

    state : SerialState
    state =
        record {
          stack = stack_after next.bag next.outer p.name (s.count + 1) task.ts after.spawns after.sub;
          memory = after_accesses s.memory log;
          output = s.output ++ after.bytes;
          count = s.count + 1;
        }

    context : context_in_bag image.version next.bag next.outer p ≡ context_of_domains image.version own outer task.ts
    context =
        contexts_fit image.version s.stack p own outer is_stack ready.fits (record { bag = next.bag; outer = next.outer; may = next.may; deep = next.deep ∙ ready.deep })

    ended : FinishesWithLog image budget (length s.memory) (context_in_bag image.version next.bag next.outer p) p log
        after
    ended = subst (λ c. FinishesWithLog image budget (length s.memory) c p log after) (sym context) ready.finished

    falls : IsStack (next.bag ∷ next.outer)
    falls = subst IsStack next.may.top (IsStack-inner s.stack is_stack)

    done : TaskState
    done = record after { memory = after_accesses s.memory log }

    ran : run_in_bag image budget s next.bag next.outer p ≡ Done done
    ran =
        finished image budget (context_in_bag image.version next.bag next.outer p) s.memory p log after ended ready.replays

    have : HaveDomains task.depth after.sub task.spawns
    have = subst (HaveDomains task.depth after.sub) (sym ready.spawns)
        (have_domains next.bag next.outer task.depth after.sub after.spawns falls next.deep
        (done-placed image budget s next.bag next.outer p done ran))

    turns : IsSerialTurn image budget s new spilled task turn_number index log after state
    turns = record {
      taken = logged_run_is_turn image budget task.depth s p log after next ended ready.replays
          ∙ ap (λ d. Some (state, record { name = p.name; depth = d; ts = task.ts })) next.deep;
      stack =
          IsStack-after next.bag next.outer p.name (s.count + 1) task.ts after.spawns after.sub falls (done-fits image budget s next.bag next.outer p done ran);
      matches =
          subst (λ spawns. Matches (s.count + 1) new spilled (stack_after next.bag next.outer p.name (s.count + 1) task.ts spawns after.sub)) ready.spawns
          (commit_is_turn s.count id turn_number index old new spilled s.stack task after.sub sound matches is_stack is have next);
      memory = refl;
      output = refl;
      count = refl;
    }

pub least_traps : LeastTrapsSerially
least_traps image budget id turn_number index runs s tasks spilled task own outer log cause pc sound matches is_stack is_least fits deep trapped chain =
    logged_trap_is_serial image budget task.depth s p log cause pc next
    (subst (λ c. TrapsWithLog image budget (length s.memory) c p log cause pc) (sym context) trapped) chain
  where
    p : PendingTask
    p = pending turn_number index task.body task.ts

    next : HasTurn s.stack task.depth p
    next =
        least_has_turn s.count id id turn_number index runs tasks spilled s.stack task sound matches is_stack is_least

    context : context_in_bag image.version next.bag next.outer p ≡ context_of_domains image.version own outer task.ts
    context =
        contexts_fit image.version s.stack p own outer is_stack fits (record { bag = next.bag; outer = next.outer; may = next.may; deep = next.deep ∙ deep })
