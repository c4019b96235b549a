use Rattle.std.proofs.Common.{sym, subst, ℕ, List}
use Rattle.std.specs.Prelude.{IsSome}
use Rattle.abort_cascade.specs.Cascade.{Marked}
use Rattle.memory_law.specs.Tasks.{IsByKey}
use Rattle.spec_state.specs.View.{View, task_at}
use Rattle.spec_state.specs.Groups.{logged_tasks}
use Rattle.spec_state.specs.Aborts.{OnlyNode}
use Rattle.spec_rollback.proofs.Aborted.{AbortsTelling, telling_of}
use Rattle.spec_rollback.proofs.aborting.abort.Goals as goal

pub abort_marked-requires : goal.abort_marked-requires
abort_marked-requires g c =
    record {
      live = λ id marked. subst (λ (v : View). IsSome (task_at v id)) (sym c.mark_one.ensures.view)
          (subst (λ k. IsSome (task_at c.args.state.now.view k)) (sym ((c.mark_one.ensures.marks id).0 marked))
          c.requires.live);
      listed = c.mark_one.ensures.listed;
    }

pub returns-clause-aborts : goal.returns-clause-aborts
returns-clause-aborts g c ids by_key =
    telling_of (Marked c.mark_one.new.state.scratch.marks) (OnlyNode c.args.task.0) c.args.state.now.view
    c.abort_marked.result c.abort_marked.new.state.effect.back c.abort_marked.new.state.view c.mark_one.ensures.marks
    (subst (λ (v : View). (ids : List ℕ) → IsByKey (logged_tasks v) ids
    → AbortsTelling (Marked c.mark_one.new.state.scratch.marks) v c.abort_marked.result
    c.abort_marked.new.state.effect.back c.abort_marked.new.state.view)
    c.mark_one.ensures.view c.abort_marked.ensures.aborts ids by_key)
