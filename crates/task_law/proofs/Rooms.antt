-- What is aborted for a victim may be aborted, and then the queue is shorter or an idle firm task is in it.
use Rattle.std.proofs.Common.{◌≡◌, ◌≢◌, ℕ, suc, ◌<◌, ◌≤◌, Bool, true, false, List, [], ◌∷◌, length, Option, Some, None}
use Rattle.std.proofs.Common.{is_some, refl, sym, ap, subst, ◌∙◌, inl, inr, arith}
use Rattle.task_law.specs.Tasks.{In}
use Rattle.task_law.specs.Room.{RoomTask, MayAbort, VictimIsLegal, kept_by, queue_after, VictimMakesRoom}

pub shorter_or_same : (new : ℕ → Option RoomTask) (queue : List ℕ) → length (queue_after new queue) ≤ length queue
shorter_or_same new [] = omega arith
shorter_or_same new (k ∷ ks) = by_kept (is_some (new k)) (shorter_or_same new ks)
  where
    by_kept : (b : Bool) → length (queue_after new ks) ≤ length ks
        → length (kept_by b k (queue_after new ks)) ≤ suc (length ks)
    by_kept true less = omega (arith, less)
    by_kept false less = omega (arith, less)

-- a queue with an id that has gone gets shorter
pub shorter : (new : ℕ → Option RoomTask) (v : ℕ) (queue : List ℕ) → new v ≡ None → In v queue
    → length (queue_after new queue) < length queue
shorter new v [] gone no_way = absurd no_way
shorter new v (k ∷ ks) gone (inl here) =
    subst (λ b. length (kept_by b k (queue_after new ks)) < suc (length ks)) (sym (ap is_some (ap new (sym here) ∙ gone))) (let less = shorter_or_same new ks in omega (arith, less))
shorter new v (k ∷ ks) gone (inr there) = by_kept (is_some (new k)) (shorter new v ks gone there)
  where
    by_kept : (b : Bool) → length (queue_after new ks) < length ks
        → length (kept_by b k (queue_after new ks)) < suc (length ks)
    by_kept true less = omega (arith, less)
    by_kept false less = omega (arith, less)

-- an id that is still there stays in the queue
pub still_in : (new : ℕ → Option RoomTask) (v : ℕ) (x : RoomTask) (queue : List ℕ) → new v ≡ Some x → In v queue
    → In v (queue_after new queue)
still_in new v x [] at no_way = no_way
still_in new v x (k ∷ ks) at (inl here) =
    subst (λ b. In v (kept_by b k (queue_after new ks))) (sym (ap is_some (ap new (sym here) ∙ at))) (inl here)
still_in new v x (k ∷ ks) at (inr there) = by_kept (is_some (new k)) (still_in new v x ks at there)
  where
    by_kept : (b : Bool) → In v (queue_after new ks) → In v (kept_by b k (queue_after new ks))
    by_kept true is = inr is
    by_kept false is = is

pub victims_are_legal : VictimIsLegal
victims_are_legal tasks heir queue asker low v first task run asks none_moves victim (inl firm) =
    by_dispatched task.dispatched refl
  where
    by_dispatched : (b : Bool) → task.dispatched ≡ b → MayAbort tasks asker low first
    by_dispatched false idle = absurd (none_moves v (victim.queued, task, victim.there, idle, firm.0))
    by_dispatched true runs = record {
      task = task;
      there = ap tasks firm.1 ∙ victim.there;
      dispatched = runs;
      other = λ e. victim.other (e ∙ ap Some firm.1);
      above = asks.others_above v task victim.there victim.other runs;
    }
victims_are_legal tasks heir queue asker low v first task run asks none_moves victim (inr loose) =
    let creator = run v first task victim.there loose.1 in
    let other : asker ≢ Some first = λ e. loose.0 (inr (first, loose.1, sym asks.is_heir ∙ e)) in
    record {
      task = creator.0;
      there = creator.1;
      dispatched = creator.2;
      other = other;
      above = asks.others_above first creator.0 creator.1 other creator.2;
    }

pub victims_make_room : VictimMakesRoom
victims_make_room tasks new heir queue asker low v first task set reopened asks victim (inl firm) marked holds leaves taken =
    let kept : (c : ℕ) → task.creator ≡ Some c → set c ≡ false = λ c e. elim firm.0 [
      | inl free ↦ absurd (cc (free, e))
      | inr child ↦ (let both : Some child.0 ≡ Some c = sym child.1 ∙ e in let eq : child.0 ≡ c = cc in subst (λ j. set j ≡ false) eq (leaves child.0 (asks.is_heir ∙ child.2)))
    ] in
    let idle : RoomTask = record { levels = reopened task; dispatched = false; creator = task.creator } in
    let at : new v ≡ Some idle = taken.stays v task (sym (ap set firm.1) ∙ marked) victim.there kept in
    inr (still_in new v idle queue at victim.queued, idle, at, refl, firm.0)
victims_make_room tasks new heir queue asker low v first task set reopened asks victim (inr loose) marked holds leaves taken =
    inl (shorter new v queue (taken.gone v first task (holds v first task victim.there loose.1 marked) victim.there loose.1 marked) victim.queued)
