-- What is left of the way to a commit gets less with each event for the least task.
use Rattle.std.proofs.Common.{ℕ, zero, ◌+◌, ◌<◌, ◌≤◌, arith}
use Rattle.task_law.specs.Advance.{Standing, Over, Finished, Running, Idle, Spilled, rest_of_way, StandingMoves, Split}
use Rattle.task_law.specs.Advance.{Dispatch, Step, End_call, Trap, MovesOn, stays, moves, EventsAdvance, AdvancesAreFew}

pub falls : (budget : ℕ) (old new : Standing) → StandingMoves budget old new
    → rest_of_way budget new < rest_of_way budget old
falls budget old new Split = omega arith
falls budget old new Dispatch = omega arith
falls budget old new (Step used now more within) = omega (arith, more, within)
falls budget old new (End_call used) = omega arith
falls budget old new (Trap used) = omega arith

pub rest_bounded : (budget : ℕ) (is : Standing) → rest_of_way budget is ≤ budget + 4
rest_bounded budget Over = omega arith
rest_bounded budget Finished = omega arith
rest_bounded budget (Running used) = omega arith
rest_bounded budget Idle = omega arith
rest_bounded budget Spilled = omega arith

pub rest_positive : (budget : ℕ) (is : Standing) → 0 < rest_of_way budget is
rest_positive budget Over = omega arith
rest_positive budget Finished = omega arith
rest_positive budget (Running used) = omega arith
rest_positive budget Idle = omega arith
rest_positive budget Spilled = omega arith

pub falls_on : (budget : ℕ) (first : Standing) (n : ℕ) (last : Standing) → MovesOn budget first n last
    → n + rest_of_way budget last ≤ rest_of_way budget first
falls_on budget first zero last stays = omega arith
falls_on budget first m last (moves {n} {mid} end before one) =
    let b = falls_on budget first n mid before in let f = falls budget mid last one in omega (arith, b, f)

-- so at most budget + 3 events come before the commit or the end
pub few_moves : (budget n : ℕ) (first last : Standing) → MovesOn budget first n last → n ≤ budget + 3
few_moves budget n first last on =
    let f = falls_on budget first n last on in
    let b = rest_bounded budget first in
    let p = rest_positive budget last in
    omega (arith, f, b, p)

pub events_advance : EventsAdvance
events_advance budget old new one = falls budget old new one

pub advances_are_few : AdvancesAreFew
advances_are_few budget n first last on = few_moves budget n first last on
