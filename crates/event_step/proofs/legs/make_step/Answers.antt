use Rattle.event_step.proofs.legs.make_step.Goals as goal

pub returns-in-Quantum : goal.returns-in-Quantum
returns-in-Quantum g c core task takes taps steps = c.go_on.ensures _ core task takes taps steps

pub returns-in-Continue : goal.returns-in-Continue
returns-in-Continue g c core task takes taps steps = c.go_on-in-Continue.ensures _ core task takes taps steps

pub returns-in-Load : goal.returns-in-Load
returns-in-Load g c core task takes taps steps = c.load.ensures _ core task takes taps steps

pub returns-in-Store : goal.returns-in-Store
returns-in-Store g c core task takes taps steps = c.store.ensures _ core task takes taps steps

pub returns-in-MakeSub : goal.returns-in-MakeSub
returns-in-MakeSub g c core task takes taps steps = c.make_subdomain.ensures _ core task takes taps steps

pub returns-in-Emit : goal.returns-in-Emit
returns-in-Emit g c core task takes taps steps = c.emit_byte.ensures _ core task takes taps steps

pub returns-in-End : goal.returns-in-End
returns-in-End g c core task takes taps steps = c.end.ensures _ core task takes taps steps

pub returns-in-Trap : goal.returns-in-Trap
returns-in-Trap g c core task takes taps steps = c.keep_trap.ensures _ core task takes taps steps
