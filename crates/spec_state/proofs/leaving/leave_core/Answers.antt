use Rattle.spec_state.proofs.Without.{keeps_core, keeps_none, core_within, core_freed, none_freed}
use Rattle.spec_state.proofs.leaving.leave_core.Goals as goal

pub bounds-cores-core : goal.bounds-cores-core
bounds-cores-core c =
    core_within c.args.id c.args.status c.args.cores.now c.requires.held c.in-Running.core (keeps_core c.args.status c.in-Running.core c.in-Running.is)

pub returns-in-Running : goal.returns-in-Running
returns-in-Running c =
    core_freed c.args.id c.args.status c.args.cores.now c.requires.held c.in-Running.core (keeps_core c.args.status c.in-Running.core c.in-Running.is)

pub returns-in-Idle : goal.returns-in-Idle
returns-in-Idle c =
    none_freed c.args.id c.args.status c.args.cores.now c.requires.held (keeps_none c.args.status c.in-Idle.is)
