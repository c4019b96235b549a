-- What stands next at a core.
use Rattle.rv_core.specs.declared.state.Core.{Core}
use Rattle.rv_core.specs.declared.state.Stop.{Stop}

-- a plain instruction, which leads to a core, or something that stops a run of plain instructions
pub data Next : Type 0 where
  Goes : (core : Core) → Next
  Stops : (stop : Stop) → Next
