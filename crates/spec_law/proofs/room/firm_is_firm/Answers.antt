use Rattle.spec_law.proofs.Rooms.Fit.{firm_is_firm}
use Rattle.spec_law.proofs.room.firm_is_firm.Goals as goal

pub returns : goal.returns
returns c = firm_is_firm
