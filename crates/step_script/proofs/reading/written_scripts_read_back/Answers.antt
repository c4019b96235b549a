use Rattle.step_script.proofs.WrittenBack.{script_back}
use Rattle.step_script.proofs.WrittenOnly.{script_only}
use Rattle.step_script.proofs.reading.written_scripts_read_back.Goals as goal

pub returns-clause-back : goal.returns-clause-back
returns-clause-back c = script_back

pub returns-clause-only : goal.returns-clause-only
returns-clause-only c = script_only
