use Rattle.tk_keys.proofs.Ran.{run_is}
use Rattle.tk_keys.proofs.laws.a_run_is_its_step.Goals as goal

pub returns : goal.returns
returns c = run_is
