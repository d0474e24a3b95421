use Rattle.tk_keys.proofs.Ran.{run_stuck}
use Rattle.tk_keys.proofs.laws.a_run_is_never_stuck.Goals as goal

pub returns : goal.returns
returns c = run_stuck
