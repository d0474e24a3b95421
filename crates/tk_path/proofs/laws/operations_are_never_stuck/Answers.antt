use Rattle.tk_path.proofs.Unbounded.{operations_stuck}
use Rattle.tk_path.proofs.laws.operations_are_never_stuck.Goals as goal

pub returns : goal.returns
returns c = operations_stuck
