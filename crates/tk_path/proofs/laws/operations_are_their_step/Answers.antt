use Rattle.tk_path.proofs.Unbounded.{operations_are}
use Rattle.tk_path.proofs.laws.operations_are_their_step.Goals as goal

pub returns : goal.returns
returns c = operations_are
