use Rattle.tk_coord.proofs.Steps.{point_is}
use Rattle.tk_coord.proofs.laws.a_point_is_its_step.Goals as goal

pub returns : goal.returns
returns c = point_is
