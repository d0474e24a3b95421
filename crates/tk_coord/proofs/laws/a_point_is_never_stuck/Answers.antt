use Rattle.tk_coord.proofs.Steps.{point_stuck}
use Rattle.tk_coord.proofs.laws.a_point_is_never_stuck.Goals as goal

pub returns : goal.returns
returns c = point_stuck
