use Rattle.tk_expr.proofs.Places.{vector_stands}
use Rattle.tk_expr.proofs.laws.a_fault_of_a_vector_stands_at_its_place.Goals as goal

pub returns : goal.returns
returns c = vector_stands
