use Rattle.tk_expr.proofs.Evaluations.{pair_stands}
use Rattle.tk_expr.proofs.laws.a_fault_of_a_pair_stands_in_its_text.Goals as goal

pub returns : goal.returns
returns c = pair_stands
