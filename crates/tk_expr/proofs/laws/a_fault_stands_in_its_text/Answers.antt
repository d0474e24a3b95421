use Rattle.tk_expr.proofs.Evaluations.{answer_stands}
use Rattle.tk_expr.proofs.laws.a_fault_stands_in_its_text.Goals as goal

pub returns : goal.returns
returns c = answer_stands
