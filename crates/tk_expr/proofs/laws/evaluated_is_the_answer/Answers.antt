use Rattle.tk_expr.proofs.Runs.{evaluated_is_the_answer}
use Rattle.tk_expr.proofs.laws.evaluated_is_the_answer.Goals as goal

pub returns : goal.returns
returns c = evaluated_is_the_answer
