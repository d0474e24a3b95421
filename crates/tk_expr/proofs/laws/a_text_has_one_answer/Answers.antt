use Rattle.tk_expr.proofs.OneAnswer.{a_text_has_one_answer}
use Rattle.tk_expr.proofs.laws.a_text_has_one_answer.Goals as goal

pub returns : goal.returns
returns c = a_text_has_one_answer
