use Rattle.tk_expr.specs.Evaluated.{evaluated}
use Rattle.tk_expr.proofs.Runs.{evaluated_is_the_answer}
use Rattle.tk_keys.proofs.deeds.graphics_set.Goals as goal

pub returns : goal.returns
returns c = c.set.ensures evaluated evaluated_is_the_answer
