use Rattle.tk_expr.proofs.Ranges.{evaluates_within}
use Rattle.tk_expr.proofs.laws.a_value_is_in_range.Goals as goal

pub returns : goal.returns
returns c = evaluates_within
