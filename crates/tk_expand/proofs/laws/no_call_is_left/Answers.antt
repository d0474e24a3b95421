use Rattle.tk_expand.proofs.Finished.{full_expanded}
use Rattle.tk_expand.proofs.laws.no_call_is_left.Goals as goal

pub returns : goal.returns
returns c = full_expanded
