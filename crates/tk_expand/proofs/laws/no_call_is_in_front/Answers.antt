use Rattle.tk_expand.proofs.Finished.{front_still}
use Rattle.tk_expand.proofs.laws.no_call_is_in_front.Goals as goal

pub returns : goal.returns
returns c = front_still
