use Rattle.tk_expand.proofs.Finished.{full_own}
use Rattle.tk_expand.proofs.laws.a_list_without_calls_is_its_own_expansion.Goals as goal

pub returns : goal.returns
returns c = full_own
