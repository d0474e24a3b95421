use Rattle.tk_expand.proofs.Falling.{full_is}
use Rattle.tk_expand.proofs.laws.a_full_expansion_is_its_step.Goals as goal

pub returns : goal.returns
returns c = full_is
