use Rattle.tk_expand.proofs.Falling.{front_is}
use Rattle.tk_expand.proofs.laws.a_front_is_its_step.Goals as goal

pub returns : goal.returns
returns c = front_is
