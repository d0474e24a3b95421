use Rattle.tk_expand.proofs.Falling.{front_stuck}
use Rattle.tk_expand.proofs.laws.a_front_is_never_stuck.Goals as goal

pub returns : goal.returns
returns c = front_stuck
