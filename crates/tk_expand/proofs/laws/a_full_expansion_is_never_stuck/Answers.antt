use Rattle.tk_expand.proofs.Falling.{full_stuck}
use Rattle.tk_expand.proofs.laws.a_full_expansion_is_never_stuck.Goals as goal

pub returns : goal.returns
returns c = full_stuck
