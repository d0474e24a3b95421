use Rattle.tk_expand.proofs.Falling.{solid_stuck}
use Rattle.tk_expand.proofs.laws.a_solid_token_is_never_stuck.Goals as goal

pub returns : goal.returns
returns c = solid_stuck
