use Rattle.tk_expand.proofs.Falling.{solid_is}
use Rattle.tk_expand.proofs.laws.a_solid_token_is_its_step.Goals as goal

pub returns : goal.returns
returns c = solid_is
