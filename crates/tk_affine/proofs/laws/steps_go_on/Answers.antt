use Rattle.tk_affine.proofs.Folds.{go_on, last_step}
use Rattle.tk_affine.proofs.laws.steps_go_on.Goals as goal

pub returns : goal.returns
returns c = record { more = go_on; last = last_step }
