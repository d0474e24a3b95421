use Rattle.tk_picture.proofs.Outcomes.{one_outcome}
use Rattle.tk_picture.proofs.laws.a_source_has_one_outcome.Goals as goal

pub returns : goal.returns
returns c = one_outcome
