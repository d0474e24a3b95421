use Rattle.tk_picture.proofs.Outcomes.{some_outcome}
use Rattle.tk_picture.proofs.laws.each_source_has_an_outcome.Goals as goal

pub returns : goal.returns
returns c = some_outcome
