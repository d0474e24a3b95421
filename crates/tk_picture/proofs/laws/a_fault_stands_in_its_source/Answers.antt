use Rattle.tk_picture.proofs.Outcomes.{fault_in_source}
use Rattle.tk_picture.proofs.laws.a_fault_stands_in_its_source.Goals as goal

pub returns : goal.returns
returns c = fault_in_source
