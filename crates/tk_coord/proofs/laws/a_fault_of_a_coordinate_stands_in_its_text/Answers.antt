use Rattle.tk_coord.proofs.Places.{target_stands}
use Rattle.tk_coord.proofs.laws.a_fault_of_a_coordinate_stands_in_its_text.Goals as goal

pub returns : goal.returns
returns c = target_stands
