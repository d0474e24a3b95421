use Rattle.tk_shape.proofs.NamesGiven.{last_given}
use Rattle.tk_shape.proofs.laws.the_last_node_of_a_name_is_found.Goals as goal

pub returns : goal.returns
returns c = last_given
