use Rattle.tk_num.proofs.FloorRoot.{is_floor_root}
use Rattle.tk_num.proofs.arithmetic.root_is_floor.Goals as goal

pub returns : goal.returns
returns c = is_floor_root
