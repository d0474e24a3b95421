use Rattle.tk_svg.proofs.Unique.{path_same}
use Rattle.tk_svg.proofs.path_data_means_one.Goals as goal

pub returns : goal.returns
returns c = path_same
