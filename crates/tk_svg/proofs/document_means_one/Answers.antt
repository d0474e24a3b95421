use Rattle.tk_svg.proofs.Documents.{drawing_same}
use Rattle.tk_svg.proofs.document_means_one.Goals as goal

pub returns : goal.returns
returns c = drawing_same
