use Rattle.tk_picture.proofs.Outcomes.{drawing_in_range}
use Rattle.tk_picture.proofs.laws.a_drawing_fits_a_document.Goals as goal

pub returns : goal.returns
returns c = drawing_in_range
