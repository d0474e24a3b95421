use Rattle.tk_svg.proofs.Fits.{document_fits}
use Rattle.tk_svg.proofs.document_drawing_fits.Goals as goal

pub returns : goal.returns
returns c = document_fits
