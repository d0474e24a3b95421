use Rattle.tk_picture.proofs.Fitting.{drawing_fits}
use Rattle.tk_picture.proofs.picture.compiled.Goals as goal

pub returns-clause-fits : goal.returns-clause-fits
returns-clause-fits c = drawing_fits _ c.whole_frame.ensures.proper c.requires.family c.requires.sound.items
