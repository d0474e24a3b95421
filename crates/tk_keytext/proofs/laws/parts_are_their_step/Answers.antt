use Rattle.tk_keytext.proofs.Pieces.{parts_is}
use Rattle.tk_keytext.proofs.laws.parts_are_their_step.Goals as goal

pub returns : goal.returns
returns c = parts_is
