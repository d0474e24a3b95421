use Rattle.tk_keytext.proofs.Pieces.{parts_stuck}
use Rattle.tk_keytext.proofs.laws.parts_are_never_stuck.Goals as goal

pub returns : goal.returns
returns c = parts_stuck
