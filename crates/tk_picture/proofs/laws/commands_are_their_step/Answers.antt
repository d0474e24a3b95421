use Rattle.tk_picture.proofs.Unbounded.{commands_are}
use Rattle.tk_picture.proofs.laws.commands_are_their_step.Goals as goal

pub returns : goal.returns
returns c = commands_are
