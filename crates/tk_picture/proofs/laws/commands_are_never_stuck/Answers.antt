use Rattle.tk_picture.proofs.Unbounded.{commands_stuck}
use Rattle.tk_picture.proofs.laws.commands_are_never_stuck.Goals as goal

pub returns : goal.returns
returns c = commands_stuck
