use Rattle.tk_item.proofs.Frames.{least_round, one_least, none_round}
use Rattle.tk_item.proofs.laws.frames_are_least.Goals as goal

pub returns-clause-least : goal.returns-clause-least
returns-clause-least c = least_round

pub returns-clause-only : goal.returns-clause-only
returns-clause-only c = one_least

pub returns-clause-none : goal.returns-clause-none
returns-clause-none c = none_round
