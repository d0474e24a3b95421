use Rattle.tk_token.proofs.Once.{words_once}
use Rattle.tk_token.proofs.laws.words_stand_once.Goals as goal

pub returns : goal.returns
returns c = words_once
