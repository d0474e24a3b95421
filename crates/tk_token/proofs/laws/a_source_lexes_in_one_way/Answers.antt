use Rattle.tk_token.proofs.Unique.{lexes_same}
use Rattle.tk_token.proofs.laws.a_source_lexes_in_one_way.Goals as goal

pub returns : goal.returns
returns c = lexes_same
