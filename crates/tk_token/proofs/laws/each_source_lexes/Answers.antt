use Rattle.tk_token.proofs.Total.{each_source_lexes}
use Rattle.tk_token.proofs.laws.each_source_lexes.Goals as goal

pub returns : goal.returns
returns c = each_source_lexes
