use Rattle.tk_token.proofs.Unique.{tokens_same}
use Rattle.tk_token.proofs.laws.characters_have_one_list_of_tokens.Goals as goal

pub returns : goal.returns
returns c = λ n cs a b t u. tokens_same t u
