use Rattle.tk_token.proofs.Total.{total}
use Rattle.tk_token.proofs.laws.all_characters_have_tokens.Goals as goal

pub returns : goal.returns
returns c = total
