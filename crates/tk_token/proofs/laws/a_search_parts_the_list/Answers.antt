use Rattle.tk_token.proofs.Outside.{parts}
use Rattle.tk_token.proofs.laws.a_search_parts_the_list.Goals as goal

pub returns : goal.returns
returns c = parts
