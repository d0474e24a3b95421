use Rattle.tk_token.proofs.LastToken.{end_is}
use Rattle.tk_token.proofs.positions.end_of.Goals as goal

pub returns-in-Some : goal.returns-in-Some
returns-in-Some c = end_is c.args.at c.args.list.now c.in-Some.field-0-1.now c.in-Some.last.now c.in-Some.ensures.cases.0
