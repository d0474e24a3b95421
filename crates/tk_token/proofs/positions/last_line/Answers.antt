use Rattle.tk_token.proofs.Lines.{after_last_is, after_last_is_text, one_line}
use Rattle.tk_token.proofs.positions.last_line.Goals as goal

pub returns-in-Some-clause-value : goal.returns-in-Some-clause-value
returns-in-Some-clause-value c = after_last_is c.args.text.now c.in-Some.at c.in-Some.ensures

pub returns-in-Some-clause-text : goal.returns-in-Some-clause-text
returns-in-Some-clause-text c = after_last_is_text c.args.text.now c.in-Some.at c.in-Some.ensures c.requires

pub returns-in-None-clause-value : goal.returns-in-None-clause-value
returns-in-None-clause-value c = one_line c.args.text.now c.in-None.ensures
