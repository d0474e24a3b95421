use Rattle.tk_num.proofs.Unique.{only_text, only_pointed_text}
use Rattle.tk_num.proofs.text.text_is_unique.Goals as goal

pub returns-clause-text : goal.returns-clause-text
returns-clause-text c = only_text

pub returns-clause-pointed : goal.returns-clause-pointed
returns-clause-pointed c = only_pointed_text
