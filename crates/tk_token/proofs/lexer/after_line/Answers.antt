use Rattle.std.proofs.Common.{◌∙◌}
use Rattle.std.proofs.lemmas.Str.{chars-nil}
use Rattle.tk_token.proofs.TextCharacters.{line_after, line_missing}
use Rattle.tk_token.proofs.lexer.after_line.Goals as goal

pub returns-in-Some-clause-value : goal.returns-in-Some-clause-value
returns-in-Some-clause-value c = line_after c.args.text.now c.in-Some.field-0-0.now c.in-Some.after.now c.utf8.text c.in-Some.ensures.cases

pub returns-in-None-clause-value : goal.returns-in-None-clause-value
returns-in-None-clause-value c = chars-nil ∙ line_missing c.args.text.now c.utf8.text c.in-None.ensures.cases
