use Rattle.std.proofs.Common.{rules}
use Rattle.std.proofs.lemmas.Str.{chars_past_char}
use Rattle.tk_token.proofs.lexer.split_first.Goals as goal

pub returns-clause-value : goal.returns-clause-value
returns-clause-value c = search (rules, chars_past_char c.args.text.now c.as_str.result.now c.in_ok-first.first c.utf8.text)
