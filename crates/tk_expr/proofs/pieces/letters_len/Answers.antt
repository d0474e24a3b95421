use Rattle.std.proofs.Common.{◌∙◌}
use Rattle.tk_expr.specs.Letters.{is_letter_tok}
use Rattle.tk_expr.proofs.Prefixes.{front_len}
use Rattle.tk_expr.proofs.pieces.letters_len.Goals as goal

pub returns-clause-value : goal.returns-clause-value
returns-clause-value c = c.unwrap_or.ensures ∙ front_len is_letter_tok c.args.list.now c.first_other.result c.first_other.ensures
