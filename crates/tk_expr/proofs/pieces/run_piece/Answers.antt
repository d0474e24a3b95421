use Rattle.std.proofs.Common.{List}
use Rattle.tk_token.specs.declared.Tok.{Tok}
use Rattle.tk_expr.specs.Letters.{is_letter_tok}
use Rattle.tk_expr.proofs.Prefixes.{front_passes}
use Rattle.tk_expr.proofs.Letters.{letters_in_front}
use Rattle.tk_expr.proofs.pieces.run_piece.Goals as goal

pub run_mark-mark-requires : goal.run_mark-mark-requires
run_mark-mark-requires c =
    rw (c.split_at.ensures.front, c.letters_len.ensures.value) (front_passes is_letter_tok c.args.list.now)

pub returns-clause-pieces : goal.returns-clause-pieces
returns-clause-pieces c =
    let list : List Tok = c.args.list.now in
    rw (c.run_mark-mark.ensures, c.split_at.ensures.front, c.split_at.ensures.back) (letters_in_front list c.args.first c.requires.front.0
    c.letters_len.result c.requires.front.1 c.requires.letter c.letters_len.ensures.value)
