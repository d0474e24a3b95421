use Rattle.std.proofs.Common.{◌<◌, length, ap, subst, sym, arith, lit<}
use Rattle.std.proofs.lemmas.Str.{encode_ascii}
use Rattle.tk_expr.proofs.Letters.{letter_is_small}
use Rattle.tk_expr.proofs.pieces.push_letter.Goals as goal

small : (c : goal.After-letter) → c.letter.result < 128
small c = subst (λ n. n < 128) (sym c.letter.ensures) (letter_is_small c.args.tok.kind c.requires.letter)

pub push-requires : goal.push-requires
push-requires c = (lit< tt, omega (arith, ap length (encode_ascii c.letter.result (small c)), c.requires.room))
