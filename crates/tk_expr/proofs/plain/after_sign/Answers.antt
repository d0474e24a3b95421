use Rattle.tk_expr.specs.Pieces.{pieces_of}
use Rattle.tk_expr.proofs.ShortWay.{minus_goes}
use Rattle.tk_expr.proofs.plain.after_sign.Goals as goal

pub returns-in-Minus : goal.returns-in-Minus
returns-in-Minus c = minus_goes c.in-Some.first (pieces_of c.in-Some.tail.now) (pieces_of c.args.list.now) c.in-Some.ensures.pieces c.in-Minus.is
