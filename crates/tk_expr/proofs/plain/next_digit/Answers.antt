use Rattle.std.proofs.Common.{sym, ap, ◌∙◌}
use Rattle.tk_expr.specs.Machine.{run}
use Rattle.tk_expr.specs.Number.{Decimal}
use Rattle.tk_expr.specs.Pieces.{pieces_of}
use Rattle.tk_expr.specs.Plain.{counting}
use Rattle.tk_expr.proofs.ShortWay.{digit_more, point_more}
use Rattle.tk_expr.proofs.plain.next_digit.Goals as goal

pub returns-in-Digit-clause-goes : goal.returns-in-Digit-clause-goes
returns-in-Digit-clause-goes c = λ negative font.
    let all = pieces_of c.args.list.now in
    let rest = pieces_of c.in_ok-first.tail.now in
    digit_more c.in_ok-first.first rest all c.in_ok-first.ensures.pieces c.args.decimal c.in-Digit.digit c.in-Digit.is negative font
    ∙ ap (λ (n : Decimal). run font (counting n negative) rest) (sym c.with_digit.ensures)

pub returns-in-Point-clause-goes : goal.returns-in-Point-clause-goes
returns-in-Point-clause-goes c = λ negative font.
    let all = pieces_of c.args.list.now in
    let rest = pieces_of c.in_ok-first.tail.now in
    point_more c.in_ok-first.first rest all c.in_ok-first.ensures.pieces c.args.decimal c.in-Point.is (sym c.is_pointed.ensures
    ∙ c.if-not-is_pointed.true) negative font
    ∙ ap (λ (n : Decimal). run font (counting n negative) rest) (sym c.with_point.ensures)
