use Rattle.std.proofs.Common.{Bool, sym, ap, ◌∙◌}
use Rattle.tk_expr.specs.Machine.{run}
use Rattle.tk_expr.specs.Number.{Decimal, with_digit}
use Rattle.tk_expr.specs.Pieces.{pieces_of}
use Rattle.tk_expr.specs.Plain.{wanting, counting, pointed}
use Rattle.tk_expr.proofs.ShortWay.{digit_goes, point_goes, ends_from}
use Rattle.tk_expr.proofs.plain.unsigned.Goals as goal

pub returns-in-Digit : goal.returns-in-Digit
returns-in-Digit c =
    let font = c.args.font.now in
    let all = pieces_of c.args.list.now in
    let rest = pieces_of c.in_ok-first.tail.now in
    let is = c.with_digit.ensures ∙ ap (with_digit c.in-Digit.digit) c.new.ensures in
    let same = λ (negative : Bool). digit_goes c.in_ok-first.first rest all c.in_ok-first.ensures.pieces c.in-Digit.digit c.in-Digit.is negative font
    ∙ ap (λ (n : Decimal). run font (counting n negative) rest) (sym is) in
    ends_from font wanting (counting c.with_digit.result) c.args.list.now c.in_ok-first.tail.now same c.longer.result c.longer.ensures

pub returns-in-Point : goal.returns-in-Point
returns-in-Point c =
    let font = c.args.font.now in
    let all = pieces_of c.args.list.now in
    let rest = pieces_of c.in_ok-first.tail.now in
    let same = λ (negative : Bool). point_goes c.in_ok-first.first rest all c.in_ok-first.ensures.pieces c.in-Point.is negative font in
    ends_from font wanting (pointed c.in_ok-first.first.at) c.args.list.now c.in_ok-first.tail.now same c.part.result c.part.ensures
