use Rattle.std.proofs.Common.{◌≡◌, length, arith}
use Rattle.std.proofs.lemmas.Bool.Decides.{nat_tests}
use Rattle.std.proofs.lemmas.List.{nil_from_length}
use Rattle.tk_expr.proofs.ShortWay.{plain_ends, unit_ends}
use Rattle.tk_expr.proofs.plain.measured.Goals as goal

pub returns-in_default : goal.returns-in_default
returns-in_default c =
    plain_ends c.args.font.now c.args.decimal c.args.list.now c.plain_value.result c.in_default.ensures.pieces c.plain_value.ensures

pub returns-in-Measure : goal.returns-in-Measure
returns-in-Measure c =
    let tail = c.in-Some.tail.now in
    let none : length tail ≡ 0 = grind (arith, nat_tests) in
    unit_ends c.args.font.now c.args.decimal c.args.list.now tail c.in-Some.first c.in-Measure.unit c.unit_value.result c.in-Some.ensures.pieces
    (nil_from_length tail none) c.in-Measure.is c.unit_value.ensures
