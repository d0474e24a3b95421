use Rattle.std.proofs.Common.{rules, Ok, Err, length, sym, ap, ◌∙◌, arith}
use Rattle.tk_token.specs.declared.Tok.{Tok}
use Rattle.tk_expr.specs.Evaluated.{evaluated}
use Rattle.tk_coord.specs.declared.corners.CornerStart.{CornerStart}
use Rattle.tk_coord.proofs.LastFirst.{fault_stands}
use Rattle.tk_coord.proofs.Steps.{rest_is_shorter, ends, fails, goes_on}
use Rattle.tk_coord.proofs.points.CoordinateSystem.absolute_point.Goals as goal

pub returns-in_err-point : goal.returns-in_err-point
returns-in_err-point c =
    let told = fails evaluated c.args.self.now.font c.args.self.now.look.now c.args.self.now.matrix c.args.at _
    c.loop-front.starts.items c.loop-front.rest.now c.loop-front.invariant
    c.in-Some.front.now c.in-Some.behind.now c.in-Some.ensures
    c.in_err-point.field-0.0 c.in_err-point.ensures in
    search rules

pub loop-front-smaller : goal.loop-front-smaller
loop-front-smaller c =
    let less = rest_is_shorter c.loop-front.rest.now c.in-Some.front.now c.in-Some.behind.now c.in-Some.ensures in
    omega (arith, less, ap (length {A = Tok}) c.without_first-rest.ensures)

pub loop-front-preserved : goal.loop-front-preserved
loop-front-preserved c =
    let s : CornerStart = record { point = c.in_ok-point.point; sign = c.sign_in_front-sign.result } in
    goes_on evaluated c.args.self.now.font c.args.self.now.look.now c.args.self.now.matrix c.args.at _
    c.loop-front.starts.items c.loop-front.rest.now c.loop-front.invariant
    c.in-Some.front.now c.in-Some.behind.now c.in-Some.ensures
    s c.push.new.self.items c.without_first-rest.result.now
    c.in_ok-point.ensures c.sign_in_front-sign.ensures c.in_ok-push.ensures.items c.without_first-rest.ensures

pub returns-in_err-end : goal.returns-in_err-end
returns-in_err-end c =
    let f = c.in_err-end.field-0.0 in
    let told = ends evaluated c.args.self.now.font c.args.self.now.look.now c.args.self.now.matrix c.args.at _
    c.loop-front.starts.items c.loop-front.rest.now c.loop-front.invariant
    (Err f) c.in_default.ensures c.in_err-end.ensures
    ∙ fault_stands c.args.self.now.matrix c.args.at c.loop-front.starts.items f in
    search rules

pub returns-in_err-corners_from : goal.returns-in_err-corners_from
returns-in_err-corners_from c =
    let told = ends evaluated c.args.self.now.font c.args.self.now.look.now c.args.self.now.matrix c.args.at _
    c.loop-front.starts.items c.loop-front.rest.now c.loop-front.invariant
    (Ok c.in_ok-end.end) c.in_default.ensures c.in_ok-end.ensures
    ∙ sym c.in_err-corners_from.ensures in
    search rules

pub returns : goal.returns
returns c =
    ends evaluated c.args.self.now.font c.args.self.now.look.now c.args.self.now.matrix c.args.at _
    c.loop-front.starts.items c.loop-front.rest.now c.loop-front.invariant
    (Ok c.in_ok-end.end) c.in_default.ensures c.in_ok-end.ensures
    ∙ sym c.in_ok-corners_from.ensures
