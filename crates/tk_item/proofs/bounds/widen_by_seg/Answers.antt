use Rattle.std.proofs.Common.{w64}
use Rattle.std.proofs.lemmas.Int.{to_z-of_z}
use Rattle.tk_item.proofs.Frames.{curve_widens}
use Rattle.tk_item.proofs.bounds.widen_by_seg.Goals as goal

pub returns-in-Curve-clause-value : goal.returns-in-Curve-clause-value
returns-in-Curve-clause-value c =
    let half = to_z-of_z w64 c.args.half c.ranges.half in
    rw c.in-Curve.is (curve_widens c.args.half c.args.frame c.in-Curve.p c.in-Curve.q c.in-Curve.r c.widen_by_point-frame.result
    c.widen_by_point-frame-in-Curve.result c.widen_by_point.result (rw half at c.widen_by_point-frame.ensures.value)
    (rw half at c.widen_by_point-frame-in-Curve.ensures.value) (rw half at c.widen_by_point.ensures.value))

pub returns-in-Curve-clause-proper : goal.returns-in-Curve-clause-proper
returns-in-Curve-clause-proper c =
    λ fine. c.widen_by_point.ensures.proper (c.widen_by_point-frame-in-Curve.ensures.proper (c.widen_by_point-frame.ensures.proper fine))
