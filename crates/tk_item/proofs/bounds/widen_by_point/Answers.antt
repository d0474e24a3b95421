use Rattle.std.proofs.Common.{subst, w64}
use Rattle.std.specs.Prelude.{IfSome}
use Rattle.std.proofs.lemmas.Int.{to_z-of_z}
use Rattle.tk_item.specs.Frame.{IsProperFrame}
use Rattle.tk_item.proofs.bounds.widen_by_point.Goals as goal

pub returns-in-Some-clause-value : goal.returns-in-Some-clause-value
returns-in-Some-clause-value c = rw (c.in-Some.is, c.join.ensures.value, c.box_of-own.ensures.value, to_z-of_z w64 c.args.half c.ranges.half)

pub returns-in-Some-clause-proper : goal.returns-in-Some-clause-proper
returns-in-Some-clause-proper c = λ fine. c.join.ensures.proper (subst (λ f. IfSome f IsProperFrame) c.in-Some.is fine) c.box_of-own.ensures.proper
