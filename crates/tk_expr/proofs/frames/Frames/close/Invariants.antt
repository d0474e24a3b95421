use Rattle.std.proofs.Common.{◌≡◌, length}
use Rattle.tk_expr.specs.Machine as spec
use Rattle.tk_expr.proofs.frames.Frames.close.Given as goal

abbrev pub invariant-loop-condition : goal.invariant-loop-condition
invariant-loop-condition l = spec.closed l.value l.self ≡ spec.closed l.fn.value l.fn.self

abbrev pub decreases-loop-condition : goal.decreases-loop-condition
decreases-loop-condition l = length l.self
