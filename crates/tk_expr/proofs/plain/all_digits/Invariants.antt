use Rattle.std.proofs.Common.{Bool, length}
use Rattle.tk_expr.specs.Plain.{counting, Reaches}
use Rattle.tk_expr.proofs.plain.all_digits.Given as goal

abbrev pub invariant-loop-longer : goal.invariant-loop-longer
invariant-loop-longer l = (negative : Bool) → Reaches (counting l.fn.first negative) l.fn.list (counting l.decimal negative) l.rest

abbrev pub decreases-loop-longer : goal.decreases-loop-longer
decreases-loop-longer l = length l.rest
