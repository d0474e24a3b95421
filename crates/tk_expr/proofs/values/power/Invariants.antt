use Rattle.std.proofs.Common.{◌≡◌, Ok}
use Rattle.tk_expr.specs.Values as spec
use Rattle.tk_expr.proofs.values.power.Given as goal

abbrev pub invariant-loop : goal.invariant-loop
invariant-loop l = spec.power l.x l.counter ≡ Ok l.product
