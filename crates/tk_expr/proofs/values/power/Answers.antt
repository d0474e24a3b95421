use Rattle.std.proofs.Common.{rules, ◌≡◌, sym, arith, Err}
use Rattle.tk_expr.specs.Values.{power}
use Rattle.tk_expr.proofs.Powers.{power_fails}
use Rattle.tk_expr.proofs.values.power.Goals as goal

pub returns-in_err-product : goal.returns-in_err-product
returns-in_err-product c =
    let e : power c.args.x c.args.exponent ≡ Err c.in_err-product.field-0.0 = power_fails c.args.x c.loop.product c.loop.counter c.args.exponent _
    c.loop.invariant (omega arith) (sym c.in_err-product.ensures) in
    search rules
