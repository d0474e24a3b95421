use Rattle.std.proofs.Common.{◌≡◌, sym, subst, ap, ◌∙◌, unsigned_abs, pos, true, false, ℤ}
use Rattle.std.specs.Int.{w64}
use Rattle.std.specs.Int.Signed.{lt_z}
use Rattle.std.proofs.lemmas.Int.{to_z-of_z}
use Rattle.std.proofs.lemmas.Result.{err_from_is_err_and}
use Rattle.tk_num.specs.Number.{quotient}
use Rattle.tk_expr.specs.Values.{inverse}
use Rattle.tk_expr.proofs.SignedNumbers.{power_below_zero, power_from_zero}
use Rattle.tk_expr.proofs.values.whole_power.Goals as goal

pub returns-in_err-power : goal.returns-in_err-power
returns-in_err-power c =
    let back = to_z-of_z w64 c.args.y c.ranges.y in
    let size = c.unsigned_abs.ensures.value ∙ ap unsigned_abs back in
    let below = subst (λ z. lt_z z (pos 0) ≡ true) back c.if-y-lt0.true in
    let p = err_from_is_err_and c.from_residual.result c.from_residual.ensures.1 in
    rw (p.1, p.2) (ap inverse c.in_err-power.ensures ∙ sym (power_below_zero c.args.x c.args.y c.unsigned_abs.result size below))

pub returns-then-y-lt0 : goal.returns-then-y-lt0
returns-then-y-lt0 c =
    let back = to_z-of_z w64 c.args.y c.ranges.y in
    let size = c.unsigned_abs.ensures.value ∙ ap unsigned_abs back in
    let below = subst (λ z. lt_z z (pos 0) ≡ true) back c.if-y-lt0.true in
    c.div.ensures
    ∙ ap (λ (z : ℤ). quotient z c.in_ok-power.field-0) c.within.ensures
    ∙ ap inverse c.in_ok-power.ensures
    ∙ sym (power_below_zero c.args.x c.args.y c.unsigned_abs.result size below)

pub returns : goal.returns
returns c =
    let back = to_z-of_z w64 c.args.y c.ranges.y in
    let size = c.unsigned_abs.ensures.value ∙ ap unsigned_abs back in
    let above = subst (λ z. lt_z z (pos 0) ≡ false) back c.if-y-lt0.false in
    c.power-2.ensures ∙ sym (power_from_zero c.args.x c.args.y c.unsigned_abs.result size above)
