use Rattle.std.proofs.Common.{◌≡◌, sym, subst, ap, ◌∙◌, unsigned_abs, pos, true, false, Ok}
use Rattle.std.specs.Int.Signed.{lt_z}
use Rattle.std.proofs.lemmas.Result.{err_from_is_err_and}
use Rattle.tk_expr.proofs.SignedNumbers.{bits_of_scaled, in_unit_below_zero, in_unit_from_zero, in_unit_fails, scaled_negated}
use Rattle.tk_expr.proofs.values.in_unit.Goals as goal

pub returns-in_err-size : goal.returns-in_err-size
returns-in_err-size c =
    let back = bits_of_scaled c.sp.result c.sp.ensures.range in
    let size = c.unsigned_abs.ensures.value ∙ ap unsigned_abs (back ∙ c.sp.ensures.value) in
    let p = err_from_is_err_and c.from_residual.result c.from_residual.ensures.1 in
    rw (p.1, p.2) (in_unit_fails c.args.font.now c.args.unit c.args.x c.unsigned_abs.result c.in_err-size.field-0.0 size c.in_err-size.ensures)

pub returns-then-sp-lt0 : goal.returns-then-sp-lt0
returns-then-sp-lt0 c =
    let back = bits_of_scaled c.sp.result c.sp.ensures.range in
    let size = c.unsigned_abs.ensures.value ∙ ap unsigned_abs (back ∙ c.sp.ensures.value) in
    let again = bits_of_scaled c.sp-2.result c.sp-2.ensures.range in
    let below = subst (λ z. lt_z z (pos 0) ≡ true) (again ∙ c.sp-2.ensures.value) c.if-sp-lt0.true in
    ap Ok c.negated.ensures
    ∙ scaled_negated _ c.in_ok-size.size c.in_ok-size.ensures
    ∙ sym (in_unit_below_zero c.args.font.now c.args.unit c.args.x c.unsigned_abs.result size below)

pub returns : goal.returns
returns c =
    let back = bits_of_scaled c.sp.result c.sp.ensures.range in
    let size = c.unsigned_abs.ensures.value ∙ ap unsigned_abs (back ∙ c.sp.ensures.value) in
    let again = bits_of_scaled c.sp-2.result c.sp-2.ensures.range in
    let above = subst (λ z. lt_z z (pos 0) ≡ false) (again ∙ c.sp-2.ensures.value) c.if-sp-lt0.false in
    c.in_ok-size.ensures ∙ sym (in_unit_from_zero c.args.font.now c.args.unit c.args.x c.unsigned_abs.result size above)
