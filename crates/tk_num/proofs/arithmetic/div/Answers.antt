use Rattle.std.proofs.Common.{◌≡◌, ◌∙◌, ap, sym, arith, subst, ◌*ℤ◌, pos, ℤ, unsigned_abs, ◌≤◌, int_div, ◌≢◌, to_z, of_z}
use Rattle.std.specs.Int.{w64}
use Rattle.std.proofs.lemmas.Int.{to_z-of_z}
use Rattle.tk_num.specs.Number.{scaled, quotient, IsScaled}
use Rattle.tk_num.proofs.Wrap.{wrapped_mul, product_small, fits_signed_64, quotient_is, abs_of_bits}
use Rattle.tk_num.proofs.arithmetic.div.Goals as goal

pub returns : goal.returns
returns c =
    let x : ℤ = c.sp-2.result in
    let y : ℤ = c.sp-3.result in
    let ry : IsScaled y = c.sp-3.ensures.range in
    let same : c.sp.result ≡ y = c.sp.ensures.value ∙ sym c.sp-3.ensures.value in
    let some : unsigned_abs y ≢ 0 = subst (λ z. unsigned_abs z ≢ 0) same (abs_of_bits c.sp.result c.sp.ensures.range c.if-sp-eq0.false) in
    let value : c.cut.result ≡ int_div (x *ℤ pos 65536) y =
    c.cut.ensures.value
    ∙ ap (λ z. int_div z (to_z w64 (of_z w64 y))) (wrapped_mul x (pos 65536) c.sp-2.ensures.range (omega arith))
    ∙ ap (λ z. int_div (x *ℤ pos 65536) z) (to_z-of_z w64 y (fits_signed_64 y (omega (arith, ry)))) in
    let most : unsigned_abs c.cut.result ≤ unsigned_abs (x *ℤ pos 65536) = subst (λ z. unsigned_abs c.cut.result ≤ unsigned_abs z)
    (wrapped_mul x (pos 65536) c.sp-2.ensures.range (omega arith)) c.cut.ensures.small in
    c.in_range.ensures
    ∙ ap scaled (to_z-of_z w64 c.cut.result (fits_signed_64 c.cut.result (omega (
      arith,
      most,
      product_small x (pos 65536) c.sp-2.ensures.range
          (omega arith),
    ))))
    ∙ quotient_is x y c.cut.result some value
    ∙ ap (λ z. quotient z y) c.sp-2.ensures.value
    ∙ ap (λ z. quotient c.args.x z) c.sp-3.ensures.value
