use Rattle.std.proofs.Common.{◌≡◌, ℤ, pos, arith, ap, sym, subst, ◌∙◌, unsigned_abs, ◌*◌, false}
use Rattle.std.specs.Int.{w64}
use Rattle.std.specs.Int.Signed.{lt_z}
use Rattle.std.proofs.lemmas.Int.{to_z-of_z, to_z_pos}
use Rattle.tk_num.specs.Number.{IsFloorRoot, scaled, square_root}
use Rattle.tk_num.proofs.FloorRoot.{root_is}
use Rattle.tk_num.proofs.Wrap.{fits_signed_64}
use Rattle.tk_num.proofs.arithmetic.root.Goals as goal

pub returns-clause-gives : goal.returns-clause-gives
returns-clause-gives c =
    let x : ℤ = c.sp-2.result in
    let same : c.sp.result ≡ x = c.sp.ensures.value ∙ sym c.sp-2.ensures.value in
    let back = to_z-of_z w64 x (fits_signed_64 x (omega (arith, c.sp-2.ensures.range))) in
    let back1 = to_z-of_z w64 c.sp.result (fits_signed_64 c.sp.result (omega (arith, c.sp.ensures.range))) in
    let floor : IsFloorRoot (unsigned_abs x * 65536) c.isqrt.result = subst (λ z. IsFloorRoot (unsigned_abs z * 65536) c.isqrt.result) back
    (record { within = c.isqrt.ensures.square_le; next = c.isqrt.ensures.next_square_gt }) in
    let positive : lt_z x (pos 0) ≡ false = subst (λ z. lt_z z (pos 0) ≡ false) (back1 ∙ same) c.if-sp-lt0.false in
    c.in_range.ensures
    ∙ ap scaled (to_z_pos w64 c.isqrt.result (omega (arith, c.isqrt.ensures.bound)))
    ∙ root_is x c.isqrt.result c.sp-2.ensures.range positive floor
    ∙ ap square_root c.sp-2.ensures.value
