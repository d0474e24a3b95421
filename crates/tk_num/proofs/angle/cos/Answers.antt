use Rattle.std.proofs.Common.{◌∙◌, ap, refl, arith, ℤ, pos}
use Rattle.std.specs.Int.{w64}
use Rattle.std.proofs.lemmas.Int.{to_z-of_z}
use Rattle.tk_num.specs.Angle.{sine, cosine}
use Rattle.tk_num.proofs.Wrap.{wrapped_add, fits_signed_64}
use Rattle.tk_num.proofs.angle.cos.Goals as goal

pub returns-clause-value : goal.returns-clause-value
returns-clause-value c =
    let angle : ℤ = c.sp.result in
    c.sine_of.ensures.value
    ∙ ap sine (wrapped_add _ _ angle (pos 5898240) (to_z-of_z w64 angle (fits_signed_64 angle (omega (arith, c.sp.ensures.range)))) refl
    (omega (arith, c.sp.ensures.range)) (omega arith))
    ∙ ap cosine c.sp.ensures.value
