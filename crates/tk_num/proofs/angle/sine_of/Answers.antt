use Rattle.std.proofs.Common.{◌∙◌, ap, arith, ℤ, pos, unsigned_abs}
use Rattle.std.specs.Int.{w64, int_rem_euclid}
use Rattle.std.proofs.lemmas.Int.{to_z-of_z}
use Rattle.tk_num.specs.Angle.{turn_sine}
use Rattle.tk_num.proofs.Wrap.{fits_signed_64}
use Rattle.tk_num.proofs.angle.sine_of.Goals as goal

pub returns-clause-value : goal.returns-clause-value
returns-clause-value c =
    let reduced : ℤ = c.rem_euclid-reduced.result in
    to_z-of_z w64 c.turn_sine_of.result (fits_signed_64 c.turn_sine_of.result (omega (arith, c.turn_sine_of.ensures.within)))
    ∙ c.turn_sine_of.ensures.value
    ∙ ap (λ z. turn_sine (unsigned_abs z)) (to_z-of_z w64 reduced (fits_signed_64 reduced (omega (arith, c.rem_euclid-reduced.ensures.upper_bound))))
    ∙ ap (λ z. turn_sine (unsigned_abs z)) c.rem_euclid-reduced.ensures.value
    ∙ ap (λ z. turn_sine (unsigned_abs (int_rem_euclid z (pos 23592960)))) (to_z-of_z w64 c.args.angle c.ranges.angle)
