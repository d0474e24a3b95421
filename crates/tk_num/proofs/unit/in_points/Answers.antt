use Rattle.std.proofs.Common.{◌∙◌, ap, arith, pos}
use Rattle.std.specs.Int.{w64}
use Rattle.std.proofs.lemmas.Int.{to_z_pos}
use Rattle.tk_num.proofs.Carry.{fraction_carried, length_fits}
use Rattle.tk_num.proofs.unit.in_points.Goals as goal

pub returns : goal.returns
returns c =
    let same = fraction_carried c.args.whole c.args.frac c.args.numerator c.args.denominator c.requires.some in
    let fits = length_fits c.args.whole c.args.frac c.args.numerator c.args.denominator c.requires.whole c.requires.frac c.requires.numerator in
    to_z_pos w64 _ (omega (arith, same, fits)) ∙ ap pos same
