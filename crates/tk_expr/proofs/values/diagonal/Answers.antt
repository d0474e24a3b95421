use Rattle.std.proofs.Common.{◌∙◌, ap, arith, pos}
use Rattle.std.specs.Int.{w64}
use Rattle.std.proofs.lemmas.Int.{to_z_pos}
use Rattle.tk_expr.proofs.Roots.{root_of}
use Rattle.tk_expr.proofs.values.diagonal.Goals as goal

pub returns : goal.returns
returns c = to_z_pos w64 c.isqrt.result (omega (arith, c.isqrt.ensures.bound))
    ∙ ap pos (root_of _ c.isqrt.result c.isqrt.ensures.square_le c.isqrt.ensures.next_square_gt)
