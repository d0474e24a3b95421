-- Circles and ellipses: four curves, from the right upward and round.
use Rattle.std.specs.Prelude.{List, [], ◌∷◌, Result, Ok, ℤ, pos, neg_ℤ}
use Rattle.tk_num.specs.Number.{product}
use Rattle.tk_token.specs.Answers.{◌>>=◌}
use Rattle.tk_item.specs.declared.Point.{Point}
use Rattle.tk_item.specs.declared.Seg.{Seg}
use Rattle.tk_item.specs.declared.Seg.TheVariants.{Move, Curve, Close}
use Rattle.tk_affine.specs.declared.AffFault.{AffFault}
use Rattle.tk_affine.specs.declared.Matrix.{Matrix}
use Rattle.tk_affine.specs.Images.{vector_image}
use Rattle.tk_geom.specs.Pieces.{xy, sum_of, checked}

-- how far the control points of a quarter lie from its ends: 36195/65536 of the radius, for 4*(sqrt(2) - 1)/3
abbrev pub control_length : ℤ → ℤ
control_length radius = product radius (pos 36195)

-- where the image of a vector leads from a point
unfoldable pub vector_end : Matrix → Point → Point → Result Point AffFault
vector_end m c v = do
  image ← vector_image m v
  checked (sum_of c image)

-- a curve, by the vectors from c to its control points and its end
unfoldable pub curve_round : Matrix → Point → Point → Point → Point → Result Seg AffFault
curve_round m c first second end = do
  p ← vector_end m c first
  q ← vector_end m c second
  r ← vector_end m c end
  Ok (Curve p q r)

-- the pieces of an ellipse round c: its right end, the quarters to its upper, left and lower ends and back
unfoldable pub circle_pieces : Matrix → Point → ℤ → ℤ → Result (List Seg) AffFault
circle_pieces m c rx ry = do
  let kx = control_length rx
  let ky = control_length ry
  right ← vector_end m c (xy rx (pos 0))
  first ← curve_round m c (xy rx ky) (xy kx ry) (xy (pos 0) ry)
  second ← curve_round m c (xy (neg_ℤ kx) ry) (xy (neg_ℤ rx) ky) (xy (neg_ℤ rx) (pos 0))
  third ← curve_round m c (xy (neg_ℤ rx) (neg_ℤ ky)) (xy (neg_ℤ kx) (neg_ℤ ry)) (xy (pos 0) (neg_ℤ ry))
  fourth ← curve_round m c (xy kx (neg_ℤ ry)) (xy rx (neg_ℤ ky)) (xy rx (pos 0))
  Ok (Move right ∷ first ∷ second ∷ third ∷ fourth ∷ Close ∷ [])
