-- Corners are in range, whatever they are made of.
use Rattle.std.proofs.Common.{Bool, true, false, Result, Ok, Err, ℤ}
use Rattle.std.specs.Prelude.{IfOk, ◌+ℤ◌, ◌-ℤ◌, ◌==◌, if◌then◌else◌, unsigned_abs}
use Rattle.tk_item.specs.declared.Point.{Point}
use Rattle.tk_affine.specs.declared.AffFault.{AffFault}
use Rattle.tk_affine.specs.declared.AffFault.TheVariants.{Singular}
use Rattle.tk_affine.specs.declared.Matrix.{Matrix}
use Rattle.tk_affine.specs.Images.{IsPoint, point_at}
use Rattle.tk_affine.specs.Inverses.{determinant, by_inverse, along_first, share, corner_of}
use Rattle.tk_affine.proofs.Ranges.{point_in}

inverse_in : (m : Matrix) (found : Result Point AffFault) → IfOk found IsPoint → IfOk (by_inverse m found) IsPoint
inverse_in m found h = by (unsigned_abs (determinant m) == 0)
  where
    by : (b : Bool) → IfOk (let r : Result Point AffFault = if b then Err Singular else found in r) IsPoint
    by true = tt
    by false = h

pub corner_in : (m : Matrix) (p q : Point) → IfOk (corner_of m p q) IsPoint
unfolding corner_of
corner_in m p q =
    let n = along_first m (q.x -ℤ p.x) (q.y -ℤ p.y) in
    inverse_in m (point_at (p.x +ℤ share m m.a n) (p.y +ℤ share m m.b n)) (point_in (p.x +ℤ share m m.a n) (p.y +ℤ share m m.b n))
