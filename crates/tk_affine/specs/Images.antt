-- What a matrix makes of points. Its linear part counts 65536ths, its shift and the points scaled points.
use Rattle.std.specs.Prelude.{◌&&◌, if◌then◌else◌, Result, Ok, Err, ℤ, pos, ◌+ℤ◌, ◌*ℤ◌, int_div}
use Rattle.tk_num.specs.Number.{one, IsScaled, is_scaled}
use Rattle.tk_item.specs.declared.Point.{Point}
use Rattle.tk_affine.specs.declared.AffFault.{AffFault}
use Rattle.tk_affine.specs.declared.AffFault.TheVariants.{TooLarge}
use Rattle.tk_affine.specs.declared.Matrix.{Matrix}

-- both numbers of a point are in range
pub record IsPoint (p : Point) : Type 0 where
  pub x : IsScaled p.x
  pub y : IsScaled p.y

-- the point (x,y), where both numbers are in range
abbrev pub point_at : ℤ → ℤ → Result Point AffFault
point_at x y = if is_scaled x && is_scaled y then Ok (record { x = x; y = y }) else Err TooLarge

-- how far to the right the vector p goes: a*x + c*y, cut toward zero to a whole scaled point
abbrev pub across : Matrix → Point → ℤ
across m p = int_div (m.a *ℤ p.x +ℤ m.c *ℤ p.y) (pos one)

-- how far up the vector p goes: b*x + d*y, cut toward zero to a whole scaled point
abbrev pub upward : Matrix → Point → ℤ
upward m p = int_div (m.b *ℤ p.x +ℤ m.d *ℤ p.y) (pos one)

-- the image of a vector, which no shift moves
unfoldable pub vector_image : Matrix → Point → Result Point AffFault
vector_image m p = point_at (across m p) (upward m p)

-- the image of a point
unfoldable pub image : Matrix → Point → Result Point AffFault
image m p = point_at (across m p +ℤ m.tx) (upward m p +ℤ m.ty)
