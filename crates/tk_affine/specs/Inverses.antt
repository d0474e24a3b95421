-- Points that are sought by their images, and corners and directions along the axes of a matrix.
use Rattle.std.specs.Prelude.{◌==◌, ◌≤◌, if◌then◌else◌, Result, Ok, Err, ℤ, pos, neg_ℤ, ◌+ℤ◌, ◌-ℤ◌, ◌*ℤ◌, int_div, int_lt}
use Rattle.std.specs.Prelude.{unsigned_abs}
use Rattle.tk_num.specs.Number.{one}
use Rattle.tk_item.specs.declared.Point.{Point}
use Rattle.tk_affine.specs.declared.AffFault.{AffFault}
use Rattle.tk_affine.specs.declared.AffFault.TheVariants.{Singular}
use Rattle.tk_affine.specs.declared.Matrix.{Matrix}
use Rattle.tk_affine.specs.Images.{point_at}

-- a*d - b*c, the measure by which a matrix makes areas greater; 0 where all images lie on one line
abbrev pub determinant : Matrix → ℤ
determinant m = m.a *ℤ m.d -ℤ m.b *ℤ m.c

-- what is found by the inverse of a matrix, where it has one
abbrev pub by_inverse : {A : Type 0} → Matrix → Result A AffFault → Result A AffFault
by_inverse m found = if unsigned_abs (determinant m) == 0 then Err Singular else found

-- d*x - c*y; over the determinant it is how often the first axis (a,b) goes into (x,y)
abbrev pub along_first : Matrix → ℤ → ℤ → ℤ
along_first m x y = m.d *ℤ x -ℤ m.c *ℤ y

-- a*y - b*x; over the determinant it is how often the second axis (c,d) goes into (x,y)
abbrev pub along_second : Matrix → ℤ → ℤ → ℤ
along_second m x y = m.a *ℤ y -ℤ m.b *ℤ x

-- r*n/D, where D is the determinant, cut toward zero
abbrev pub share : Matrix → ℤ → ℤ → ℤ
share m r n = int_div (r *ℤ n) (determinant m)

-- the point whose image is p, each coordinate by one quotient
unfoldable pub inverse_image : Matrix → Point → Result Point AffFault
inverse_image m p =
    let x = p.x -ℤ m.tx in
    let y = p.y -ℤ m.ty in
    let first = share m (pos one) (along_first m x y) in
    let second = share m (pos one) (along_second m x y) in
    by_inverse m (point_at first second)

-- the corner between p and q: from p along the first axis until only the second leads to q
unfoldable pub corner_of : Matrix → Point → Point → Result Point AffFault
corner_of m p q =
    let n = along_first m (q.x -ℤ p.x) (q.y -ℤ p.y) in
    by_inverse m (point_at (p.x +ℤ share m m.a n) (p.y +ℤ share m m.b n))

-- x, negated where u is negative, whatever the sign of x itself
abbrev pub signed_by : ℤ → ℤ → ℤ
signed_by u x = if int_lt u (pos 0) then neg_ℤ x else x

-- the direction of the vector (x,y) along the axes: over |D|, how often each axis goes into it
abbrev pub ray_of : Matrix → ℤ → ℤ → ℤ × ℤ
ray_of m x y = (signed_by (determinant m) (along_first m x y), signed_by (determinant m) (along_second m x y))

-- the direction from the image of the origin to a point
unfoldable pub ray_to : Matrix → Point → Result (ℤ × ℤ) AffFault
ray_to m p = by_inverse m (Ok (ray_of m (p.x -ℤ m.tx) (p.y -ℤ m.ty)))

-- how far the numbers of a direction go
pub record IsRay (ray : ℤ × ℤ) : Type 0 where
  pub first : unsigned_abs ray.0 ≤ 4611686009837453316
  pub second : unsigned_abs ray.1 ≤ 4611686009837453316
