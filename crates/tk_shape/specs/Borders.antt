-- Where rays from the centre of a node meet its border. Lengths are in scaled points and lie along the node's own axes; x and y
-- are how far the border lies to the right of the centre and above it. A ray leads toward (u,v), and only the ratio of these
-- counts.
use Rattle.std.specs.Prelude.{ℕ, ◌+◌, ◌≤◌, ◌==◌, Bool, ◌&&◌, nat_lt, if◌then◌else◌, Result, ℤ, pos, ◌*ℤ◌, int_div, int_le}
use Rattle.std.specs.Prelude.{unsigned_abs}
use Rattle.tk_item.specs.declared.Point.{Point}
use Rattle.tk_affine.specs.declared.AffFault.{AffFault}
use Rattle.tk_affine.specs.declared.Shape.{Shape}
use Rattle.tk_affine.specs.declared.Shape.TheVariants.{Rectangle, Circle, Coordinate}
use Rattle.tk_affine.specs.Images.{point_at}
use Rattle.tk_affine.specs.Inverses.{signed_by}
use Rattle.tk_affine.specs.Directions.{whole_length}

-- the centre
abbrev pub origin : Point
origin = record { x = pos 0; y = pos 0 }

-- a place along the node's axes, where it is a point
abbrev pub checked : Point → Result Point AffFault
checked p = point_at p.x p.y

-- the ray leads to the right or the left side of a rectangle, or to a corner: it has an x, and |v|/|u| is at most y/x
abbrev pub meets_side : ℤ → ℤ → ℤ → ℤ → Bool
meets_side x y u v = nat_lt 0 (unsigned_abs u) && int_le (x *ℤ pos (unsigned_abs v)) (y *ℤ pos (unsigned_abs u))

-- where it meets a rectangle: at a side, on the line through both sides, or at the top or the bottom. With the halves 4 and 2
-- the ray toward (2,1) meets it at (4,2), that toward (-8,3) at (-4,1), and that toward (1,-1) at (2,-2)
abbrev pub rectangle_border : ℤ → ℤ → ℤ → ℤ → Point
rectangle_border x y u v =
    if meets_side x y u v then record { x = signed_by u x; y = int_div (signed_by u x *ℤ v) u }
    else if unsigned_abs v == 0 then record { x = signed_by u x; y = pos 0 }
    else record { x = int_div (signed_by v y *ℤ u) v; y = signed_by v y }

-- where it meets the circle with the radius x: with the radius 10 the ray toward (3,4) meets it at (6,8)
abbrev pub circle_border : ℤ → ℤ → ℤ → Point
circle_border x u v =
    let n = pos (whole_length u v) in
    record { x = int_div (x *ℤ u) n; y = int_div (x *ℤ v) n }

-- where a ray that leads somewhere meets the border; that of a coordinate is its centre
abbrev pub border_at : Shape → ℤ → ℤ → ℤ → ℤ → Point
border_at Rectangle x y u v = rectangle_border x y u v
border_at Circle x y u v = circle_border x u v
border_at Coordinate x y u v = origin

-- where a ray meets the border; one toward (0,0) leads to the centre
unfoldable pub border : Shape → ℤ → ℤ → ℤ → ℤ → Point
border shape x y u v = if unsigned_abs u + unsigned_abs v == 0 then origin else border_at shape x y u v

-- a place is no further from the centre than the halves, to either side
pub record IsWithin (x y : ℕ) (p : Point) : Type 0 where
  pub across : unsigned_abs p.x ≤ x
  pub upward : unsigned_abs p.y ≤ y
