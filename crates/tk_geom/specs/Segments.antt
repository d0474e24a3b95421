-- Places on what a path drew last. A place is counted in 65536ths of the way; one below 0 or above 65536 lies beyond an
-- end.
use Rattle.std.specs.Prelude.{◌≤◌, ◌^◌, if◌then◌else◌, Result, Ok, ℤ, pos, ◌+ℤ◌, ◌-ℤ◌, ◌*ℤ◌, int_div, int_lt}
use Rattle.std.specs.Prelude.{unsigned_abs}
use Rattle.tk_num.specs.Number.{one}
use Rattle.tk_token.specs.Answers.{◌>>=◌}
use Rattle.tk_item.specs.declared.Point.{Point}
use Rattle.tk_affine.specs.declared.AffFault.{AffFault}
use Rattle.tk_affine.specs.Images.{point_at}
use Rattle.tk_geom.specs.declared.Last.{Last}
use Rattle.tk_geom.specs.declared.Last.TheVariants.{Nowhere, Line, Corner, Curve}
use Rattle.tk_geom.specs.Pieces.{difference_of}

-- a point, and the direction in which the path goes there
abbrev pub Waypoint : Type 0
Waypoint = Point × ℤ × ℤ

-- the point (x,y), where it is in range, with a direction
abbrev pub waypoint_at : ℤ → ℤ → ℤ → ℤ → Result Waypoint AffFault
waypoint_at x y dx dy = do
  point ← point_at x y
  Ok (point, dx, dy)

-- at t on the line from p to q: p + (q-p)*t/65536, the quotient cut toward zero, in the direction of q - p
abbrev pub on_line : Point → Point → ℤ → Result Waypoint AffFault
on_line p q t =
    let d = difference_of q p in
    waypoint_at (p.x +ℤ int_div (d.x *ℤ t) (pos one)) (p.y +ℤ int_div (d.y *ℤ t) (pos one)) d.x d.y

-- at t on the line to a corner and on: the first half of the way is the first leg, the second half the second
abbrev pub on_corner : Point → Point → Point → ℤ → Result Waypoint AffFault
on_corner p corner q t =
    if int_lt t (pos 32768) then on_line p corner (pos 2 *ℤ t) else on_line corner q (pos 2 *ℤ t -ℤ pos one)

-- The coordinate at t of a curve whose points have the coordinates a to d: u^3*a + 3*u^2*t*b + 3*u*t^2*c + t^3*d, where
-- u is what is left of the way. Both count 65536ths, and the whole is cut toward zero.
abbrev pub cubic : ℤ → ℤ → ℤ → ℤ → ℤ → ℤ → ℤ
cubic u t a b c d =
    int_div
    (u *ℤ u *ℤ u *ℤ a +ℤ pos 3 *ℤ (u *ℤ u *ℤ t) *ℤ b +ℤ pos 3 *ℤ (u *ℤ t *ℤ t) *ℤ c +ℤ t *ℤ t *ℤ t *ℤ d)
    (pos (2 ^ 48))

-- a third of how fast it changes there: u^2*(b-a) + 2*u*t*(c-b) + t^2*(d-c), likewise
abbrev pub heading : ℤ → ℤ → ℤ → ℤ → ℤ → ℤ → ℤ
heading u t a b c d =
    int_div (u *ℤ u *ℤ (b -ℤ a) +ℤ pos 2 *ℤ (u *ℤ t) *ℤ (c -ℤ b) +ℤ t *ℤ t *ℤ (d -ℤ c)) (pos (2 ^ 32))

-- at t on the curve from a to d with the control points b and c
abbrev pub on_curve : Point → Point → Point → Point → ℤ → Result Waypoint AffFault
on_curve a b c d t =
    let u = pos one -ℤ t in
    waypoint_at
    (cubic u t a.x b.x c.x d.x) (cubic u t a.y b.y c.y d.y)
    (heading u t a.x b.x c.x d.x) (heading u t a.y b.y c.y d.y)

-- at t on what a path drew last
unfoldable pub place_on : Last → ℤ → Result Waypoint AffFault
place_on (Nowhere p) t = Ok (p, pos 0, pos 0)
place_on (Line p q) t = on_line p q t
place_on (Corner p corner q) t = on_corner p corner q t
place_on (Curve a b c d) t = on_curve a b c d t

-- both numbers of a direction are within 2^40
abbrev pub IsShort : Waypoint → Type 0
IsShort waypoint = (unsigned_abs waypoint.1 ≤ 2 ^ 40) × (unsigned_abs waypoint.2 ≤ 2 ^ 40)
