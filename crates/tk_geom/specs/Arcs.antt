-- Arcs: curves of at most 90 degrees each. Angles are in 65536ths of a degree, counterclockwise from the right.
use Rattle.std.specs.Prelude.{ℕ, ◌+◌, ◌-◌, ◌*◌, ◌/◌, ◌==◌, if◌then◌else◌, List, [], Result, Ok, ℤ, pos, neg_ℤ, ◌+ℤ◌}
use Rattle.std.specs.Prelude.{◌-ℤ◌, ◌*ℤ◌, int_div, unsigned_abs}
use Rattle.std.specs.List.{range_with_len}
use Rattle.std.specs.Result.{result_unwrap_or}
use Rattle.tk_num.specs.Number.{product}
use Rattle.tk_num.specs.Angle.{degrees, sine, cosine, tangent}
use Rattle.tk_token.specs.Answers.{◌>>=◌}
use Rattle.tk_item.specs.declared.Point.{Point}
use Rattle.tk_item.specs.declared.Seg.{Seg}
use Rattle.tk_item.specs.declared.Seg.TheVariants.{Curve}
use Rattle.tk_affine.specs.declared.AffFault.{AffFault}
use Rattle.tk_affine.specs.declared.Matrix.{Matrix}
use Rattle.tk_affine.specs.Images.{vector_image}
use Rattle.tk_geom.specs.Pieces.{xy, sum_of, difference_of, checked, try_map}

-- how many pieces the arc from a to b has: one for each 90 degrees that are begun
abbrev pub piece_count : ℤ → ℤ → ℕ
piece_count a b = (unsigned_abs (b -ℤ a) + (degrees 90 - 1)) / degrees 90

-- the angle at which the piece i of n begins
abbrev pub angle_at : ℤ → ℤ → ℕ → ℕ → ℤ
angle_at a b n i = a +ℤ int_div ((b -ℤ a) *ℤ pos i) (pos n)

-- the tangent of an angle of at most 22.5 degrees, which has one
abbrev pub small_tangent : ℤ → ℤ
small_tangent angle = result_unwrap_or (tangent angle) (pos 0)

-- How far the control points of each of n pieces lie from its ends, in 65536ths of a radius: 4/3 of the tangent of a
-- quarter of its angle.
abbrev pub control_ratio : ℤ → ℤ → ℕ → ℤ
control_ratio a b n = int_div (pos 4 *ℤ small_tangent (int_div (b -ℤ a) (pos (4 * n)))) (pos 3)

-- the image of the vector from the centre of an ellipse to its point at an angle
unfoldable pub spoke : Matrix → ℤ → ℤ → ℤ → Result Point AffFault
spoke m rx ry angle = vector_image m (xy (product rx (cosine angle)) (product ry (sine angle)))

-- the image of the vector from that point to the control point that follows it
unfoldable pub control_vector : Matrix → ℤ → ℤ → ℤ → ℤ → Result Point AffFault
control_vector m rx ry k angle =
    vector_image m (xy (neg_ℤ (product (product rx (sine angle)) k)) (product (product ry (cosine angle)) k))

-- a piece round a centre, from the angle a to the angle b
unfoldable pub arc_piece : Matrix → Point → ℤ → ℤ → ℤ → ℤ → ℤ → Result Seg AffFault
arc_piece m centre rx ry k a b = do
  from ← spoke m rx ry a
  out ← control_vector m rx ry k a
  to ← spoke m rx ry b
  back ← control_vector m rx ry k b
  p ← checked (sum_of (sum_of centre from) out)
  q ← checked (difference_of (sum_of centre to) back)
  r ← checked (sum_of centre to)
  Ok (Curve p q r)

-- the piece i of n round a centre, for the arc from the angle a to the angle b
abbrev pub piece_at : Matrix → Point → ℤ → ℤ → ℤ → ℤ → ℕ → ℕ → Result Seg AffFault
piece_at m centre a b rx ry n i =
    arc_piece m centre rx ry (control_ratio a b n) (angle_at a b n i) (angle_at a b n (i + 1))

-- all n of them
abbrev pub arc_round : Matrix → Point → ℤ → ℤ → ℤ → ℤ → ℕ → Result (List Seg) AffFault
arc_round m centre a b rx ry n = try_map (piece_at m centre a b rx ry n) (range_with_len 0 n)

-- The pieces of the arc that begins at c, at the angle a, and goes to the angle b; there are none where the two are
-- equal. Its centre is that from which the vector to the angle a leads to c.
unfoldable pub arc_pieces : Matrix → Point → ℤ → ℤ → ℤ → ℤ → Result (List Seg) AffFault
arc_pieces m c a b rx ry = if piece_count a b == 0 then Ok [] else do
  first ← spoke m rx ry a
  arc_round m (difference_of c first) a b rx ry (piece_count a b)
