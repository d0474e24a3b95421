-- From the text of a coordinate to its point (the PGF manual, section "Specifying Coordinates").
use Rattle.std.specs.Prelude.{ℕ, if◌then◌else◌, is_some, List, [], ◌∷◌, length, drop, codes, ◌+ℤ◌}
use Rattle.std.specs.Prelude.{Option, Some, None, Result, Ok}
use Rattle.tk_item.specs.declared.Point.{Point}
use Rattle.tk_token.specs.declared.Code.{Code}
use Rattle.tk_token.specs.declared.Code.TheVariants.{Coordinate, Unbuilt}
use Rattle.tk_token.specs.declared.Tok.{Tok}
use Rattle.tk_token.specs.Answers.{Answer, ◌>>=◌, fault, or_fault}
use Rattle.tk_token.specs.Groups.{Cut, first_outside}
use Rattle.tk_token.specs.Kinds.{begins_text, begins_corner}
use Rattle.tk_token.specs.Recursion.{by_size}
use Rattle.tk_token.specs.Spaces.{trimmed}
use Rattle.tk_affine.specs.declared.AffFault.{AffFault}
use Rattle.tk_affine.specs.declared.Matrix.{Matrix}
use Rattle.tk_affine.specs.Images.{point_at, image, vector_image}
use Rattle.tk_affine.specs.Inverses.{corner_of}
use Rattle.tk_expr.specs.declared.FontUnits.{FontUnits}
use Rattle.tk_expr.specs.declared.ValuePair.{ValuePair}
use Rattle.tk_expr.specs.Evaluates.{Evaluation}
use Rattle.tk_expr.specs.Pairs.{paired, vector_of}
use Rattle.tk_look.specs.declared.Look.{Look}
use Rattle.tk_affine.specs.Faults.{answer_at}
use Rattle.tk_coord.specs.declared.TextTarget.{TextTarget}
use Rattle.tk_coord.specs.declared.corners.CornerSign.{CornerSign}
use Rattle.tk_coord.specs.declared.corners.CornerSign.TheVariants.{HorizontalFirst, VerticalFirst}

-- ---- points

-- a point that is moved by a vector
abbrev pub translated : Point → Point → Result Point AffFault
translated p v = point_at (p.x +ℤ v.x) (p.y +ℤ v.y)

-- the point of numbers: their vector, by the vectors of a look, as the matrix takes it
abbrev pub point_in_numbers : Look → Matrix → ℕ → ValuePair → Answer Point
point_in_numbers look matrix at numbers = do
  v ← vector_of look.x look.y at numbers
  answer_at at (image matrix v)

-- a target that is a point and no node
abbrev pub without_node : Point → TextTarget
without_node p = record { point = p; node = None }

-- what is wrong with a text without numbers: nothing stands there, or the name of a node, which isn't built
abbrev pub code_without_numbers : List Tok → Code
code_without_numbers [] = Coordinate
code_without_numbers (t ∷ ts) = Unbuilt

-- ---- corners

-- the sign in front: `-|`, or else `|-`
abbrev pub sign_in_front : List Tok → CornerSign
sign_in_front ts = if begins_text (codes "-|") ts then HorizontalFirst else VerticalFirst

-- The corner on the way from p to q, along the axes of the matrix: that of `p -| q` has the y of p and the x of q, that
-- of `p |- q` the x of p and the y of q.
abbrev pub corner_between : CornerSign → Matrix → Point → Point → Result Point AffFault
corner_between HorizontalFirst m p q = corner_of m p q
corner_between VerticalFirst m p q = corner_of m q p

-- ---- texts

-- by an evaluation, the units of the font, the vectors of a look, a matrix, and the place of the coordinate's `(`
module _ (ev : Evaluation) (font : FontUnits) (look : Look) (matrix : Matrix) (at : ℕ) where
  -- the point of a text by its numbers, if it has some
  abbrev pub point_by : List Tok → Option ValuePair → Answer Point
  point_by text (Some numbers) = point_in_numbers look matrix at numbers
  point_by text None = fault (code_without_numbers text) at

  -- the point of a text without a sign
  abbrev pub lone_point : List Tok → Answer Point
  lone_point text = do
    numbers ← paired ev font at text
    point_by text numbers

  -- The point of a text by its first sign, if it has one: the corner between the point of what stands before the sign
  -- and that of what stands behind it.
  abbrev pub by_sign : (List Tok → Answer Point) → List Tok → Option Cut → Answer Point
  by_sign point text None = lone_point (trimmed text)
  by_sign point text (Some c) = do
    p ← lone_point (trimmed c.front)
    q ← point (drop 2 c.rest)
    answer_at at (corner_between (sign_in_front c.rest) matrix p q)

  -- the same, where signs are sought outside braces; this is one step, over the points of shorter texts
  abbrev pub point_step : (List Tok → Answer Point) → List Tok → Answer Point
  point_step point text = by_sign point text (first_outside begins_corner text)

  -- The point of a coordinate without `+`: `1,2`, `30:1` or `1,2 -| 3,4`. Behind a sign there may be further ones; the
  -- points are found from left to right, and then the corners from right to left.
  unfoldable pub absolute_point : List Tok → Answer Point
  absolute_point = by_size length (fault Coordinate at) point_step

  -- The point of a coordinate behind `+` or `++`, where there are numbers and no sign: the vector of its numbers, which
  -- the matrix takes without its shift, leads to it from a point.
  unfoldable pub relative_point : Point → List Tok → Answer Point
  relative_point from text = if is_some (first_outside begins_corner text) then fault Coordinate at else do
    found ← paired ev font at text
    numbers ← or_fault found Coordinate at
    v ← vector_of look.x look.y at numbers
    by ← answer_at at (vector_image matrix v)
    answer_at at (translated from by)

  -- what a coordinate's text stands for, which is relative where a point is given: a point, and no node, since no text
  -- that has a point is the name of one
  abbrev pub target_of : Option Point → List Tok → Answer TextTarget
  target_of None text = do
    p ← absolute_point text
    Ok (without_node p)
  target_of (Some from) text = do
    p ← relative_point from (trimmed text)
    Ok (without_node p)
