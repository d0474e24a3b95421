-- The numbers of a coordinate: `x,y`, `a:r` or `a:r and s`.
use Rattle.std.specs.Prelude.{ℕ, is_some, if◌then◌else◌, List, drop, Option, Some, None, Ok, ℤ}
use Rattle.tk_num.specs.Number.{scaled, product}
use Rattle.tk_num.specs.Angle.{sine, cosine}
use Rattle.tk_item.specs.declared.Point.{Point}
use Rattle.tk_token.specs.declared.Code.TheVariants.{Coordinate}
use Rattle.tk_token.specs.declared.Tok.{Tok}
use Rattle.tk_token.specs.Answers.{Answer, ◌>>=◌, fault}
use Rattle.tk_characters.specs.Characters.{comma, colon}
use Rattle.tk_token.specs.Groups.{Cut, first_outside, before_char, unbraced}
use Rattle.tk_token.specs.Kinds.{begins_and}
use Rattle.tk_expr.specs.declared.FontUnits.{FontUnits}
use Rattle.tk_expr.specs.declared.Value.{Value}
use Rattle.tk_expr.specs.declared.ValuePair.{ValuePair}
use Rattle.tk_expr.specs.declared.ValuePair.TheVariants.{Plane, Polar}
use Rattle.tk_expr.specs.Values.{placed}
use Rattle.tk_expr.specs.Evaluates.{Evaluation}

-- ---- the forms

-- a pair that is there
abbrev pub some_pair : Answer ValuePair → Answer (Option ValuePair)
some_pair found = found >>= λ pair. Ok (Some pair)

-- by an evaluation; `at` is the place of an empty part
module _ (ev : Evaluation) (font : FontUnits) (at : ℕ) where
  -- the value of a part, which may be a group: `{1,2}` is `1,2`
  abbrev pub part_value : List Tok → Answer Value
  part_value ts = ev font at (unbraced ts)

  -- `x,y`: there is no second `,`
  unfoldable pub plane : List Tok → List Tok → Answer ValuePair
  plane front back = if is_some (before_char comma back) then fault Coordinate at else do
    x ← part_value front
    y ← part_value back
    Ok (Plane x y)

  -- the radii `r and s`, or `r`, which is both
  abbrev pub radii : ℤ → List Tok → Option Cut → Answer ValuePair
  radii angle back None = do
    r ← part_value back
    Ok (Polar angle r r)
  radii angle back (Some c) = do
    r ← part_value c.front
    s ← part_value (drop 3 c.rest)
    Ok (Polar angle r s)

  -- `a:r` and `a:r and s`
  unfoldable pub polar : List Tok → List Tok → Answer ValuePair
  polar front back = do
    angle ← ev font at front
    radii angle.number back (first_outside begins_and back)

  -- the form of a text without a `,` outside braces: a `:` tells it, if there is one
  abbrev pub by_colon : Option Cut → Answer (Option ValuePair)
  by_colon None = Ok None
  by_colon (Some c) = some_pair (polar c.front c.rest)

  -- the form of a text: a `,` outside braces decides before a `:`, wherever they stand
  abbrev pub by_comma : List Tok → Option Cut → Answer (Option ValuePair)
  by_comma ts None = by_colon (before_char colon ts)
  by_comma ts (Some c) = some_pair (plane c.front c.rest)

  -- The numbers of a coordinate: `0<1?1:2,0` are 1 and 0, and `30:2` the angle 30 and twice the radius 2. There are
  -- none in another form.
  unfoldable pub paired : List Tok → Answer (Option ValuePair)
  paired ts = by_comma ts (before_char comma ts)

-- ---- vectors

-- a number with a unit is a length; one without multiplies the length of a vector
abbrev pub length_along : ℤ → ℕ → Value → Answer ℤ
length_along vector at v = if v.unit then Ok v.number else placed at (scaled (product v.number vector))

-- the vector of a pair, by the lengths of the x and y vectors
unfoldable pub vector_of : ℤ → ℤ → ℕ → ValuePair → Answer Point
vector_of x y at (Plane v w) = do
  p ← length_along x at v
  q ← length_along y at w
  Ok (record { x = p; y = q })
vector_of x y at (Polar angle v w) = do
  r ← length_along x at v
  s ← length_along y at w
  p ← placed at (scaled (product r (cosine angle)))
  q ← placed at (scaled (product s (sine angle)))
  Ok (record { x = p; y = q })
