-- What circles, arcs and grids are measured by.
use Rattle.std.specs.Prelude.{ℕ, List, drop, Option, Some, None, Ok, ℤ, ◌+ℤ◌, ◌-ℤ◌}
use Rattle.tk_characters.specs.Characters.{colon}
use Rattle.tk_num.specs.Number.{scaled}
use Rattle.tk_token.specs.declared.Tok.{Tok}
use Rattle.tk_token.specs.declared.Code.TheVariants.{PathSyntax}
use Rattle.tk_token.specs.Answers.{Answer, ◌>>=◌, fault, or_fault}
use Rattle.tk_token.specs.Groups.{Cut, first_outside, before_char}
use Rattle.tk_token.specs.Kinds.{begins_and}
use Rattle.tk_expr.specs.declared.FontUnits.{FontUnits}
use Rattle.tk_expr.specs.declared.Value.{Value}
use Rattle.tk_expr.specs.Evaluates.{Evaluation}
use Rattle.tk_expr.specs.Pairs.{length_along}
use Rattle.tk_expr.specs.Values.{placed}
use Rattle.tk_look.specs.declared.GraphicsState.{GraphicsState}
use Rattle.tk_outline.specs.declared.measures.ArcText.{ArcText}
use Rattle.tk_outline.specs.declared.measures.Measures.{Measures}
use Rattle.tk_outline.specs.declared.measures.Radii.{Radii}
use Rattle.tk_outline.specs.declared.measures.Sweep.{Sweep}

-- the measures of what is drawn there and so
abbrev pub measures_of : GraphicsState → Measures
measures_of g = record {
  matrix = g.matrix;
  x = g.look.x;
  y = g.look.y;
  radii = record { x = g.look.x_radius; y = g.look.y_radius };
  start_angle = g.look.start_angle;
  end_angle = g.look.end_angle;
  delta_angle = g.look.delta_angle;
  xstep = g.look.xstep;
  ystep = g.look.ystep;
}

-- ---- lengths

-- the length of a number across, where one without a unit counts x vectors
abbrev pub length_across : Measures → ℕ → Value → Answer ℤ
length_across m at value = length_along m.x at value

-- the same upward, with y vectors
abbrev pub length_upward : Measures → ℕ → Value → Answer ℤ
length_upward m at value = length_along m.y at value

-- ---- in parentheses

module _ (ev : Evaluation) (font : FontUnits) (at : ℕ) where
  -- the radii of a text cut at its first `and`: `r and s`, or `r`, which is both; `at` is the place of an empty one
  abbrev pub radii_by : List Tok → Option Cut → Answer Radii
  radii_by text None = do
    r ← ev font at text
    Ok (record { x = r; y = r })
  radii_by text (Some c) = do
    r ← ev font at c.front
    s ← ev font at (drop 3 c.rest)
    Ok (record { x = r; y = s })

  unfoldable pub radii_in : List Tok → Answer Radii
  radii_in text = radii_by text (first_outside begins_and text)

  -- an angle
  abbrev pub angle_in : List Tok → Answer ℤ
  angle_in text = do
    value ← ev font at text
    Ok value.number

  -- the angles and radii of `a:b:r` or `a:b:r and s`
  unfoldable pub arc_in : List Tok → Answer ArcText
  arc_in text = do
    first ← or_fault (before_char colon text) PathSyntax at
    second ← or_fault (before_char colon first.rest) PathSyntax at
    a ← angle_in first.front
    b ← angle_in second.front
    radii ← radii_in second.rest
    Ok (record { sweep = record { from = a; to = b }; radii = radii })

-- ---- by keys

-- Two of the angles tell the third, and of all three `delta angle` isn't used. With fewer there is no arc.
unfoldable pub sweep_of : ℕ → Option ℤ → Option ℤ → Option ℤ → Answer Sweep
sweep_of at (Some a) (Some b) delta = Ok (record { from = a; to = b })
sweep_of at (Some a) None (Some delta) = do
  b ← placed at (scaled (a +ℤ delta))
  Ok (record { from = a; to = b })
sweep_of at None (Some b) (Some delta) = do
  a ← placed at (scaled (b -ℤ delta))
  Ok (record { from = a; to = b })
sweep_of at a b delta = fault PathSyntax at
