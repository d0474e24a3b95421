-- The look at the beginning, and inside a level.
use Rattle.std.specs.Prelude.{true, false, [], None, ℤ, pos}
use Rattle.tk_num.specs.Number.{product}
use Rattle.tk_item.specs.declared.Cap.TheVariants as caps
use Rattle.tk_item.specs.declared.Join.TheVariants as joins
use Rattle.tk_item.specs.declared.Rule.TheVariants as rules
use Rattle.tk_affine.specs.declared.Anchor.TheVariants as anchors
use Rattle.tk_affine.specs.declared.Shape.TheVariants as shapes
use Rattle.tk_expr.specs.declared.FontUnits.{FontUnits}
use Rattle.tk_expr.specs.declared.Value.{Value}
use Rattle.tk_look.specs.declared.Look.{Look}
use Rattle.tk_look.specs.Colours.{black}

-- a length that was written with its unit
abbrev pub length_written : ℤ → Value
length_written l = record { number = l; unit = true }

-- one centimetre, in scaled points
abbrev pub centimetre : ℤ
centimetre = pos 1864679

-- The look in which nothing was set: lines of 0.4pt with miters up to 10, vectors of 1cm, and rectangular nodes that
-- are at least 1pt wide, 0.3333em round their text.
abbrev pub initial_look : FontUnits → Look
initial_look font = record {
  name = None;
  draw_on = false;
  fill_on = false;
  draw = black;
  fill = black;
  text = black;
  line_width = pos 26214;
  line_cap = caps.Butt;
  line_join = joins.Miter;
  miter_limit = pos 655360;
  dash_pattern = [];
  dash_phase = pos 0;
  fill_rule = rules.NonZero;
  x = centimetre;
  y = centimetre;
  x_radius = length_written (pos 0);
  y_radius = length_written (pos 0);
  start_angle = None;
  end_angle = None;
  delta_angle = None;
  xstep = length_written centimetre;
  ystep = length_written centimetre;
  shape = shapes.Rectangle;
  inner_xsep = product (pos 21843) font.em;
  inner_ysep = product (pos 21843) font.em;
  outer_xsep = None;
  outer_ysep = None;
  minimum_width = pos 65536;
  minimum_height = pos 65536;
  anchor = anchors.Center;
  pos = None;
  sloped = false;
}

-- the look in a level that opens: the same without a name
abbrev pub look_below : Look → Look
look_below look = record look { name = None }
