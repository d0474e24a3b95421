-- What the native keys make of their values, and of a look.
use Rattle.std.specs.Prelude.{ℕ, Bool, true, false, nat_le, unsigned_abs, if◌then◌else◌, List, [], ◌∷◌, Option, Some}
use Rattle.std.specs.Prelude.{None, Ok, ℤ, pos, neg_ℤ, codes}
use Rattle.std.specs.Str.{bytes_eq}
use Rattle.tk_characters.specs.Characters.{comma, colon}
use Rattle.tk_characters.specs.Words.{word_meaning}
use Rattle.tk_num.specs.Number.{product}
use Rattle.tk_item.specs.declared.Rgb.{Rgb}
use Rattle.tk_item.specs.declared.Rule.TheVariants.{NonZero, EvenOdd}
use Rattle.tk_token.specs.declared.Code.TheVariants.{Domain, Colour as NoColour, Coordinate, UnknownKey}
use Rattle.tk_token.specs.declared.Tok.{Tok}
use Rattle.tk_token.specs.Answers.{Answer, ◌>>=◌, fault, or_fault}
use Rattle.tk_token.specs.Groups.{before_char}
use Rattle.tk_token.specs.Spaces.{trimmed}
use Rattle.tk_token.specs.Texts.{text_in}
use Rattle.tk_native.specs.declared.Native.{Native}
use Rattle.tk_native.specs.declared.Native.TheVariants as natives
use Rattle.tk_native.specs.declared.ColourKey.{ColourKey}
use Rattle.tk_native.specs.declared.ColourKey.TheVariants.{Color, Text}
use Rattle.tk_native.specs.declared.PaintKey.{PaintKey}
use Rattle.tk_native.specs.declared.PaintKey.TheVariants.{Draw, Fill}
use Rattle.tk_native.specs.declared.LengthKey.{LengthKey}
use Rattle.tk_native.specs.declared.LengthKey.TheVariants.{DashPhase, X, Y, InnerSep, InnerXSep, InnerYSep, OuterSep}
use Rattle.tk_native.specs.declared.LengthKey.TheVariants.{OuterXSep, OuterYSep, MinimumSize, MinimumWidth}
use Rattle.tk_native.specs.declared.LengthKey.TheVariants.{MinimumHeight}
use Rattle.tk_native.specs.declared.AngleKey.{AngleKey}
use Rattle.tk_native.specs.declared.AngleKey.TheVariants.{Start, End, Delta}
use Rattle.tk_native.specs.declared.MeasureKey.{MeasureKey}
use Rattle.tk_native.specs.declared.MeasureKey.TheVariants.{Radius, XRadius, YRadius, GridStep, XStep, YStep}
use Rattle.tk_native.specs.declared.LookKey.{LookKey}
use Rattle.tk_native.specs.declared.LookKey.TheVariants.{Colour, Paint, Length, Angle, Measure, Flag, LineWidth}
use Rattle.tk_native.specs.declared.LookKey.TheVariants.{LineCap, LineJoin, MiterLimit, DashPattern, Shape, Anchor, Pos}
use Rattle.tk_native.specs.declared.LookKey.TheVariants.{Name, Unknown}
use Rattle.tk_native.specs.declared.TransformKey.{TransformKey}
use Rattle.tk_native.specs.declared.TransformKey.TheVariants.{Step, Beside, Shift, RotateAround, Cm}
use Rattle.tk_native.specs.declared.StepKey.{StepKey}
use Rattle.tk_native.specs.declared.StepKey.TheVariants.{XShift, YShift, Rotate, Scale, XScale, YScale, XSlant, YSlant}
use Rattle.tk_native.specs.declared.FlagKey.{FlagKey}
use Rattle.tk_native.specs.declared.FlagKey.TheVariants.{Solid, Dotted, DenselyDotted, LooselyDotted, EvenOddRule}
use Rattle.tk_native.specs.declared.FlagKey.TheVariants.{NonZeroRule, Sloped, Baseline}
use Rattle.tk_native.specs.declared.Side.{Side}
use Rattle.tk_native.specs.declared.Side.TheVariants.{Above, Below, Left, Right, AboveLeft, AboveRight, BelowLeft}
use Rattle.tk_native.specs.declared.Side.TheVariants.{BelowRight}
use Rattle.tk_affine.specs.declared.Anchor.{Anchor as NodeAnchor}
use Rattle.tk_affine.specs.declared.Anchor.TheVariants as anchors
use Rattle.tk_affine.specs.declared.Shape.{Shape as NodeShape}
use Rattle.tk_affine.specs.declared.Step.{Step as AffineStep}
use Rattle.tk_affine.specs.declared.Step.TheVariants as steps
use Rattle.tk_expr.specs.declared.FontUnits.{FontUnits}
use Rattle.tk_expr.specs.declared.Value.{Value}
use Rattle.tk_expr.specs.Evaluates.{Evaluation}
use Rattle.tk_look.specs.declared.Look.{Look}
use Rattle.tk_look.specs.Colours.{colour_of}
use Rattle.tk_look.specs.Dashes.{pattern_value}
use Rattle.tk_look.specs.Values.{value_there, word_value, colour_value, measure_value, number_value, number_from}
use Rattle.tk_look.specs.Values.{anchor_value, vector_value}
use Rattle.tk_look.specs.Words.{caps, joins, shapes}

-- what a key leaves: the look, and the steps that it puts behind those of the transformation
pub record Applied : Type 0 where
  pub look : Look
  pub steps : List AffineStep

-- a look, and no step
abbrev pub looking : Look → Applied
looking look = record { look = look; steps = [] }

-- steps, and the look as it was
abbrev pub stepping : Look → List AffineStep → Applied
stepping look steps = record { look = look; steps = steps }

-- ---- what is set

-- a colour
abbrev pub coloured : ColourKey → Rgb → Look → Look
coloured Color c look = record look { draw = c; fill = c; text = c }
coloured Text c look = record look { text = c }

-- whether a path is drawn or filled
abbrev pub switched : PaintKey → Bool → Look → Look
switched Draw on look = record look { draw_on = on }
switched Fill on look = record look { fill_on = on }

-- it is, in that colour
abbrev pub painted : PaintKey → Rgb → Look → Look
painted Draw c look = record look { draw_on = true; draw = c }
painted Fill c look = record look { fill_on = true; fill = c }

-- a length
abbrev pub with_length : LengthKey → ℤ → Look → Look
with_length DashPhase l look = record look { dash_phase = l }
with_length X l look = record look { x = l }
with_length Y l look = record look { y = l }
with_length InnerSep l look = record look { inner_xsep = l; inner_ysep = l }
with_length InnerXSep l look = record look { inner_xsep = l }
with_length InnerYSep l look = record look { inner_ysep = l }
with_length OuterSep l look = record look { outer_xsep = Some l; outer_ysep = Some l }
with_length OuterXSep l look = record look { outer_xsep = Some l }
with_length OuterYSep l look = record look { outer_ysep = Some l }
with_length MinimumSize l look = record look { minimum_width = l; minimum_height = l }
with_length MinimumWidth l look = record look { minimum_width = l }
with_length MinimumHeight l look = record look { minimum_height = l }

-- an angle
abbrev pub with_angle : AngleKey → ℤ → Look → Look
with_angle Start angle look = record look { start_angle = Some angle }
with_angle End angle look = record look { end_angle = Some angle }
with_angle Delta angle look = record look { delta_angle = Some angle }

-- a radius, or a step of grids
abbrev pub with_measure : MeasureKey → Value → Look → Look
with_measure Radius v look = record look { x_radius = v; y_radius = v }
with_measure XRadius v look = record look { x_radius = v }
with_measure YRadius v look = record look { y_radius = v }
with_measure GridStep v look = record look { xstep = v; ystep = v }
with_measure XStep v look = record look { xstep = v }
with_measure YStep v look = record look { ystep = v }

-- dots as long as the lines are wide, with so much between them
abbrev pub dotted : ℤ → Look → Look
dotted gap look = record look { dash_pattern = look.line_width ∷ gap ∷ [] }

-- what is so without a value
abbrev pub flagged : FlagKey → Look → Look
flagged Solid look = record look { dash_pattern = [] }
flagged Dotted look = dotted (pos 131072) look
flagged DenselyDotted look = dotted (pos 65536) look
flagged LooselyDotted look = dotted (pos 262144) look
flagged EvenOddRule look = record look { fill_rule = EvenOdd }
flagged NonZeroRule look = record look { fill_rule = NonZero }
flagged Sloped look = record look { sloped = true }
flagged Baseline look = look

-- ---- steps

-- the step of one number; 65536 is one
abbrev pub step_of : StepKey → ℤ → AffineStep
step_of XShift l = steps.Shift l (pos 0)
step_of YShift l = steps.Shift (pos 0) l
step_of Rotate angle = steps.Rotate angle
step_of Scale factor = steps.Scale factor factor
step_of XScale factor = steps.Scale factor (pos 65536)
step_of YScale factor = steps.Scale (pos 65536) factor
step_of XSlant factor = steps.Slant factor (pos 0)
step_of YSlant factor = steps.Slant (pos 0) factor

-- the shift by a length to a side; on a diagonal by 46341/65536 of it, half the root of 2, on each axis
abbrev pub shift_to : Side → ℤ → AffineStep
shift_to Above l = steps.Shift (pos 0) l
shift_to Below l = steps.Shift (pos 0) (neg_ℤ l)
shift_to Left l = steps.Shift (neg_ℤ l) (pos 0)
shift_to Right l = steps.Shift l (pos 0)
shift_to AboveLeft l = steps.Shift (neg_ℤ (product l (pos 46341))) (product l (pos 46341))
shift_to AboveRight l = steps.Shift (product l (pos 46341)) (product l (pos 46341))
shift_to BelowLeft l = steps.Shift (neg_ℤ (product l (pos 46341))) (neg_ℤ (product l (pos 46341)))
shift_to BelowRight l = steps.Shift (product l (pos 46341)) (neg_ℤ (product l (pos 46341)))

-- the anchor with which a node stands at that side of a place
abbrev pub facing : Side → NodeAnchor
facing Above = anchors.South
facing Below = anchors.North
facing Left = anchors.East
facing Right = anchors.West
facing AboveLeft = anchors.SouthEast
facing AboveRight = anchors.SouthWest
facing BelowLeft = anchors.NorthEast
facing BelowRight = anchors.NorthWest

-- ---- keys

-- a name; an empty one is none
abbrev pub name_by : List ℕ → Option (List ℕ)
name_by [] = None
name_by (c ∷ cs) = Some (c ∷ cs)

module _ (at : ℕ) where
  -- `draw` and `fill`
  abbrev pub paint_by : PaintKey → Option (List ℕ) → Look → Answer Look
  paint_by key None look = fault NoColour at
  paint_by key (Some text) look = if bytes_eq text (codes "none") then Ok (switched key false look) else do
    c ← or_fault (colour_of text) NoColour at
    Ok (painted key c look)

  abbrev pub paint : PaintKey → Option (List Tok) → Look → Answer Look
  paint key None look = Ok (switched key true look)
  paint key (Some list) look = paint_by key (text_in list) look

  -- `name`
  abbrev pub with_name : Option (List Tok) → Look → Answer Look
  with_name value look = do
    list ← value_there at value
    name ← or_fault (text_in (trimmed list)) Coordinate at
    Ok (record look { name = name_by name })

  -- a key that isn't known, but is a colour or a shape
  abbrev pub shaped_or_unknown : Option NodeShape → Look → Answer Look
  shaped_or_unknown (Some shape) look = Ok (record look { shape = shape })
  shaped_or_unknown None look = fault UnknownKey at

  abbrev pub coloured_or_shaped : Option Rgb → List ℕ → Look → Answer Look
  coloured_or_shaped (Some c) name look = Ok (coloured Color c look)
  coloured_or_shaped None name look = shaped_or_unknown (word_meaning shapes name) look

  abbrev pub by_own_name : List ℕ → Option (List Tok) → Look → Answer Look
  by_own_name name None look = coloured_or_shaped (colour_of name) name look
  by_own_name name (Some list) look = fault UnknownKey at

  module _ (ev : Evaluation) (font : FontUnits) where
    -- `shift=(p)`
    abbrev pub shift_by : List Tok → Look → Answer AffineStep
    shift_by list look = do
      v ← vector_value at ev font look list
      Ok (steps.Shift v.x v.y)

    -- `rotate around=a:(p)`: the place p comes to the origin, is turned, and comes back
    unfoldable pub turn_around : List Tok → Look → Answer (List AffineStep)
    turn_around list look = do
      c ← or_fault (before_char colon list) Domain at
      angle ← ev font at c.front
      v ← vector_value at ev font look c.rest
      Ok (steps.Shift v.x v.y ∷ steps.Rotate angle.number ∷ steps.Shift (neg_ℤ v.x) (neg_ℤ v.y) ∷ [])

    -- `cm=a,b,c,d,(p)`: the form is asked before any number is read
    unfoldable pub matrix_step : List Tok → Look → Answer AffineStep
    matrix_step list look = do
      first ← or_fault (before_char comma list) Domain at
      second ← or_fault (before_char comma first.rest) Domain at
      third ← or_fault (before_char comma second.rest) Domain at
      fourth ← or_fault (before_char comma third.rest) Domain at
      a ← ev font at first.front
      b ← ev font at second.front
      c ← ev font at third.front
      d ← ev font at fourth.front
      v ← vector_value at ev font look fourth.rest
      Ok (steps.Cm (record { a = a.number; b = b.number; c = c.number; d = d.number; tx = v.x; ty = v.y }))

    -- the length by which a node is shifted, which is 0 where there is none
    abbrev pub side_length : Option (List Tok) → Answer ℤ
    side_length None = Ok (pos 0)
    side_length (Some list) = number_value at ev font (Some list)

    -- a place along a line, from -8 to 8
    abbrev pub position_value : Option (List Tok) → Answer ℤ
    position_value value = do
      t ← number_value at ev font value
      if nat_le (unsigned_abs t) 524288 then Ok t else fault Domain at

    -- `above=l` and the like
    abbrev pub beside : Side → Option (List Tok) → Look → Answer Applied
    beside side value look = do
      l ← side_length value
      Ok (stepping (record look { anchor = facing side }) (shift_to side l ∷ []))

    -- ---- all keys

    -- what a key of the look sets; the name of the key is asked where it isn't known by itself
    unfoldable pub set_look : LookKey → List ℕ → Option (List Tok) → Look → Answer Look
    set_look (Colour key) name value look = do
      c ← colour_value at value
      Ok (coloured key c look)
    set_look (Paint key) name value look = paint key value look
    set_look (Length key) name value look = do
      l ← number_value at ev font value
      Ok (with_length key l look)
    set_look (Angle key) name value look = do
      angle ← number_value at ev font value
      Ok (with_angle key angle look)
    set_look (Measure key) name value look = do
      v ← measure_value at ev font value
      Ok (with_measure key v look)
    set_look (Flag key) name value look = Ok (flagged key look)
    set_look LineWidth name value look = do
      width ← number_from at ev font (pos 0) value
      Ok (record look { line_width = width })
    set_look LineCap name value look = do
      cap ← word_value at caps value
      Ok (record look { line_cap = cap })
    set_look LineJoin name value look = do
      join ← word_value at joins value
      Ok (record look { line_join = join })
    set_look MiterLimit name value look = do
      limit ← number_from at ev font (pos 65536) value
      Ok (record look { miter_limit = limit })
    set_look DashPattern name value look = do
      lengths ← pattern_value at ev font value
      Ok (record look { dash_pattern = lengths })
    set_look Shape name value look = do
      shape ← word_value at shapes value
      Ok (record look { shape = shape })
    set_look Anchor name value look = do
      a ← anchor_value at ev font value
      Ok (record look { anchor = a })
    set_look Pos name value look = do
      t ← position_value value
      Ok (record look { pos = Some t })
    set_look Name name value look = with_name value look
    set_look Unknown name value look = by_own_name name value look

    -- the steps that a key of the transformation makes
    unfoldable pub transformed : TransformKey → Option (List Tok) → Look → Answer Applied
    transformed (Step key) value look = do
      x ← number_value at ev font value
      Ok (stepping look (step_of key x ∷ []))
    transformed (Beside side) value look = beside side value look
    transformed Shift value look = do
      list ← value_there at value
      step ← shift_by list look
      Ok (stepping look (step ∷ []))
    transformed RotateAround value look = do
      list ← value_there at value
      turn ← turn_around list look
      Ok (stepping look turn)
    transformed Cm value look = do
      list ← value_there at value
      step ← matrix_step list look
      Ok (stepping look (step ∷ []))

    -- What a key that is there from the beginning makes of its value and of a look.
    abbrev pub native_applied : Native → List ℕ → Option (List Tok) → Look → Answer Applied
    native_applied (natives.Look key) name value look = do
      new ← set_look key name value look
      Ok (looking new)
    native_applied (natives.Transform key) name value look = transformed key value look
