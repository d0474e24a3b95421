-- The states of graphics that keys leave are in range, where the values of expressions are.
use Rattle.std.proofs.Common.{◌≡◌, ℕ, Bool, true, false, refl, arith, List, [], ◌∷◌, Option, Some, None, Result, Ok, Err, ℤ, pos, unsigned_abs}
use Rattle.std.specs.Prelude.{IfOk, ◌≤ℤ◌, int_le, if◌then◌else◌}
use Rattle.std.specs.Map.{lookup}
use Rattle.std.specs.Str.{bytes_eq}
use Rattle.std.proofs.lemmas.Int.{ints}
use Rattle.tk_characters.specs.Characters.{comma, colon}
use Rattle.tk_num.specs.Number.{IsScaled}
use Rattle.tk_item.specs.declared.Rgb.{Rgb}
use Rattle.tk_token.specs.declared.Code.TheVariants.{Domain}
use Rattle.tk_token.specs.declared.Tok.{Tok}
use Rattle.tk_token.specs.Answers.{Answer, ◌>>=◌, fault, or_fault}
use Rattle.tk_token.specs.Spaces.{trimmed}
use Rattle.tk_token.specs.Texts.{text_in}
use Rattle.tk_native.specs.declared.Native.{Native}
use Rattle.tk_native.specs.declared.Native.TheVariants as natives
use Rattle.tk_native.specs.declared.ColourKey.{ColourKey}
use Rattle.tk_native.specs.declared.ColourKey.TheVariants.{Color, Text}
use Rattle.tk_native.specs.declared.PaintKey.{PaintKey}
use Rattle.tk_native.specs.declared.PaintKey.TheVariants.{Draw, Fill}
use Rattle.tk_native.specs.declared.LengthKey.{LengthKey}
use Rattle.tk_native.specs.declared.LengthKey.TheVariants.{DashPhase, X, Y, InnerSep, InnerXSep, InnerYSep, OuterSep, OuterXSep, OuterYSep}
use Rattle.tk_native.specs.declared.LengthKey.TheVariants.{MinimumSize, MinimumWidth, MinimumHeight}
use Rattle.tk_native.specs.declared.AngleKey.{AngleKey}
use Rattle.tk_native.specs.declared.AngleKey.TheVariants.{Start, End, Delta}
use Rattle.tk_native.specs.declared.MeasureKey.{MeasureKey}
use Rattle.tk_native.specs.declared.MeasureKey.TheVariants.{Radius, XRadius, YRadius, GridStep, XStep, YStep}
use Rattle.tk_native.specs.declared.LookKey.{LookKey}
use Rattle.tk_native.specs.declared.LookKey.TheVariants.{Colour, Paint, Length, Angle, Measure, Flag, LineWidth, LineCap, LineJoin, MiterLimit}
use Rattle.tk_native.specs.declared.LookKey.TheVariants.{DashPattern, Shape, Anchor, Pos, Name, Unknown}
use Rattle.tk_native.specs.declared.TransformKey.{TransformKey}
use Rattle.tk_native.specs.declared.TransformKey.TheVariants.{Step, Beside, Shift, RotateAround, Cm}
use Rattle.tk_native.specs.declared.FlagKey.{FlagKey}
use Rattle.tk_native.specs.declared.FlagKey.TheVariants.{Solid, Dotted, DenselyDotted, LooselyDotted, EvenOddRule, NonZeroRule, Sloped, Baseline}
use Rattle.tk_affine.specs.declared.AffFault.{AffFault}
use Rattle.tk_affine.specs.declared.Matrix.{Matrix}
use Rattle.tk_affine.specs.declared.Shape.{Shape as NodeShape}
use Rattle.tk_affine.specs.declared.Step.{Step as AStep}
use Rattle.tk_affine.specs.Faults.{answer_at}
use Rattle.tk_affine.specs.Steps.{IsMatrix, with_steps}
use Rattle.tk_affine.proofs.Ranges.{steps_in, unmoved_in}
use Rattle.tk_expr.specs.declared.FontUnits.{FontUnits}
use Rattle.tk_expr.specs.declared.Value.{Value}
use Rattle.tk_expr.specs.Evaluates.{Evaluation, IsEvaluation}
use Rattle.tk_expr.proofs.Ranges.{evaluates_within}
use Rattle.tk_look.specs.declared.GraphicsState.{GraphicsState}
use Rattle.tk_look.specs.declared.Look.{Look}
use Rattle.tk_look.specs.Applied.{Applied, looking, coloured, switched, painted, with_length, with_angle, with_measure, flagged, name_by, paint_by}
use Rattle.tk_look.specs.Applied.{paint, with_name, shaped_or_unknown, coloured_or_shaped, by_own_name, shift_by, turn_around, matrix_step}
use Rattle.tk_look.specs.Applied.{side_length, beside, position_value, set_look, transformed, native_applied}
use Rattle.tk_look.specs.Colours.{colour_of}
use Rattle.tk_look.specs.Dashes.{pattern_value}
use Rattle.tk_look.specs.Graphics.{initial_graphics, graphics_by}
use Rattle.tk_look.specs.Ranges.{IsPen, IsInRange}
use Rattle.tk_look.specs.Values.{value_there, word_value, colour_value, at_least, measure_value, number_value, number_from, anchor_value}
use Rattle.tk_look.specs.Words.{caps, joins, shapes}

-- a look with a pen in range
abbrev LookIn : Look → Type 0
LookIn look = IsPen look.line_width look.miter_limit

-- what a key leaves
abbrev AppliedIn : Applied → Type 0
AppliedIn new = LookIn new.look

then_in : {A B : Type 0} (Q : A → Type 0) (R : B → Type 0) (m : Answer A) (f : A → Answer B) → IfOk m Q → ((x : A) → Q x → IfOk (f x) R)
    → IfOk (m >>= f) R
then_in Q R (Ok x) f h k = k x h
then_in Q R (Err e) f h k = tt

-- whatever the value is
then_any : {A B : Type 0} (R : B → Type 0) (m : Answer A) (f : A → Answer B) → ((x : A) → IfOk (f x) R) → IfOk (m >>= f) R
then_any R (Ok x) f k = k x
then_any R (Err e) f k = tt

if_in : {A : Type 0} (R : A → Type 0) (b : Bool) (m n : Answer A) → IfOk m R → IfOk n R → IfOk (if b then m else n) R
if_in R true m n h k = h
if_in R false m n h k = k

-- ---- what is set

coloured_in : (key : ColourKey) (c : Rgb) (look : Look) → LookIn look → LookIn (coloured key c look)
coloured_in Color c look h = h
coloured_in Text c look h = h

switched_in : (key : PaintKey) (on : Bool) (look : Look) → LookIn look → LookIn (switched key on look)
switched_in Draw on look h = h
switched_in Fill on look h = h

painted_in : (key : PaintKey) (c : Rgb) (look : Look) → LookIn look → LookIn (painted key c look)
painted_in Draw c look h = h
painted_in Fill c look h = h

length_in : (key : LengthKey) (l : ℤ) (look : Look) → LookIn look → LookIn (with_length key l look)
length_in DashPhase l look h = h
length_in X l look h = h
length_in Y l look h = h
length_in InnerSep l look h = h
length_in InnerXSep l look h = h
length_in InnerYSep l look h = h
length_in OuterSep l look h = h
length_in OuterXSep l look h = h
length_in OuterYSep l look h = h
length_in MinimumSize l look h = h
length_in MinimumWidth l look h = h
length_in MinimumHeight l look h = h

angle_in : (key : AngleKey) (a : ℤ) (look : Look) → LookIn look → LookIn (with_angle key a look)
angle_in Start a look h = h
angle_in End a look h = h
angle_in Delta a look h = h

measure_in : (key : MeasureKey) (v : Value) (look : Look) → LookIn look → LookIn (with_measure key v look)
measure_in Radius v look h = h
measure_in XRadius v look h = h
measure_in YRadius v look h = h
measure_in GridStep v look h = h
measure_in XStep v look h = h
measure_in YStep v look h = h

flagged_in : (key : FlagKey) (look : Look) → LookIn look → LookIn (flagged key look)
flagged_in Solid look h = h
flagged_in Dotted look h = h
flagged_in DenselyDotted look h = h
flagged_in LooselyDotted look h = h
flagged_in EvenOddRule look h = h
flagged_in NonZeroRule look h = h
flagged_in Sloped look h = h
flagged_in Baseline look h = h

-- ---- keys

module _ (at : ℕ) where
  paint_by_in : (key : PaintKey) (text : Option (List ℕ)) (look : Look) → LookIn look → IfOk (paint_by at key text look) LookIn
  paint_by_in key None look h = tt
  paint_by_in key (Some text) look h = if_in LookIn (bytes_eq text _) (Ok (switched key false look)) _ (switched_in key false look h)
      (then_any LookIn (or_fault (colour_of text) _ at) _ (λ c. painted_in key c look h))

  paint_in : (key : PaintKey) (value : Option (List Tok)) (look : Look) → LookIn look → IfOk (paint at key value look) LookIn
  paint_in key None look h = switched_in key true look h
  paint_in key (Some list) look h = paint_by_in key (text_in list) look h

  name_in : (value : Option (List Tok)) (look : Look) → LookIn look → IfOk (with_name at value look) LookIn
  name_in value look h =
      then_any LookIn (value_there at value) _ (λ list. then_any LookIn (or_fault (text_in (trimmed list)) _ at) _ (λ name. h))

  shaped_in : (shape : Option NodeShape) (look : Look) → LookIn look → IfOk (shaped_or_unknown at shape look) LookIn
  shaped_in (Some shape) look h = h
  shaped_in None look h = tt

  coloured_or_shaped_in : (c : Option Rgb) (name : List ℕ) (look : Look) → LookIn look → IfOk (coloured_or_shaped at c name look) LookIn
  coloured_or_shaped_in (Some c) name look h = h
  coloured_or_shaped_in None name look h = shaped_in (lookup (bytes_eq name) shapes) look h

  own_name_in : (name : List ℕ) (value : Option (List Tok)) (look : Look) → LookIn look → IfOk (by_own_name at name value look) LookIn
  own_name_in name None look h = coloured_or_shaped_in (colour_of name) name look h
  own_name_in name (Some list) look h = tt

  module _ (ev : Evaluation) (font : FontUnits) (ranges : (toks : List Tok) → IfOk (ev font at toks) (λ (v : Value). IsScaled v.number)) where
    -- a number in range that isn't below another
    record AtLeast (least x : ℤ) : Type 0 where
      range : IsScaled x
      low : least ≤ℤ x

    least_in : (least x : ℤ) → IsScaled x → IfOk (at_least at least x) (AtLeast least)
    least_in least x h = by (int_le least x) refl
      where
        by : (b : Bool) → int_le least x ≡ b → IfOk (let r : Answer ℤ = if b then Ok x else fault Domain at in r) (AtLeast least)
        by true e = record { range = h; low = grind (arith, ints) }
        by false e = tt

    number_in : (value : Option (List Tok)) → IfOk (number_value at ev font value) IsScaled
    number_in None = tt
    number_in (Some list) = then_in (λ (v : Value). IsScaled v.number) IsScaled (ev font at list) _ (ranges list) (λ v h. h)

    from_in : (least : ℤ) (value : Option (List Tok)) → IfOk (number_from at ev font least value) (AtLeast least)
    from_in least value = then_in IsScaled (AtLeast least) (number_value at ev font value) _ (number_in value) (λ x h. least_in least x h)

    set_in : (key : LookKey) (name : List ℕ) (value : Option (List Tok)) (look : Look) → LookIn look
        → IfOk (set_look at ev font key name value look) LookIn
    unfolding set_look
    set_in (Colour key) name value look h = then_any LookIn (colour_value at value) _ (λ c. coloured_in key c look h)
    set_in (Paint key) name value look h = paint_in key value look h
    set_in (Length key) name value look h = then_any LookIn (number_value at ev font value) _ (λ l. length_in key l look h)
    set_in (Angle key) name value look h = then_any LookIn (number_value at ev font value) _ (λ a. angle_in key a look h)
    set_in (Measure key) name value look h = then_any LookIn (measure_value at ev font value) _ (λ v. measure_in key v look h)
    set_in (Flag key) name value look h = flagged_in key look h
    set_in LineWidth name value look h =
        then_in (AtLeast (pos 0)) LookIn (number_from at ev font (pos 0) value) _ (from_in (pos 0) value)
        (λ width k. record { range = k.range; width = k.low; miter = h.miter })
    set_in LineCap name value look h = then_any LookIn (word_value at caps value) _ (λ cap. h)
    set_in LineJoin name value look h = then_any LookIn (word_value at joins value) _ (λ join. h)
    set_in MiterLimit name value look h =
        then_in (AtLeast (pos 65536)) LookIn (number_from at ev font (pos 65536) value) _ (from_in (pos 65536) value)
        (λ limit k. record { range = h.range; width = h.width; miter = k.low })
    set_in DashPattern name value look h = then_any LookIn (pattern_value at ev font value) _ (λ lengths. h)
    set_in Shape name value look h = then_any LookIn (word_value at shapes value) _ (λ shape. h)
    set_in Anchor name value look h = then_any LookIn (anchor_value at ev font value) _ (λ anchor. h)
    set_in Pos name value look h = then_any LookIn (position_value at ev font value) _ (λ t. h)
    set_in Name name value look h = name_in value look h
    set_in Unknown name value look h = own_name_in name value look h

    transformed_in : (key : TransformKey) (value : Option (List Tok)) (look : Look) → LookIn look
        → IfOk (transformed at ev font key value look) AppliedIn
    unfolding transformed
    transformed_in (Step key) value look h = then_any AppliedIn (number_value at ev font value) _ (λ x. h)
    transformed_in (Beside side) value look h = then_any AppliedIn (side_length at ev font value) _ (λ l. h)
    transformed_in Shift value look h =
        then_any AppliedIn (value_there at value) _ (λ list. then_any AppliedIn (shift_by at ev font list look) _ (λ step. h))
    transformed_in RotateAround value look h =
        then_any AppliedIn (value_there at value) _ (λ list. then_any AppliedIn (turn_around at ev font list look) _ (λ turn. h))
    transformed_in Cm value look h =
        then_any AppliedIn (value_there at value) _ (λ list. then_any AppliedIn (matrix_step at ev font list look) _ (λ step. h))

    applied_in : (key : Native) (name : List ℕ) (value : Option (List Tok)) (look : Look) → LookIn look
        → IfOk (native_applied at ev font key name value look) AppliedIn
    applied_in (natives.Look key) name value look h =
        then_in LookIn AppliedIn (set_look at ev font key name value look) _ (set_in key name value look h) (λ new k. k)
    applied_in (natives.Transform key) name value look h = transformed_in key value look h

    found_in : (found : Result Matrix AffFault) → IfOk found IsMatrix → IfOk (answer_at at found) IsMatrix
    found_in (Ok m) h = h
    found_in (Err e) h = tt

    -- what a key leaves is in range where what it began with is
    pub graphics_in : (key : Native) (name : List ℕ) (value : Option (List Tok)) (g : GraphicsState) → IsInRange g
        → IfOk (graphics_by at ev font key name value g) IsInRange
    unfolding graphics_by
    graphics_in key name value g h =
        then_in AppliedIn IsInRange (native_applied at ev font key name value g.look) _ (applied_in key name value g.look h.1) (λ new k.
        then_in IsMatrix IsInRange (answer_at at (with_steps g.matrix new.steps)) _
        (found_in (with_steps g.matrix new.steps) (steps_in g.matrix new.steps h.0)) (λ matrix l. (l, k)))

-- so is what nothing was set in
pub initial_in : (font : FontUnits) → IsInRange (initial_graphics font)
initial_in font = (unmoved_in, record { range = omega arith; width = omega (arith, ints); miter = omega (arith, ints) })

-- by each evaluation that meets the grammar
pub key_in : (g : GraphicsState) → IsInRange g → (ev : Evaluation) → IsEvaluation ev → (at : ℕ) (font : FontUnits) (key : Native) (name : List ℕ)
    (value : Option (List Tok)) → IfOk (graphics_by at ev font key name value g) IsInRange
key_in g h ev is at font key name value =
    graphics_in at ev font (λ toks. evaluates_within font at toks (ev font at toks) (is font at toks)) key name value g h
