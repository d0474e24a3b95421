-- Private: only private contracts use this. What the types of a drawing's parts say of its numbers.
use Rattle.std.specs.Prelude.{◌<◌, Option, Some, None}
use Rattle.std.specs.Char.{IsScalar}
use Rattle.std.specs.List.{AllByRecursion}
use Rattle.tk_num.specs.Number.{IsScaled}
use Rattle.tk_item.specs.Lengths.{AreDashes}
use Rattle.tk_item.specs.declared.Point.{Point}
use Rattle.tk_item.specs.declared.Seg.{Seg}
use Rattle.tk_item.specs.declared.Seg.TheVariants.{Move, Line, Curve, Close}
use Rattle.tk_item.specs.declared.Rgb.{Rgb}
use Rattle.tk_item.specs.declared.Fill.{Fill}
use Rattle.tk_item.specs.declared.Stroke.{Stroke}
use Rattle.tk_item.specs.declared.Item.{Item}
use Rattle.tk_item.specs.declared.Item.TheVariants as item
use Rattle.tk_item.specs.declared.Label.{Label}

-- both numbers of a point are scaled ones
pub record PointInRange (p : Point) : Type 0 where
  pub x : IsScaled p.x
  pub y : IsScaled p.y

-- those of each point of a piece
abbrev pub PieceInRange : Seg → Type 0
PieceInRange (Move p) = PointInRange p
PieceInRange (Line p) = PointInRange p
PieceInRange (Curve p q r) = PointInRange p × PointInRange q × PointInRange r
PieceInRange Close = Unit {0}

-- the parts of a colour are bytes
pub record RgbInRange (rgb : Rgb) : Type 0 where
  pub r : rgb.r < 256
  pub g : rgb.g < 256
  pub b : rgb.b < 256

-- a fill, where there is one
abbrev pub FillInRange : Option Fill → Type 0
FillInRange None = Unit {0}
FillInRange (Some fill) = RgbInRange fill.rgb

-- the numbers of a stroke are scaled ones, and the dashes are at most sixteen lengths
pub record StrokeNumbersInRange (stroke : Stroke) : Type 0 where
  pub rgb : RgbInRange stroke.rgb
  pub width : IsScaled stroke.width
  pub miter : IsScaled stroke.miter
  pub dash : AllByRecursion IsScaled stroke.dash
  pub dashes : AreDashes stroke.dash
  pub phase : IsScaled stroke.phase

-- a stroke, where there is one
abbrev pub StrokeInRange : Option Stroke → Type 0
StrokeInRange None = Unit {0}
StrokeInRange (Some stroke) = StrokeNumbersInRange stroke

-- the numbers of a label's matrix, but for its point
pub record MatrixInRange (label : Label) : Type 0 where
  pub a : IsScaled label.a
  pub b : IsScaled label.b
  pub c : IsScaled label.c
  pub d : IsScaled label.d

-- the numbers of a label are scaled ones, and its text is of characters
pub record LabelInRange (label : Label) : Type 0 where
  pub at : PointInRange label.at
  pub matrix : MatrixInRange label
  pub colour : RgbInRange label.rgb
  pub text : AllByRecursion IsScalar label.text

-- a path or a label
abbrev pub ItemInRange : Item → Type 0
ItemInRange (item.Path segs fill stroke) = AllByRecursion PieceInRange segs × FillInRange fill × StrokeInRange stroke
ItemInRange (item.Label label) = LabelInRange label
