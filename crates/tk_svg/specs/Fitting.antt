-- Which drawings an SVG document can stand for.
use Rattle.std.specs.Prelude.{◌≤◌, List, ◌∷◌, Option, Some, None}
use Rattle.std.specs.Prelude.{ℤ, pos, ◌≤ℤ◌, ◌-ℤ◌, unsigned_abs}
use Rattle.std.specs.List.{AllByRecursion}
use Rattle.tk_item.specs.declared.Seg.{Seg}
use Rattle.tk_item.specs.declared.Seg.TheVariants.{Move}
use Rattle.tk_item.specs.declared.Stroke.{Stroke}
use Rattle.tk_item.specs.declared.Item.{Item}
use Rattle.tk_item.specs.declared.Item.TheVariants.{Path, Label}
use Rattle.tk_item.specs.declared.Drawing.{Drawing}
use Rattle.tk_svg.specs.Labels.{FitsText}
use Rattle.tk_svg.specs.Document.{IsFamily}

-- a path has pieces, and begins with a move
abbrev pub BeginsWithMove : List Seg → Type 0
BeginsWithMove (Move p ∷ segs) = Unit {0}
BeginsWithMove _ = ⊥

-- a path that is drawn has a width that is not negative, and a miter limit of at least one
abbrev pub FitsStroke : Option Stroke → Type 0
FitsStroke None = Unit {0}
FitsStroke (Some stroke) = (pos 0 ≤ℤ stroke.width) × (pos 65536 ≤ℤ stroke.miter)

-- a path or a label that fits
abbrev pub FitsItem : Item → Type 0
FitsItem (Path segs fill stroke) = BeginsWithMove segs × FitsStroke stroke
FitsItem (Label label) = FitsText label.text

-- a number that a view box can have
abbrev pub FitsBox : ℤ → Type 0
FitsBox z = unsigned_abs z ≤ 4294967295

-- a drawing that fits the form
pub record Fits (d : Drawing) : Type 0 where
  pub sides : d.frame.left ≤ℤ d.frame.right
  pub heights : d.frame.bottom ≤ℤ d.frame.top
  pub left : FitsBox d.frame.left
  pub top : FitsBox d.frame.top
  pub width : FitsBox (d.frame.right -ℤ d.frame.left)
  pub height : FitsBox (d.frame.top -ℤ d.frame.bottom)
  pub family : IsFamily d.family
  pub items : AllByRecursion FitsItem d.items
