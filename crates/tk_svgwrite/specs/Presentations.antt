-- Private: only private contracts use this. What is written of a path behind its data, which is kept for the paths that
-- look the same.
use Rattle.std.specs.Prelude.{◌≡◌, ℕ, List, ◌++◌, codes, Option}
use Rattle.tk_item.specs.declared.Fill.{Fill}
use Rattle.tk_item.specs.declared.Stroke.{Stroke}
use Rattle.tk_svgwrite.specs.Plain.{fill_attributes, stroke_attributes}
use Rattle.tk_svgwrite.specs.Values.{attributes_text, differing}
use Rattle.tk_svgwrite.specs.Ranges.{FillInRange, StrokeInRange}
use Rattle.tk_svgwrite.specs.declared.presentation.Presentation.{Presentation}

-- the quote behind the data, the attributes of fill and stroke, and the end of the tag
abbrev pub presentation_text : Option Fill → Option Stroke → List ℕ
presentation_text fill stroke =
    codes "\"" ++ attributes_text (differing (fill_attributes fill ++ stroke_attributes stroke)) ++ codes "/>\n"

-- the bytes are what is written of this fill and this stroke, whose numbers are in range
pub record IsPresentation (fill : Option Fill) (stroke : Option Stroke) (bytes : List ℕ) : Type 0 where
  pub text : bytes ≡ presentation_text fill stroke
  pub colours : FillInRange fill
  pub numbers : StrokeInRange stroke

-- a presentation is kept with the bytes that belong to it
abbrev pub IsKept : Presentation → Type 0
IsKept presentation = IsPresentation presentation.fill presentation.stroke presentation.text.items
