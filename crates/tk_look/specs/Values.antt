-- How the values of native keys are read.
use Rattle.std.specs.Prelude.{ℕ, Bool, true, false, int_le, if◌then◌else◌, List, [], ◌∷◌, Option, Some, None, Ok, Err}
use Rattle.std.specs.Prelude.{option_map, option_and_then, ℤ}
use Rattle.tk_characters.specs.Characters.{left_parenthesis, right_parenthesis}
use Rattle.tk_characters.specs.Words.{word_meaning}
use Rattle.tk_item.specs.declared.Point.{Point}
use Rattle.tk_item.specs.declared.Rgb.{Rgb}
use Rattle.tk_token.specs.declared.Code.{Code}
use Rattle.tk_token.specs.declared.Code.TheVariants.{Domain, Expression, ValueRequired, UnknownChoice, Colour, NoAnchor}
use Rattle.tk_token.specs.declared.Code.TheVariants.{Coordinate}
use Rattle.tk_token.specs.declared.Tok.{Tok}
use Rattle.tk_token.specs.Answers.{Answer, ◌>>=◌, fault, or_fault}
use Rattle.tk_token.specs.Kinds.{is_char}
use Rattle.tk_token.specs.Spaces.{trimmed}
use Rattle.tk_token.specs.Texts.{text_in}
use Rattle.tk_affine.specs.declared.Anchor.{Anchor}
use Rattle.tk_affine.specs.declared.Anchor.TheVariants.{Angle}
use Rattle.tk_expr.specs.declared.FontUnits.{FontUnits}
use Rattle.tk_expr.specs.declared.Value.{Value}
use Rattle.tk_expr.specs.Evaluates.{Evaluation}
use Rattle.tk_expr.specs.Pairs.{paired, vector_of}
use Rattle.tk_look.specs.declared.Look.{Look}
use Rattle.tk_look.specs.Colours.{colour_of}
use Rattle.tk_look.specs.Words.{anchors}

-- ---- texts

-- what stands in a table at the text of tokens
abbrev pub found_in : {A : Type 0} → List (List ℕ × A) → List Tok → Option A
found_in table list = option_and_then (word_meaning table) (text_in list)

-- the colour of the text of tokens
abbrev pub colour_in : List Tok → Option Rgb
colour_in list = option_and_then colour_of (text_in list)

-- the tokens before a `)` that ends them
unfoldable pub before_closing : List Tok → Option (List Tok)
before_closing [] = None
before_closing (t ∷ []) = if is_char right_parenthesis t.kind then Some [] else None
before_closing (t ∷ (u ∷ ts)) = option_map (λ before. t ∷ before) (before_closing (u ∷ ts))

-- the tokens between a `(` and a `)` that all of them stand in
abbrev pub between_parentheses : List Tok → Option (List Tok)
between_parentheses [] = None
between_parentheses (t ∷ ts) = if is_char left_parenthesis t.kind then before_closing ts else None

-- what isn't an expression
abbrev pub is_misfit : Code → Bool
is_misfit Expression = true
is_misfit _ = false

-- ---- by the place of a key

module _ (at : ℕ) where
  -- a value that has to be there
  abbrev pub value_there : Option (List Tok) → Answer (List Tok)
  value_there value = or_fault value ValueRequired at

  -- a word of a table
  abbrev pub word_value : {A : Type 0} → List (List ℕ × A) → Option (List Tok) → Answer A
  word_value table value = do
    list ← value_there value
    or_fault (found_in table list) UnknownChoice at

  -- a colour
  abbrev pub colour_value : Option (List Tok) → Answer Rgb
  colour_value value = do
    list ← value_there value
    or_fault (colour_in list) Colour at

  -- a number that isn't below another
  abbrev pub at_least : ℤ → ℤ → Answer ℤ
  at_least least x = if int_le least x then Ok x else fault Domain at

  -- a text that isn't an expression isn't an anchor
  abbrev pub as_anchor : Answer Value → Answer Anchor
  as_anchor (Ok found) = Ok (Angle found.number)
  as_anchor (Err f) = if is_misfit f.code then fault NoAnchor at else Err f

  -- by an evaluation, with the units of the font
  module _ (ev : Evaluation) (font : FontUnits) where
    -- the value of an expression
    abbrev pub measure_value : Option (List Tok) → Answer Value
    measure_value value = do
      list ← value_there value
      ev font at list

    -- its number: a length without a unit counts points
    abbrev pub number_value : Option (List Tok) → Answer ℤ
    number_value value = do
      found ← measure_value value
      Ok found.number

    -- a number that isn't below another
    abbrev pub number_from : ℤ → Option (List Tok) → Answer ℤ
    number_from least value = do
      x ← number_value value
      at_least least x

    -- the name of an anchor, or an angle
    abbrev pub anchor_by : Option Anchor → List Tok → Answer Anchor
    anchor_by (Some anchor) list = Ok anchor
    anchor_by None list = as_anchor (ev font at list)

    -- the anchor of a text: `north east`, or `60`
    abbrev pub anchor_in_text : List Tok → Answer Anchor
    anchor_in_text list = anchor_by (found_in anchors list) list

    abbrev pub anchor_value : Option (List Tok) → Answer Anchor
    anchor_value value = do
      list ← value_there value
      anchor_in_text list

    -- the vector of `(1,2)` or another pair in parentheses, with Spaces round it, by the vectors of a look
    unfoldable pub vector_value : Look → List Tok → Answer Point
    vector_value look list = do
      text ← or_fault (between_parentheses (trimmed list)) Coordinate at
      found ← paired ev font at text
      pair ← or_fault found Coordinate at
      vector_of look.x look.y at pair
