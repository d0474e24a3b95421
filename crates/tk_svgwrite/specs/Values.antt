-- Attributes and their values, as they are written.
use Rattle.std.specs.Prelude.{ℕ, ◌+◌, ◌/◌, ◌%◌, ◌==◌, nat_lt, if◌then◌else◌, List, [], ◌∷◌, ◌++◌, flat_map, codes, ℤ, neg_ℤ}
use Rattle.std.specs.Prelude.{bytes_eq}
use Rattle.std.specs.Char.{encode_utf8}
use Rattle.tk_num.specs.Text.{text_of}
use Rattle.tk_item.specs.declared.Point.{Point}
use Rattle.tk_item.specs.declared.Seg.{Seg}
use Rattle.tk_item.specs.declared.Seg.TheVariants.{Move, Line, Curve, Close}
use Rattle.tk_item.specs.declared.Rgb.{Rgb}
use Rattle.tk_item.specs.declared.Rule.{Rule}
use Rattle.tk_item.specs.declared.Rule.TheVariants.{NonZero, EvenOdd}
use Rattle.tk_item.specs.declared.Cap.{Cap}
use Rattle.tk_item.specs.declared.Cap.TheVariants as cap
use Rattle.tk_item.specs.declared.Join.{Join}
use Rattle.tk_item.specs.declared.Join.TheVariants as join
use Rattle.tk_characters.specs.Characters.{ampersand, less, greater}
use Rattle.tk_svg.specs.Scan.{Attribute}

-- ---- attributes

-- a space, the name, `="`, the value and `"`
abbrev pub attribute_text : Attribute → List ℕ
attribute_text a = codes " " ++ a.0 ++ codes "=\"" ++ a.1 ++ codes "\""

-- one behind another
abbrev pub attributes_text : List Attribute → List ℕ
attributes_text attributes = flat_map attribute_text attributes

-- an attribute that may be left out: its name, its initial value, and its value
pub record OptionalAttribute : Type 0 where
  pub name : List ℕ
  pub initial : List ℕ
  pub value : List ℕ

-- such a one
abbrev pub optional : List ℕ → List ℕ → List ℕ → OptionalAttribute
optional name initial value = record { name = name; initial = initial; value = value }

-- the attributes whose value is not the initial one
unfoldable pub differing : List OptionalAttribute → List Attribute
differing [] = []
differing (s ∷ optionals) =
    if bytes_eq s.value s.initial
    then differing optionals
    else (s.name, s.value) ∷ differing optionals

-- an attribute that is written where its value is not the initial one
abbrev pub optional_text : List ℕ → List ℕ → List ℕ → List ℕ
optional_text name initial value = attributes_text (differing (optional name initial value ∷ []))

-- ---- values

-- numbers with one space between any two
abbrev pub numbers_text : List ℤ → List ℕ
numbers_text [] = []
numbers_text (x ∷ []) = text_of x
numbers_text (x ∷ (y ∷ numbers)) = text_of x ++ codes " " ++ numbers_text (y ∷ numbers)

-- a point's numbers, with y turned downward
abbrev pub numbers_of_point : Point → List ℤ
numbers_of_point p = p.x ∷ neg_ℤ p.y ∷ []

-- a piece is a letter and directly behind it the numbers of its points: `L28.45274 0`
abbrev pub piece_text : Seg → List ℕ
piece_text (Move p) = codes "M" ++ numbers_text (numbers_of_point p)
piece_text (Line p) = codes "L" ++ numbers_text (numbers_of_point p)
piece_text (Curve p q r) = codes "C" ++ numbers_text (numbers_of_point p ++ numbers_of_point q ++ numbers_of_point r)
piece_text Close = codes "Z"

-- the pieces, with nothing between them
abbrev pub data_text : List Seg → List ℕ
data_text segs = flat_map piece_text segs

-- a hexadecimal digit, as a capital letter from ten on
abbrev pub hex_glyph : ℕ → ℕ
hex_glyph d = if nat_lt d 10 then 48 + d else 55 + d

-- a byte as two of them
abbrev pub hex_text : ℕ → List ℕ
hex_text byte = hex_glyph (byte / 16) ∷ hex_glyph (byte % 16) ∷ []

-- `#` and six digits
abbrev pub rgb_text : Rgb → List ℕ
rgb_text rgb = codes "#" ++ hex_text rgb.r ++ hex_text rgb.g ++ hex_text rgb.b

-- which points are inside
abbrev pub rule_text : Rule → List ℕ
rule_text NonZero = codes "nonzero"
rule_text EvenOdd = codes "evenodd"

-- how an open line ends
abbrev pub cap_text : Cap → List ℕ
cap_text cap.Butt = codes "butt"
cap_text cap.Round = codes "round"
cap_text cap.Square = codes "square"

-- how two lines meet
abbrev pub join_text : Join → List ℕ
join_text join.Miter = codes "miter"
join_text join.Round = codes "round"
join_text join.Bevel = codes "bevel"

-- the lengths, or `none`
abbrev pub dash_text : List ℤ → List ℕ
dash_text [] = codes "none"
dash_text (x ∷ xs) = numbers_text (x ∷ xs)

-- `matrix(`, numbers and `)`: `matrix(0 -1 1 0 2.5 2.5)`
abbrev pub matrix_text : List ℤ → List ℕ
matrix_text numbers = codes "matrix(" ++ (numbers_text numbers ++ codes ")")

-- ---- characters

-- a character as it is written: `&`, `<` and `>` by their names, each other one in UTF-8
abbrev pub escaped : ℕ → List ℕ
escaped c =
    if c == ampersand then codes "&amp;" else
    (if c == less then codes "&lt;" else
    (if c == greater then codes "&gt;" else encode_utf8 c))

-- the characters of a label: `a<b` is `a&lt;b`
abbrev pub content_text : List ℕ → List ℕ
content_text text = flat_map escaped text
