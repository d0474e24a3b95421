-- Tokens as the pieces of an expression: a run of letters is one piece, every other token is one.
use Rattle.std.specs.Prelude.{ℕ, ◌-◌, ◌==◌, if◌then◌else◌, List, [], ◌∷◌, ◌++◌, map, codes, unwrap_or}
use Rattle.std.specs.Char.{is_ascii_digit}
use Rattle.tk_num.specs.declared.unit.Unit.TheVariants as units
use Rattle.tk_token.specs.Cutting.{is_letter}
use Rattle.tk_token.specs.declared.Kind.{Kind}
use Rattle.tk_token.specs.declared.Kind.TheVariants.{Char, Open, Close, Space}
use Rattle.tk_token.specs.declared.Tok.{Tok}
use Rattle.tk_characters.specs.Characters as characters
use Rattle.tk_characters.specs.Words.{word_meaning}
use Rattle.tk_expr.specs.declared.pieces.Mark.{Mark}
use Rattle.tk_expr.specs.declared.pieces.Mark.TheVariants.{Digit, Point, Measure, Radian, Pi, Single, Double, Several}
use Rattle.tk_expr.specs.declared.pieces.Mark.TheVariants.{Word, Plus, Minus, Star, Slash, Caret, Bar, Ampersand}
use Rattle.tk_expr.specs.declared.pieces.Mark.TheVariants.{Equals, Bang, Less, Greater, Question, Colon, Comma, Left}
use Rattle.tk_expr.specs.declared.pieces.Mark.TheVariants.{Right, Gap, Other}
use Rattle.tk_expr.specs.declared.pieces.One.TheVariants.{Sin, Cos, Tan, Sqrt, Abs, Sign, Floor, Ceil, Round, Int}
use Rattle.tk_expr.specs.declared.pieces.Two.TheVariants.{Mod, Pow, Veclen}
use Rattle.tk_expr.specs.declared.pieces.Most.TheVariants.{Min, Max}
use Rattle.tk_expr.specs.declared.pieces.Piece.{Piece}

-- the units, `r` and `pi`
abbrev pub measures : List (List ℕ × Mark)
measures =
    (codes "pt", Measure units.Pt) ∷
    (codes "pc", Measure units.Pc) ∷
    (codes "in", Measure units.In) ∷
    (codes "bp", Measure units.Bp) ∷
    (codes "cm", Measure units.Cm) ∷
    (codes "mm", Measure units.Mm) ∷
    (codes "dd", Measure units.Dd) ∷
    (codes "cc", Measure units.Cc) ∷
    (codes "sp", Measure units.Sp) ∷
    (codes "em", Measure units.Em) ∷
    (codes "ex", Measure units.Ex) ∷
    (codes "r", Radian) ∷
    (codes "pi", Pi) ∷ []

-- the names of functions
abbrev pub functions : List (List ℕ × Mark)
functions =
    (codes "sin", Single Sin) ∷
    (codes "cos", Single Cos) ∷
    (codes "tan", Single Tan) ∷
    (codes "sqrt", Single Sqrt) ∷
    (codes "abs", Single Abs) ∷
    (codes "sign", Single Sign) ∷
    (codes "floor", Single Floor) ∷
    (codes "ceil", Single Ceil) ∷
    (codes "round", Single Round) ∷
    (codes "int", Single Int) ∷
    (codes "mod", Double Mod) ∷
    (codes "pow", Double Pow) ∷
    (codes "veclen", Double Veclen) ∷
    (codes "min", Several Min) ∷
    (codes "max", Several Max) ∷ []

-- both tables
abbrev pub rows : List (List ℕ × Mark)
rows = measures ++ functions

-- what a text is by a table, or just a word
abbrev pub mark_in : List (List ℕ × Mark) → List ℕ → Mark
mark_in table text = unwrap_or (word_meaning table text) Word

-- what a run of letters is
unfoldable pub word_mark : List ℕ → Mark
word_mark text = mark_in rows text

-- what a character is by a table, or something that no expression has
abbrev pub mark_at : List (ℕ × Mark) → ℕ → Mark
mark_at [] c = Other
mark_at (row ∷ others) c = if c == row.0 then row.1 else mark_at others c

-- the characters that an expression has beside digits and letters
abbrev pub signs : List (ℕ × Mark)
signs =
    (characters.point, Point) ∷
    (characters.plus, Plus) ∷
    (characters.dash, Minus) ∷
    (characters.star, Star) ∷
    (characters.slash, Slash) ∷
    (characters.caret, Caret) ∷
    (characters.bar, Bar) ∷
    (characters.ampersand, Ampersand) ∷
    (characters.equals, Equals) ∷
    (characters.exclamation_mark, Bang) ∷
    (characters.less, Less) ∷
    (characters.greater, Greater) ∷
    (characters.question_mark, Question) ∷
    (characters.colon, Colon) ∷
    (characters.comma, Comma) ∷
    (characters.left_parenthesis, Left) ∷
    (characters.right_parenthesis, Right) ∷ []

-- the character of the digit 0, behind which the others stand in order
abbrev pub digit_zero : ℕ
digit_zero = 48

-- what a character that is no letter is
unfoldable pub char_mark : ℕ → Mark
char_mark c = if is_ascii_digit c then Digit (c - digit_zero) else mark_at signs c

-- what a single token is: braces count as parentheses
abbrev pub mark_of : Kind → Mark
mark_of (Char c) = char_mark c
mark_of Open = Left
mark_of Close = Right
mark_of Space = Gap
mark_of _ = Other

-- letters side by side or another token, with the place of the first token
pub data Lump : Type 0 where
  Letters : List ℕ → ℕ → Lump
  Alone : Kind → ℕ → Lump

-- a letter before lumps: it joins the letters that stand there
abbrev pub with_letter : ℕ → ℕ → List Lump → List Lump
with_letter c at (Letters text _ ∷ lumps) = Letters (c ∷ text) at ∷ lumps
with_letter c at lumps = Letters (c ∷ []) at ∷ lumps

-- a token before lumps
abbrev pub with_token : Kind → ℕ → List Lump → List Lump
with_token (Char c) at lumps = if is_letter c then with_letter c at lumps else Alone (Char c) at ∷ lumps
with_token kind at lumps = Alone kind at ∷ lumps

-- tokens in runs of letters, as long as they can be, and other tokens
abbrev pub lumps_of : List Tok → List Lump
lumps_of [] = []
lumps_of (t ∷ ts) = with_token t.kind t.at (lumps_of ts)

-- the piece of a lump
abbrev pub piece_of : Lump → Piece
piece_of (Letters text at) = record { mark = word_mark text; at = at }
piece_of (Alone kind at) = record { mark = mark_of kind; at = at }

-- the pieces of tokens
abbrev pub pieces_of : List Tok → List Piece
pieces_of toks = map piece_of (lumps_of toks)
