-- The grammar of expressions (the PGF manual, section Mathematical Expressions). A rule goes from pieces to pieces:
-- `Expression ps t qs` says that ps begins with the expression t, and that qs is left behind it.
use Rattle.std.specs.Prelude.{◌≡◌, ℕ, ◌+◌, Bool, true, false, List, [], ◌∷◌, Option, Some, None}
use Rattle.tk_num.specs.Number.{is_decimal}
use Rattle.tk_num.specs.declared.unit.Unit.{Unit}
use Rattle.tk_expr.specs.declared.operators.Operator.{Operator}
use Rattle.tk_expr.specs.declared.operators.Operator.TheVariants.{Raise, Multiply, Divide, Add, Subtract, Same, Differs}
use Rattle.tk_expr.specs.declared.operators.Operator.TheVariants.{AtMost, AtLeast, Below, Above, Both, Either}
use Rattle.tk_expr.specs.declared.operators.Prefix.{Prefix}
use Rattle.tk_expr.specs.declared.operators.Prefix.TheVariants.{Negate, Keep, Not}
use Rattle.tk_expr.specs.declared.pieces.One.{One}
use Rattle.tk_expr.specs.declared.pieces.Two.{Two}
use Rattle.tk_expr.specs.declared.pieces.Most.{Most}
use Rattle.tk_expr.specs.declared.pieces.Mark.{Mark}
use Rattle.tk_expr.specs.declared.pieces.Mark.TheVariants.{Digit, Point, Measure, Radian, Pi, Single, Double, Several}
use Rattle.tk_expr.specs.declared.pieces.Mark.TheVariants.{Plus, Minus, Star, Slash, Caret, Bar, Ampersand, Equals}
use Rattle.tk_expr.specs.declared.pieces.Mark.TheVariants.{Bang, Less, Greater, Question, Colon, Comma, Left, Right}
use Rattle.tk_expr.specs.declared.pieces.Mark.TheVariants.{Gap}
use Rattle.tk_expr.specs.declared.pieces.Piece.{Piece}
use Rattle.tk_characters.specs.Characters.{point}
use Rattle.tk_expr.specs.Pieces.{digit_zero}
use Rattle.tk_expr.specs.Tree.{Tree, A_number, A_pi, In_unit, In_degrees, Signed, Binary, Choice, Call_one, Call_two}
use Rattle.tk_expr.specs.Tree.{Call_most}

-- ---- pieces in front

-- a piece of that mark, at that place
abbrev pub piece : Mark → ℕ → Piece
piece mark at = record { mark = mark; at = at }

-- pieces after one in front, which goes where it is a gap
abbrev pub past_gap : Mark → List Piece → List Piece → List Piece
past_gap Gap more ps = more
past_gap _ more ps = ps

-- the pieces after the gaps in front
abbrev pub skip : List Piece → List Piece
skip [] = []
skip (p ∷ ps) = past_gap p.mark (skip ps) (p ∷ ps)

-- the byte of a digit or point; other pieces have none
abbrev pub byte_of : Mark → Option ℕ
byte_of (Digit d) = Some (digit_zero + d)
byte_of Point = Some point
byte_of _ = None

-- a byte before a text, where there is one
abbrev pub with_byte : Option ℕ → List ℕ → List ℕ
with_byte (Some c) text = c ∷ text
with_byte None text = []

-- the digits and points in front, side by side
abbrev pub decimal_text : List Piece → List ℕ
decimal_text [] = []
decimal_text (p ∷ ps) = with_byte (byte_of p.mark) (decimal_text ps)

-- the first where there is a byte, else the second
abbrev pub past_byte : Option ℕ → List Piece → List Piece → List Piece
past_byte (Some c) more ps = more
past_byte None more ps = ps

-- what stands behind them
abbrev pub after_decimal : List Piece → List Piece
after_decimal [] = []
after_decimal (p ∷ ps) = past_byte (byte_of p.mark) (after_decimal ps) (p ∷ ps)

-- the unit that a mark is
abbrev pub unit_of : Mark → Option Unit
unit_of (Measure unit) = Some unit
unit_of _ = None

-- the unit in front
abbrev pub first_unit : List Piece → Option Unit
first_unit [] = None
first_unit (p ∷ ps) = unit_of p.mark

-- the unit right behind, gaps apart
abbrev pub next_unit : List Piece → Option Unit
next_unit ps = first_unit (skip ps)

-- what stands behind a unit, or all where there is none
abbrev pub past_unit : Option Unit → List Piece → List Piece → List Piece
past_unit (Some unit) (p ∷ more) ps = more
past_unit _ more ps = ps

-- the pieces after the unit right behind, if there is one
abbrev pub after_unit : List Piece → List Piece
after_unit ps = past_unit (next_unit ps) (skip ps) ps

-- ---- signs and operators

-- the sign that a mark is before an operand
abbrev pub prefix_of : Mark → Option Prefix
prefix_of Minus = Some Negate
prefix_of Plus = Some Keep
prefix_of Bang = Some Not
prefix_of _ = None

-- the sign that a mark is before an exponent
abbrev pub exponent_sign : Mark → Option Prefix
exponent_sign Minus = Some Negate
exponent_sign Plus = Some Keep
exponent_sign _ = None

-- the levels of the grammar, from the tightest on
pub data Precedence : Type 0 where
  -- units and `r`, which stand behind an operand
  Postfixes : Precedence
  -- `^`
  Powers : Precedence
  -- `*` and `/`
  Products : Precedence
  -- `+` and `-`
  Sums : Precedence
  -- `==`, `!=`, `<=`, `>=`, `<` and `>`
  Comparisons : Precedence
  -- `&&`
  Conjunctions : Precedence
  -- `||`
  Disjunctions : Precedence

-- the level of an operator
abbrev pub precedence_of : Operator → Precedence
precedence_of Raise = Powers
precedence_of Multiply = Products
precedence_of Divide = Products
precedence_of Add = Sums
precedence_of Subtract = Sums
precedence_of Both = Conjunctions
precedence_of Either = Disjunctions
precedence_of _ = Comparisons

-- the levels on which any number of operators stand between operands of one kind
abbrev pub is_chain : Precedence → Bool
is_chain Products = true
is_chain Sums = true
is_chain Conjunctions = true
is_chain Disjunctions = true
is_chain _ = false

-- behind gaps ps begins with one mark, at that place, and qs is left
abbrev pub Begins : Mark → ℕ → List Piece → List Piece → Type 0
Begins mark at ps qs = skip ps ≡ piece mark at ∷ qs

-- the same with two marks, side by side
abbrev pub BeginsTwo : Mark → Mark → ℕ → List Piece → List Piece → Type 0
BeginsTwo first second at ps qs = (next : ℕ) × (skip ps ≡ piece first at ∷ piece second next ∷ qs)

-- behind gaps ps begins with an operator, at that place, and qs is left
abbrev pub Stands : Operator → ℕ → List Piece → List Piece → Type 0
Stands Raise at ps qs = Begins Caret at ps qs
Stands Multiply at ps qs = Begins Star at ps qs
Stands Divide at ps qs = Begins Slash at ps qs
Stands Add at ps qs = Begins Plus at ps qs
Stands Subtract at ps qs = Begins Minus at ps qs
Stands Same at ps qs = BeginsTwo Equals Equals at ps qs
Stands Differs at ps qs = BeginsTwo Bang Equals at ps qs
Stands AtMost at ps qs = BeginsTwo Less Equals at ps qs
Stands AtLeast at ps qs = BeginsTwo Greater Equals at ps qs
Stands Below at ps qs = Begins Less at ps qs
Stands Above at ps qs = Begins Greater at ps qs
Stands Both at ps qs = BeginsTwo Ampersand Ampersand at ps qs
Stands Either at ps qs = BeginsTwo Bar Bar at ps qs

-- ---- the rules

mutual
  -- a disjunction, or a choice by one between two expressions
  pub data Expression : List Piece → Tree → List Piece → Type 0 where
    plain : {ps qs : List Piece} {t : Tree} → Grouped Disjunctions ps t qs → Expression ps t qs
    choice : {ps qs rs ss us vs : List Piece} {c t u : Tree} {m n : ℕ}
        → Grouped Disjunctions ps c qs
        → Begins Question m qs rs
        → Expression rs t ss
        → Begins Colon n ss us
        → Expression us u vs
        → Expression ps (Choice c t u) vs

  -- an operand of a level, and then the rest
  pub data Grouped : Precedence → List Piece → Tree → List Piece → Type 0 where
    grouped : {l : Precedence} {ps qs rs : List Piece} {x y : Tree}
        → Operand l ps x qs
        → Rest l x qs y rs
        → Grouped l ps y rs

  -- an operand of a level is a group of the next tighter one; signs stand before powers
  pub data Operand : Precedence → List Piece → Tree → List Piece → Type 0 where
    of_atom : {ps qs : List Piece} {t : Tree} → Atom ps t qs → Operand Postfixes ps t qs
    of_postfix : {ps qs : List Piece} {t : Tree}
        → Grouped Postfixes ps t qs
        → Operand Powers ps t qs
    of_unary : {ps qs : List Piece} {t : Tree} → Unary ps t qs → Operand Products ps t qs
    of_product : {ps qs : List Piece} {t : Tree} → Grouped Products ps t qs → Operand Sums ps t qs
    of_sum : {ps qs : List Piece} {t : Tree} → Grouped Sums ps t qs → Operand Comparisons ps t qs
    of_comparison : {ps qs : List Piece} {t : Tree}
        → Grouped Comparisons ps t qs
        → Operand Conjunctions ps t qs
    of_conjunction : {ps qs : List Piece} {t : Tree}
        → Grouped Conjunctions ps t qs
        → Operand Disjunctions ps t qs

  -- `Rest l x ps y qs`: behind x, which was read already, ps goes on with operators of the level and their operands to
  -- y, grouped to the left, and qs is left
  pub data Rest : Precedence → Tree → List Piece → Tree → List Piece → Type 0 where
    stop : {l : Precedence} {ps : List Piece} {x : Tree} → Rest l x ps x ps
    with_unit : {ps qs rs : List Piece} {x y : Tree} {u : Unit} {at : ℕ}
        → Begins (Measure u) at ps qs
        → Rest Postfixes (In_unit u at x) qs y rs
        → Rest Postfixes x ps y rs
    with_radians : {ps qs rs : List Piece} {x y : Tree} {at : ℕ}
        → Begins Radian at ps qs
        → Rest Postfixes (In_degrees at x) qs y rs
        → Rest Postfixes x ps y rs
    with_power : {ps qs rs ss : List Piece} {x y w : Tree} {at : ℕ}
        → Stands Raise at ps qs
        → Exponent qs w rs
        → Rest Powers (Binary Raise at x w) rs y ss
        → Rest Powers x ps y ss
    with_operator : {l : Precedence} {ps qs rs ss : List Piece} {x y w : Tree} {o : Operator} {at : ℕ}
        → precedence_of o ≡ l
        → is_chain l ≡ true
        → Stands o at ps qs
        → Operand l qs w rs
        → Rest l (Binary o at x w) rs y ss
        → Rest l x ps y ss
    -- at most one
    with_comparison : {ps qs rs : List Piece} {x w : Tree} {o : Operator} {at : ℕ}
        → precedence_of o ≡ Comparisons
        → Stands o at ps qs
        → Operand Comparisons qs w rs
        → Rest Comparisons x ps (Binary o at x w) rs

  -- a power with any number of signs before it
  pub data Unary : List Piece → Tree → List Piece → Type 0 where
    signed : {ps qs rs : List Piece} {p : Piece} {s : Prefix} {t : Tree}
        → skip ps ≡ p ∷ qs
        → prefix_of p.mark ≡ Some s
        → Unary qs t rs
        → Unary ps (Signed s t) rs
    unsigned : {ps qs : List Piece} {t : Tree} → Grouped Powers ps t qs → Unary ps t qs

  -- an exponent with any number of `-` and `+` before it
  pub data Exponent : List Piece → Tree → List Piece → Type 0 where
    signed_exponent : {ps qs rs : List Piece} {p : Piece} {s : Prefix} {t : Tree}
        → skip ps ≡ p ∷ qs
        → exponent_sign p.mark ≡ Some s
        → Exponent qs t rs
        → Exponent ps (Signed s t) rs
    unsigned_exponent : {ps qs : List Piece} {t : Tree}
        → Grouped Postfixes ps t qs
        → Exponent ps t qs

  -- a decimal, a parenthesis, `pi` or a call
  pub data Atom : List Piece → Tree → List Piece → Type 0 where
    -- digits and points as long as they are, with the unit right behind them
    decimal : {ps qs : List Piece} {p : Piece}
        → skip ps ≡ p ∷ qs
        → is_decimal (decimal_text (p ∷ qs)) ≡ true
        → Atom ps (A_number (decimal_text (p ∷ qs)) (next_unit (after_decimal (p ∷ qs))) p.at)
        (after_unit (after_decimal (p ∷ qs)))
    parenthesis : {ps qs rs ss : List Piece} {t : Tree} {m n : ℕ}
        → Begins Left m ps qs
        → Expression qs t rs
        → Begins Right n rs ss
        → Atom ps t ss
    pi : {ps qs : List Piece} {at : ℕ} → Begins Pi at ps qs → Atom ps A_pi qs
    call_one : {ps qs rs ss us : List Piece} {f : One} {t : Tree} {at m n : ℕ}
        → Begins (Single f) at ps qs
        → Begins Left m qs rs
        → Expression rs t ss
        → Begins Right n ss us
        → Atom ps (Call_one f at t) us
    call_two : {ps qs rs ss us vs ws : List Piece} {f : Two} {t u : Tree} {at k m n : ℕ}
        → Begins (Double f) at ps qs
        → Begins Left k qs rs
        → Expression rs t ss
        → Begins Comma m ss us
        → Expression us u vs
        → Begins Right n vs ws
        → Atom ps (Call_two f at t u) ws
    call_most : {ps qs rs ss us : List Piece} {f : Most} {t u : Tree} {at k : ℕ}
        → Begins (Several f) at ps qs
        → Begins Left k qs rs
        → Expression rs t ss
        → MoreArguments f t ss u us
        → Atom ps u us

  -- `MoreArguments f t ps u qs`: behind the argument t, ps goes on with `,` and further arguments up to the `)`; the
  -- least or greatest of them is u
  pub data MoreArguments : Most → Tree → List Piece → Tree → List Piece → Type 0 where
    last : {f : Most} {ps qs : List Piece} {t : Tree} {at : ℕ}
        → Begins Right at ps qs
        → MoreArguments f t ps t qs
    next : {f : Most} {ps qs rs ss : List Piece} {t u v : Tree} {at : ℕ}
        → Begins Comma at ps qs
        → Expression qs u rs
        → MoreArguments f (Call_most f t u) rs v ss
        → MoreArguments f t ps v ss

-- all of ps is one expression, gaps apart
pub record IsText (ps : List Piece) (t : Tree) : Type 0 where
  pub left : List Piece
  pub reads : Expression ps t left
  pub all : skip left ≡ []
