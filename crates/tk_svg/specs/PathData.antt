-- What the data of a path stand for (SVG 1.1, section 8.3, Path data), with the letters M, L, C and Z. The letters H
-- and V, the small letters, and the other curves stand for nothing. `M0 0 1 0` is a move to (0,0) and a line to (1,0);
-- `M.5.5` is a move to (.5,-.5), since y points upward in a drawing.
use Rattle.std.specs.Prelude.{◌≡◌, ℕ, suc, Bool, false, IsTrue, ◌&&◌, ◌||◌, ◌==◌, if◌then◌else◌, List, [], ◌∷◌, Option}
use Rattle.std.specs.Prelude.{Some, None, ℤ, neg_ℤ}
use Rattle.std.specs.Char.{is_ascii_digit}
use Rattle.tk_num.specs.Number.{is_point, is_scaled}
use Rattle.tk_item.specs.declared.Point.{Point}
use Rattle.tk_item.specs.declared.Seg.{Seg}
use Rattle.tk_item.specs.declared.Seg.TheVariants.{Move, Line, Curve, Close}
use Rattle.tk_characters.specs.Characters.{plus, dash}
use Rattle.tk_characters.specs.Options.{◌and_then◌}
use Rattle.tk_svg.specs.Scan.{after_blanks, after_separator, numbers_at, first_numbers_at}

-- ---- letters and their numbers (SVG 1.1, section 8.3.9, The grammar for path data)

-- a command letter
pub data Letter : Type 0 where
  MoveTo : Letter
  LineTo : Letter
  CurveTo : Letter
  ClosePath : Letter

-- their bytes
abbrev pub capital_m : ℕ
capital_m = 77

abbrev pub capital_l : ℕ
capital_l = 76

abbrev pub capital_c : ℕ
capital_c = 67

abbrev pub capital_z : ℕ
capital_z = 90

-- the letter that a byte is
abbrev pub path_letter : ℕ → Option Letter
path_letter c =
    if c == capital_m then Some MoveTo else
    (if c == capital_l then Some LineTo else
    (if c == capital_c then Some CurveTo else
    (if c == capital_z then Some ClosePath else None)))

-- how many numbers it takes
abbrev pub arity : Letter → ℕ
arity MoveTo = 2
arity LineTo = 2
arity CurveTo = 6
arity ClosePath = 0

-- the letter that further numbers are read by: a line's behind a move
abbrev pub repeated : Letter → Letter
repeated MoveTo = LineTo
repeated LineTo = LineTo
repeated CurveTo = CurveTo
repeated ClosePath = ClosePath

-- a letter with its numbers
abbrev pub PathCommand : Type 0
PathCommand = Letter × List ℤ

-- a sign, a point or a digit stands in front
abbrev pub begins_number : List ℕ → Bool
begins_number [] = false
begins_number (c ∷ cs) = c == plus || (c == dash || (is_point c || is_ascii_digit c))

-- the commands of the bytes, where further numbers are read by the letter k: only blanks are left, or a letter with its
-- numbers, or further numbers
pub data PathCommands : Letter → List ℕ → List PathCommand → Type 0 where
  ends : {k : Letter} {bytes : List ℕ}
      → after_blanks bytes ≡ []
      → PathCommands k bytes []
  named : {k j : Letter} {c : ℕ} {bytes front rest : List ℕ} {args : List ℤ} {more : List PathCommand}
      → after_blanks bytes ≡ c ∷ front
      → path_letter c ≡ Some j
      → first_numbers_at (arity j) front ≡ Some (args, rest)
      → PathCommands (repeated j) rest more
      → PathCommands k bytes ((j, args) ∷ more)
  again : {k : Letter} {n : ℕ} {bytes rest : List ℕ} {args : List ℤ} {more : List PathCommand}
      → arity k ≡ suc n
      → IsTrue (begins_number (after_separator bytes))
      → numbers_at (arity k) bytes ≡ Some (args, rest)
      → PathCommands k rest more
      → PathCommands k bytes ((k, args) ∷ more)

-- ---- what commands stand for (SVG 1.1, sections 8.3.2 to 8.3.4 and 8.3.6: moveto, closepath, lineto, cubic Bézier
-- curve commands)

-- a point of scaled numbers, with y turned upward
abbrev pub scaled_point : ℤ → ℤ → Option Point
scaled_point x y = if is_scaled x && is_scaled y then Some (record { x = x; y = neg_ℤ y }) else None

-- the piece that one command stands for
abbrev pub command_piece : PathCommand → Option Seg
command_piece (MoveTo, x ∷ y ∷ []) = scaled_point x y and_then λ p. Some (Move p)
command_piece (LineTo, x ∷ y ∷ []) = scaled_point x y and_then λ p. Some (Line p)
command_piece (CurveTo, x1 ∷ y1 ∷ x2 ∷ y2 ∷ x ∷ y ∷ []) =
    scaled_point x1 y1 and_then λ p.
    scaled_point x2 y2 and_then λ q.
    scaled_point x y and_then λ r.
    Some (Curve p q r)
command_piece (ClosePath, []) = Some Close
command_piece _ = None

-- the pieces that commands stand for, in order
abbrev pub command_pieces : List PathCommand → Option (List Seg)
command_pieces [] = Some []
command_pieces (c ∷ cs) =
    command_piece c and_then λ s.
    command_pieces cs and_then λ ss.
    Some (s ∷ ss)

-- the bytes are path data for these pieces: there is a command, and the first is a move
pub record IsPathData (bytes : List ℕ) (segs : List Seg) : Type 0 where
  pub front : List ℕ
  pub args : List ℤ
  pub rest : List ℕ
  pub others : List PathCommand
  pub begins : after_blanks bytes ≡ capital_m ∷ front
  pub first : first_numbers_at 2 front ≡ Some (args, rest)
  pub commands : PathCommands LineTo rest others
  pub meaning : command_pieces ((MoveTo, args) ∷ others) ≡ Some segs
