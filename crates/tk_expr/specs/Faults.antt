-- Which texts go on, and how deep they are.
use Rattle.std.specs.Prelude.{◌≡◌, ℕ, ◌≤◌, List, [], ◌∷◌, ◌++◌, length, drop, Option, Some, None}
use Rattle.tk_expr.specs.declared.pieces.Mark.{Mark}
use Rattle.tk_expr.specs.declared.pieces.Mark.TheVariants.{Single, Double, Several, Question, Colon, Comma, Left, Right}
use Rattle.tk_expr.specs.declared.pieces.Mark.TheVariants.{Gap}
use Rattle.tk_expr.specs.declared.pieces.Piece.{Piece}
use Rattle.tk_expr.specs.Tree.{Tree}
use Rattle.tk_expr.specs.Grammar.{piece, IsText}

-- some text of the grammar, of any depth, begins with these pieces
pub record IsBeginning (before : List Piece) : Type 0 where
  pub rest : List Piece
  pub tree : Tree
  pub reads : IsText (before ++ rest) tree

-- what is open: a parenthesis; that of a call, whose name stands at a place; a `?` before its `:`, and one behind it
pub data Opener : Type 0 where
  Parenthesis : Opener
  Call : ℕ → Opener
  Asked : Opener
  Answered : Opener

-- without each `?` on top that has its `:`, which ends with its expression
abbrev pub unanswered : List Opener → List Opener
unanswered [] = []
unanswered (Answered ∷ openers) = unanswered openers
unanswered (opener ∷ openers) = opener ∷ openers

-- the parenthesis behind a name, or one that is behind none
abbrev pub opener_behind : Option ℕ → Opener
opener_behind (Some at) = Call at
opener_behind None = Parenthesis

-- the name of a function that stands right behind a piece, gaps apart
abbrev pub name_behind : Option ℕ → Mark → ℕ → Option ℕ
name_behind name (Single f) at = Some at
name_behind name (Double f) at = Some at
name_behind name (Several f) at = Some at
name_behind name Gap at = name
name_behind name _ at = None

-- what is open behind a piece
abbrev pub open_behind : Option ℕ → List Opener → Mark → List Opener
open_behind name openers Left = opener_behind name ∷ openers
open_behind name openers Question = Asked ∷ openers
open_behind name openers Colon = Answered ∷ drop 1 (unanswered openers)
open_behind name openers Comma = unanswered openers
open_behind name openers Right = drop 1 (unanswered openers)
open_behind name openers _ = openers

-- what is open behind pieces, innermost first
abbrev pub open_from : Option ℕ → List Opener → List Piece → List Opener
open_from name openers [] = openers
open_from name openers (p ∷ ps) = open_from (name_behind name p.mark p.at) (open_behind name openers p.mark) ps

-- what is open behind the pieces of a beginning, innermost first
abbrev pub open_in : List Piece → List Opener
open_in ps = open_from None [] ps

-- nowhere are more than 64 open
abbrev pub IsShallow : List Piece → Type 0
IsShallow ps = (before rest : List Piece) → ps ≡ before ++ rest → length (open_in before) ≤ 64

-- A wrong count of arguments of the call whose name stands at a place shows at the next piece, a `,` where a `)` fits
-- or a `)` where a `,` fits.
pub data IsMiscount (before : List Piece) (name : ℕ) : Mark → Type 0 where
  too_many : (at : ℕ) {openers : List Opener}
      → unanswered (open_in before) ≡ Call name ∷ openers
      → IsBeginning (before ++ piece Right at ∷ [])
      → IsMiscount before name Comma
  too_few : (at : ℕ) {openers : List Opener}
      → unanswered (open_in before) ≡ Call name ∷ openers
      → IsBeginning (before ++ piece Comma at ∷ [])
      → IsMiscount before name Right
