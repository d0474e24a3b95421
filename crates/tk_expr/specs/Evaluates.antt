-- What an expression comes to: the relation between its tokens and the answer.
use Rattle.std.specs.Prelude.{◌≡◌, ℕ, Bool, true, false, List, [], ◌∷◌, ◌++◌, length, Ok, ℤ}
use Rattle.std.specs.List.{list_any}
use Rattle.tk_token.specs.declared.Tok.{Tok}
use Rattle.tk_token.specs.declared.Code.TheVariants.{TooDeep, Expression}
use Rattle.tk_token.specs.Answers.{Answer, ◌>>=◌, fault}
use Rattle.tk_token.specs.Places.{end_of}
use Rattle.tk_expr.specs.declared.FontUnits.{FontUnits}
use Rattle.tk_expr.specs.declared.Value.{Value}
use Rattle.tk_expr.specs.declared.pieces.Mark.{Mark}
use Rattle.tk_expr.specs.declared.pieces.Mark.TheVariants.{Measure}
use Rattle.tk_expr.specs.declared.pieces.Piece.{Piece}
use Rattle.tk_expr.specs.Tree.{Tree, value}
use Rattle.tk_expr.specs.Grammar.{IsText}
use Rattle.tk_expr.specs.Faults.{IsBeginning, IsShallow, IsMiscount, open_in}
use Rattle.tk_expr.specs.Pieces.{pieces_of}

-- a unit
abbrev pub is_unit : Mark → Bool
is_unit (Measure unit) = true
is_unit _ = false

-- whether a unit stands anywhere
abbrev pub has_unit : List Piece → Bool
has_unit ps = list_any (λ (p : Piece). is_unit p.mark) ps

-- a number with whether a unit stands in its text
abbrev pub valued : Bool → Answer ℤ → Answer Value
valued unit found = found >>= λ n. Ok (record { number = n; unit = unit })

-- The first piece that doesn't fit is x: some text goes on from the pieces before it, and none from those up to it.
pub record IsMisfit (ps before : List Piece) (x : Piece) : Type 0 where
  pub rest : List Piece
  pub split : ps ≡ before ++ x ∷ rest
  pub beginning : IsBeginning before
  pub shallow : IsShallow before
  pub fits_not : IsBeginning (before ++ x ∷ []) → ⊥

-- The piece x fits, and is the 65th opener that is open.
pub record IsTooDeep (ps before : List Piece) (x : Piece) : Type 0 where
  pub rest : List Piece
  pub split : ps ≡ before ++ x ∷ rest
  pub beginning : IsBeginning (before ++ x ∷ [])
  pub shallow : IsShallow before
  pub deep : length (open_in (before ++ x ∷ [])) ≡ 65

-- Pieces that run out at a place, and their answer.
pub data IsAnswer (font : FontUnits) (end : ℕ) (ps : List Piece) : Answer Value → Type 0 where
  -- an expression has the value of its tree, or the first fault on the way to it
  evaluates : {t : Tree}
      → IsText ps t
      → IsShallow ps
      → IsAnswer font end ps (valued (has_unit ps) (value font t))
  -- the first piece that doesn't fit is refused: `1+*2` at the `*`
  misfit : {before : List Piece} {x : Piece}
      → IsMisfit ps before x
      → ((name : ℕ) → IsMiscount before name x.mark → ⊥)
      → IsAnswer font end ps (fault Expression x.at)
  -- where it shows a wrong count of arguments, the name of the function is: `1+mod(7)` at the `mod`
  miscount : {before : List Piece} {x : Piece} {name : ℕ}
      → IsMisfit ps before x
      → IsMiscount before name x.mark
      → IsAnswer font end ps (fault Expression name)
  -- a 65th opener is refused
  too_deep : {before : List Piece} {x : Piece}
      → IsTooDeep ps before x
      → IsAnswer font end ps (fault TooDeep x.at)
  -- pieces run out that some text goes on from, and that are none: `(1+2` at the `2`
  ends : IsBeginning ps
      → IsShallow ps
      → ((t : Tree) → IsText ps t → ⊥)
      → IsAnswer font end ps (fault Expression end)

-- tokens and their answer; `at` is the place of no tokens
abbrev pub Evaluates : FontUnits → ℕ → List Tok → Answer Value → Type 0
Evaluates font at toks answer = IsAnswer font (end_of at toks) (pieces_of toks) answer

-- ---- evaluations

-- an answer for each font, place and text
abbrev pub Evaluation : Type 0
Evaluation = FontUnits → ℕ → List Tok → Answer Value

-- each answer is the one by the grammar
abbrev pub IsEvaluation : Evaluation → Type 0
IsEvaluation ev = (font : FontUnits) (at : ℕ) (toks : List Tok) → Evaluates font at toks (ev font at toks)
