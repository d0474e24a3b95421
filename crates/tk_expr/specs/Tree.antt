-- Trees of expressions, and the value of a tree.
use Rattle.std.specs.Prelude.{ℕ, List, Option, Ok, ℤ}
use Rattle.tk_num.specs.Number.{decimal_value}
use Rattle.tk_num.specs.declared.unit.Unit.{Unit}
use Rattle.tk_token.specs.Answers.{Answer, ◌>>=◌}
use Rattle.tk_expr.specs.declared.FontUnits.{FontUnits}
use Rattle.tk_expr.specs.declared.operators.Operator.{Operator}
use Rattle.tk_expr.specs.declared.operators.Prefix.{Prefix}
use Rattle.tk_expr.specs.declared.pieces.One.{One}
use Rattle.tk_expr.specs.declared.pieces.Two.{Two}
use Rattle.tk_expr.specs.declared.pieces.Most.{Most}
use Rattle.tk_expr.specs.Values.{placed, prefixed, operated, chosen, decimal_in, in_unit, in_degrees, pi_value}
use Rattle.tk_expr.specs.Values.{called_one, called_two, called_most}

-- An expression. What can have a fault has a place: a decimal that of its first piece, an operator and a function their
-- own.
pub data Tree : Type 0 where
  -- a decimal's text, with the unit right after it
  A_number : List ℕ → Option Unit → ℕ → Tree
  A_pi : Tree
  -- a unit after anything else
  In_unit : Unit → ℕ → Tree → Tree
  -- `r`
  In_degrees : ℕ → Tree → Tree
  Signed : Prefix → Tree → Tree
  Binary : Operator → ℕ → Tree → Tree → Tree
  -- `?` and `:`
  Choice : Tree → Tree → Tree → Tree
  Call_one : One → ℕ → Tree → Tree
  Call_two : Two → ℕ → Tree → Tree → Tree
  -- the least or the greatest of two; of more they are taken two by two, from the left
  Call_most : Most → Tree → Tree → Tree

-- the value of a tree, or the first fault: the parts are asked from left to right, and then what stands between them
abbrev pub value : FontUnits → Tree → Answer ℤ
value font (A_number text unit at) = placed at (decimal_in font unit (decimal_value text))
value font A_pi = Ok pi_value
value font (In_unit unit at t) = do
  x ← value font t
  placed at (in_unit font unit x)
value font (In_degrees at t) = do
  x ← value font t
  placed at (in_degrees x)
value font (Signed sign t) = do
  x ← value font t
  Ok (prefixed sign x)
value font (Binary operator at t u) = do
  x ← value font t
  y ← value font u
  placed at (operated operator x y)
value font (Choice c t u) = do
  b ← value font c
  x ← value font t
  y ← value font u
  Ok (chosen b x y)
value font (Call_one f at t) = do
  x ← value font t
  placed at (called_one f x)
value font (Call_two f at t u) = do
  x ← value font t
  y ← value font u
  placed at (called_two f x y)
value font (Call_most f t u) = do
  x ← value font t
  y ← value font u
  Ok (called_most f x y)
