-- Faults of matrices at their places in a source.
use Rattle.std.specs.Prelude.{ℕ, Result, Ok, Err}
use Rattle.tk_token.specs.declared.Code.{Code}
use Rattle.tk_token.specs.declared.Code.TheVariants as codes
use Rattle.tk_token.specs.Answers.{Answer, fault}
use Rattle.tk_affine.specs.declared.AffFault.{AffFault}
use Rattle.tk_affine.specs.declared.AffFault.TheVariants as faults

-- the code of a fault of matrices
abbrev pub matrix_code : AffFault → Code
matrix_code faults.TooLarge = codes.TooLarge
matrix_code faults.Singular = codes.Singular

-- what is found by matrices, or its fault at a place
abbrev pub answer_at : {A : Type 0} → ℕ → Result A AffFault → Answer A
answer_at at (Ok x) = Ok x
answer_at at (Err e) = fault (matrix_code e) at
