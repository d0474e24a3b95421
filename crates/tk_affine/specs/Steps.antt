-- The matrix of a list of steps. The step that is written last is the first that a point goes through.
use Rattle.std.specs.Prelude.{List, [], ◌∷◌, Result, Ok, ℤ, pos, neg_ℤ}
use Rattle.tk_num.specs.Number.{one, IsScaled}
use Rattle.tk_num.specs.Angle.{sine, cosine}
use Rattle.tk_token.specs.Answers.{◌>>=◌}
use Rattle.tk_affine.specs.declared.AffFault.{AffFault}
use Rattle.tk_affine.specs.declared.Matrix.{Matrix}
use Rattle.tk_affine.specs.declared.Step.{Step}
use Rattle.tk_affine.specs.declared.Step.TheVariants.{Shift, Rotate, Scale, Slant, Cm}
use Rattle.tk_affine.specs.Images.{vector_image, image}

-- a shift alone
abbrev pub shifted : ℤ → ℤ → Matrix
shifted x y = record { a = pos one; b = pos 0; c = pos 0; d = pos one; tx = x; ty = y }

-- each point is its own image
abbrev pub unmoved : Matrix
unmoved = shifted (pos 0) (pos 0)

-- a linear part alone: (1,0) goes to (a,b) and (0,1) to (c,d)
abbrev pub linear : ℤ → ℤ → ℤ → ℤ → Matrix
linear a b c d = record { a = a; b = b; c = c; d = d; tx = pos 0; ty = pos 0 }

-- a turn that takes (1,0) to (x,y)
abbrev pub turned : ℤ → ℤ → Matrix
turned x y = linear x y (neg_ℤ y) x

-- what one step does
abbrev pub step_matrix : Step → Matrix
step_matrix (Shift x y) = shifted x y
step_matrix (Rotate angle) = turned (cosine angle) (sine angle)
step_matrix (Scale x y) = linear x (pos 0) (pos 0) y
step_matrix (Slant x y) = linear (pos one) y x (pos one)
step_matrix (Cm m) = m

-- n first, then m: the images under m of where n takes (1,0), (0,1) and the origin
unfoldable pub composed : Matrix → Matrix → Result Matrix AffFault
composed m n = do
  right ← vector_image m (record { x = n.a; y = n.b })
  up ← vector_image m (record { x = n.c; y = n.d })
  origin ← image m (record { x = n.tx; y = n.ty })
  Ok (record { a = right.x; b = right.y; c = up.x; d = up.y; tx = origin.x; ty = origin.y })

-- a matrix with one step more
abbrev pub with_step : Matrix → Step → Result Matrix AffFault
with_step m step = composed m (step_matrix step)

-- a matrix with more steps, one after another
abbrev pub with_steps : Matrix → List Step → Result Matrix AffFault
with_steps m [] = Ok m
with_steps m (step ∷ steps) = with_step m step >>= λ n. with_steps n steps

-- the matrix of a list of steps
abbrev pub matrix_of : List Step → Result Matrix AffFault
matrix_of steps = with_steps unmoved steps

-- one step behind those that made a matrix; a fault is passed on
abbrev pub then_step : Result Matrix AffFault → Step → Result Matrix AffFault
then_step made step = made >>= λ m. with_step m step

-- more steps behind those that made a matrix; a fault is passed on
abbrev pub then_steps : Result Matrix AffFault → List Step → Result Matrix AffFault
then_steps made steps = made >>= λ m. with_steps m steps

-- all numbers of a matrix are in range
pub record IsMatrix (m : Matrix) : Type 0 where
  pub a : IsScaled m.a
  pub b : IsScaled m.b
  pub c : IsScaled m.c
  pub d : IsScaled m.d
  pub tx : IsScaled m.tx
  pub ty : IsScaled m.ty
