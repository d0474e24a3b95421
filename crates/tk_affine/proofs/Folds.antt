-- The matrix of a list of steps, where more steps follow.
use Rattle.std.proofs.Common.{◌≡◌, List, [], ◌∷◌, ◌++◌, Result, Ok, Err, refl, ◌∙◌}
use Rattle.tk_token.specs.Answers.{◌>>=◌}
use Rattle.tk_affine.specs.declared.AffFault.{AffFault}
use Rattle.tk_affine.specs.declared.Matrix.{Matrix}
use Rattle.tk_affine.specs.declared.Step.{Step}
use Rattle.tk_affine.specs.Steps.{with_step, with_steps, then_step, then_steps, unmoved, matrix_of}

-- the same behind one step, by what holds of the others
steps_behind_a_matrix : (made : Result Matrix AffFault) (steps more : List Step)
    → ((n : Matrix) → with_steps n (steps ++ more) ≡ then_steps (with_steps n steps) more)
    → (made >>= λ n. with_steps n (steps ++ more)) ≡ then_steps (made >>= λ n. with_steps n steps) more
steps_behind_a_matrix (Ok m) steps more h = h m
steps_behind_a_matrix (Err e) steps more h = refl

pub go_on : (m : Matrix) (steps more : List Step) → with_steps m (steps ++ more) ≡ then_steps (with_steps m steps) more
go_on m [] more = refl
go_on m (step ∷ steps) more = steps_behind_a_matrix (with_step m step) steps more (λ n. go_on n steps more)

no_steps_change_nothing : (made : Result Matrix AffFault) → (made >>= λ m. with_steps m []) ≡ made
no_steps_change_nothing (Ok m) = refl
no_steps_change_nothing (Err e) = refl

-- one step is a list of steps
one_step : (made : Result Matrix AffFault) (step : Step) → then_steps made (step ∷ []) ≡ then_step made step
one_step (Ok m) step = no_steps_change_nothing (with_step m step)
one_step (Err e) step = refl

-- the last step of a list is taken last
pub last_step : (steps : List Step) (step : Step) → matrix_of (steps ++ (step ∷ [])) ≡ then_step (matrix_of steps) step
last_step steps step = go_on unmoved steps (step ∷ []) ∙ one_step (matrix_of steps) step
