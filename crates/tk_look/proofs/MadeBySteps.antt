-- A matrix that is that of steps, and the steps that keys put behind them.
use Rattle.std.proofs.Common.{◌≡◌, ℕ, List, ◌++◌, Option, Result, Ok, Err, refl, sym, ap, ◌∙◌}
use Rattle.std.specs.Prelude.{IfOk}
use Rattle.tk_token.specs.declared.Tok.{Tok}
use Rattle.tk_token.specs.Answers.{Answer, ◌>>=◌}
use Rattle.tk_native.specs.declared.Native.{Native}
use Rattle.tk_affine.specs.declared.AffFault.{AffFault}
use Rattle.tk_affine.specs.declared.Matrix.{Matrix}
use Rattle.tk_affine.specs.declared.Step.{Step}
use Rattle.tk_affine.specs.Steps.{unmoved, with_steps, matrix_of, then_steps}
use Rattle.tk_affine.proofs.Folds.{go_on}
use Rattle.tk_expr.specs.declared.FontUnits.{FontUnits}
use Rattle.tk_expr.specs.Evaluates.{Evaluation}
use Rattle.tk_look.specs.declared.GraphicsState.{GraphicsState}
use Rattle.tk_look.specs.Applied.{Applied, native_applied}
use Rattle.tk_affine.specs.Faults.{answer_at}
use Rattle.tk_look.specs.Graphics.{IsMadeBy, graphics_by, graphics_behind}

-- more steps behind those of a state make what the whole list makes
more_steps : (steps more : List Step) (g : GraphicsState) → IsMadeBy steps g → with_steps g.matrix more ≡ matrix_of (steps ++ more)
more_steps steps more g made =
    sym (go_on unmoved steps more ∙ ap (λ (m : Result Matrix AffFault). then_steps m more) made)

-- the state with a matrix that was found, or its fault at a place
abbrev with_found : ℕ → Applied → Result Matrix AffFault → Answer GraphicsState
with_found at new found = answer_at at found >>= λ m. (let answer : Answer GraphicsState = Ok (record { matrix = m; look = new.look }) in answer)

by_applied : (at : ℕ) (steps : List Step) (g : GraphicsState) → IsMadeBy steps g → (found : Answer Applied)
    → (found >>= λ new. with_found at new (with_steps g.matrix new.steps)) ≡ (found >>= λ new. with_found at new (matrix_of (steps ++ new.steps)))
by_applied at steps g made (Ok new) = ap (with_found at new) (more_steps steps new.steps g made)
by_applied at steps g made (Err fault) = refl

pub behind_steps : (steps : List Step) (g : GraphicsState)
    → IsMadeBy steps g
    → (at : ℕ) (ev : Evaluation) (font : FontUnits) (key : Native) (name : List ℕ) (value : Option (List Tok))
    → graphics_by at ev font key name value g ≡ graphics_behind at ev font key name value steps g.look
unfolding graphics_by graphics_behind
behind_steps steps g made at ev font key name value = by_applied at steps g made (native_applied at ev font key name value g.look)

-- the matrix that was found is that of the whole list
found_is_made : (at : ℕ) (steps : List Step) (new : Applied) (found : Result Matrix AffFault) → matrix_of steps ≡ found
    → IfOk (with_found at new found) (IsMadeBy steps)
found_is_made at steps new (Ok m) is = is
found_is_made at steps new (Err fault) is = tt

longer_by_applied : (at : ℕ) (steps : List Step) (g : GraphicsState) → IsMadeBy steps g → (found : Answer Applied)
    → IfOk found (λ (new : Applied). IfOk (found >>= λ new. with_found at new (with_steps g.matrix new.steps)) (IsMadeBy (steps ++ new.steps)))
longer_by_applied at steps g made (Ok new) =
    found_is_made at (steps ++ new.steps) new (with_steps g.matrix new.steps) (sym (more_steps steps new.steps g made))
longer_by_applied at steps g made (Err fault) = tt

pub longer_steps : (steps : List Step) (g : GraphicsState)
    → IsMadeBy steps g
    → (at : ℕ) (ev : Evaluation) (font : FontUnits) (key : Native) (name : List ℕ) (value : Option (List Tok))
    → IfOk (native_applied at ev font key name value g.look) (λ (new : Applied).
    IfOk (graphics_by at ev font key name value g) (IsMadeBy (steps ++ new.steps)))
unfolding graphics_by
longer_steps steps g made at ev font key name value = longer_by_applied at steps g made (native_applied at ev font key name value g.look)
