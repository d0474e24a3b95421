-- Where and how what follows is drawn, and what the native keys make of it.
use Rattle.std.specs.Prelude.{◌≡◌, ℕ, List, ◌++◌, Option, Ok}
use Rattle.tk_token.specs.declared.Tok.{Tok}
use Rattle.tk_token.specs.Answers.{Answer, ◌>>=◌}
use Rattle.tk_native.specs.declared.Native.{Native}
use Rattle.tk_affine.specs.declared.Step.{Step}
use Rattle.tk_affine.specs.Faults.{answer_at}
use Rattle.tk_affine.specs.Steps.{unmoved, with_steps, matrix_of}
use Rattle.tk_expr.specs.declared.FontUnits.{FontUnits}
use Rattle.tk_expr.specs.Evaluates.{Evaluation}
use Rattle.tk_look.specs.declared.GraphicsState.{GraphicsState}
use Rattle.tk_look.specs.declared.Look.{Look}
use Rattle.tk_look.specs.Applied.{native_applied}
use Rattle.tk_look.specs.Looks.{initial_look, look_below}

-- nothing is moved, and the look is the one in which nothing was set
abbrev pub initial_graphics : FontUnits → GraphicsState
initial_graphics font = record { matrix = unmoved; look = initial_look font }

-- the same in a level that opens: what it draws has no name yet
abbrev pub graphics_below : GraphicsState → GraphicsState
graphics_below g = record g { look = look_below g.look }

-- What a native key makes of its value and of what was set so far: its steps come behind those of the matrix, one after
-- another.
unfoldable pub graphics_by : ℕ → Evaluation → FontUnits → Native → List ℕ → Option (List Tok) → GraphicsState
    → Answer GraphicsState
graphics_by at ev font key name value g = do
  new ← native_applied at ev font key name value g.look
  matrix ← answer_at at (with_steps g.matrix new.steps)
  Ok (record { matrix = matrix; look = new.look })

-- ---- by steps

-- the matrix of a state is that of steps, in the order in which they are written: the fold of all of them, from the
-- matrix that moves nothing
abbrev pub IsMadeBy : List Step → GraphicsState → Type 0
IsMadeBy steps g = matrix_of steps ≡ Ok g.matrix

-- What a native key makes of its value, of the steps that are written before it, and of a look. No matrix is kept: that
-- of the longer list is found anew.
unfoldable pub graphics_behind : ℕ → Evaluation → FontUnits → Native → List ℕ → Option (List Tok) → List Step → Look
    → Answer GraphicsState
graphics_behind at ev font key name value steps look = do
  new ← native_applied at ev font key name value look
  matrix ← answer_at at (matrix_of (steps ++ new.steps))
  Ok (record { matrix = matrix; look = new.look })
