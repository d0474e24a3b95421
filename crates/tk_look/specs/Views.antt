-- Private: only the code's own contracts use this.
use Rattle.std.specs.Prelude.{ℕ, List, Option}
use Rattle.tk_token.specs.declared.Code.{Code}
use Rattle.tk_token.specs.declared.Tok.{Tok}
use Rattle.tk_token.specs.Answers.{Answer, ◌>>=◌, or_fault}
use Rattle.tk_token.specs.Texts.{text_in}
use Rattle.tk_look.specs.Dashes as spec
use Rattle.tk_look.specs.Values.{value_there}
use Rattle.tk_look.specs.declared.dashes.Dash.{Dash}

-- a dash, wherever its tokens lie in memory
abbrev pub dash_seen : Dash → spec.Dash
dash_seen d = record { on = d.on.now; off = d.off.now; rest = d.rest.now }

-- the text of a value that has to be there, or a fault with that code where it has none
abbrev pub text_there : Code → ℕ → Option (List Tok) → Answer (List ℕ)
text_there code at value = do
  list ← value_there at value
  or_fault (text_in list) code at
