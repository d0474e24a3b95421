-- Private: only the code's own contracts use this; the law `evaluated_is_the_answer` says that it meets Evaluates, and
-- `a_text_has_one_answer` that nothing else does.
use Rattle.std.specs.Prelude.{ℕ, List}
use Rattle.tk_token.specs.declared.Tok.{Tok}
use Rattle.tk_token.specs.Answers.{Answer, ◌>>=◌}
use Rattle.tk_expr.specs.declared.FontUnits.{FontUnits}
use Rattle.tk_expr.specs.declared.Value.{Value}
use Rattle.tk_token.specs.Places.{end_of}
use Rattle.tk_expr.specs.Machine.{start, run, finish}
use Rattle.tk_expr.specs.Pieces.{pieces_of}

-- what the machine makes of tokens
unfoldable pub evaluated : FontUnits → ℕ → List Tok → Answer Value
evaluated font at toks = run font start (pieces_of toks) >>= λ s. finish font (end_of at toks) s
