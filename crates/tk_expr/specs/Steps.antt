-- Private: only the code's own contracts use this. What a call that changes a state tells of the state that it leaves.
use Rattle.std.specs.Prelude.{◌≡◌, Result, Ok, Err}
use Rattle.tk_token.specs.declared.Fault.{Fault}
use Rattle.tk_token.specs.Answers.{Answer}
use Rattle.tk_expr.specs.declared.machine.ExprState.{ExprState}

-- the answer is the state that is left, or the fault
abbrev pub Leads : {U : Type 0} → Result U Fault → ExprState → Answer ExprState → Type 0
Leads (Ok u) left answer = answer ≡ Ok left
Leads (Err f) left answer = answer ≡ Err f
