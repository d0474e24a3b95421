-- Private: only the code's own contracts use this. Texts that are a decimal with a sign or a unit, which need no
-- frames.
use Rattle.std.specs.Prelude.{◌≡◌, ℕ, Bool, true, false, if◌then◌else◌, List, Ok, neg_ℤ}
use Rattle.tk_token.specs.Answers.{Answer, ◌>>=◌}
use Rattle.tk_token.specs.declared.Tok.{Tok}
use Rattle.tk_expr.specs.declared.FontUnits.{FontUnits}
use Rattle.tk_expr.specs.declared.Value.{Value}
use Rattle.tk_expr.specs.declared.machine.Mode.TheVariants.{Dot, Number}
use Rattle.tk_expr.specs.declared.machine.Pending.{Pending}
use Rattle.tk_expr.specs.Evaluated.{evaluated}
use Rattle.tk_expr.specs.Machine.{Found, ExprState, no_signs, nothing, start, run, finish}
use Rattle.tk_expr.specs.Number.{Decimal}
use Rattle.tk_expr.specs.Pieces.{pieces_of}

-- what waits behind one `-`, or behind no sign
abbrev pub sign_waits : Bool → Pending
sign_waits true = record nothing { signs = record no_signs { negative = true } }
sign_waits false = nothing

-- the state in which an operand is wanted behind that sign
abbrev pub wanting : Bool → ExprState
wanting negative = record start { pending = sign_waits negative }

-- the state behind that sign and a decimal, of which more may follow
abbrev pub counting : Decimal → Bool → ExprState
counting n negative = record start { pending = sign_waits negative; mode = Number n }

-- the machine comes from one state and list to the other, whatever the font
abbrev pub Reaches : ExprState → List Tok → ExprState → List Tok → Type 0
Reaches s ts t us = (font : FontUnits) → run font s (pieces_of ts) ≡ run font t (pieces_of us)

-- the state behind that sign and a point, at that place
abbrev pub pointed : ℕ → Bool → ExprState
pointed at negative = record start { pending = sign_waits negative; mode = Dot at }

-- the value of a number behind a sign
abbrev pub signed_value : Bool → Found → Bool → Answer Value
signed_value negative found unit = found >>= λ n. Ok (record { number = if negative then neg_ℤ n else n; unit = unit })

-- from that state, whatever the sign, the text comes to that number, with a unit or without
abbrev pub EndsAs : FontUnits → (Bool → ExprState) → List Tok → Found × Bool → Type 0
EndsAs font s ts found =
    (negative : Bool) (end : ℕ)
    → (run font (s negative) (pieces_of ts) >>= λ t. finish font end t) ≡ signed_value negative found.0 found.1

-- that answer is the machine's, wherever an empty text stands
abbrev pub IsEvaluated : FontUnits → List Tok → Answer Value → Type 0
IsEvaluated font ts answer = (at : ℕ) → answer ≡ evaluated font at ts
