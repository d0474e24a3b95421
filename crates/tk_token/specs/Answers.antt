-- What a definition answers: a value, or the first fault that is met.
use Rattle.std.specs.Prelude.{ℕ, Option, Some, None, Result, Ok, Err}
use Rattle.tk_token.specs.declared.Code.{Code}
use Rattle.tk_token.specs.declared.Fault.{Fault}

-- a value, or the first fault
abbrev pub Answer : Type 0 → Type 0
Answer A = Result A Fault

infixl 10 ◌>>=◌
-- f of the value; a fault is passed on at once
abbrev pub ◌>>=◌ : {A B E : Type 0} → Result A E → (A → Result B E) → Result B E
(Ok x) >>= f = f x
(Err e) >>= f = Err e

-- that fault, at that place
abbrev pub fault : {A : Type 0} → Code → ℕ → Result A Fault
fault code at = Err (record { code = code; at = at })

-- the value that is there, or else that fault
abbrev pub or_fault : {A : Type 0} → Option A → Code → ℕ → Result A Fault
or_fault (Some x) code at = Ok x
or_fault None code at = fault code at
