-- What a call that takes no memory tells of a definition.
use Rattle.std.specs.Prelude.{◌≡◌, Result, Ok, Err}
use Rattle.tk_token.specs.declared.Fault.{Fault}
use Rattle.tk_token.specs.Answers.{Answer}

-- what the call gave, seen by view, is the definition's value, and its fault is the definition's
abbrev pub Tells : {X Y : Type 0} → (X → Y) → Result X Fault → Answer Y → Type 0
Tells view (Ok x) answer = answer ≡ Ok (view x)
Tells view (Err e) answer = answer ≡ Err e
