-- What a call that can run out of memory tells of a definition.
use Rattle.std.specs.Prelude.{◌≡◌, Result, Ok, Err}
use Rattle.tk_token.specs.declared.Fault.{Fault}
use Rattle.tk_token.specs.declared.Refusal.{Refusal}
use Rattle.tk_token.specs.declared.Refusal.TheVariants as refusals
use Rattle.tk_token.specs.Answers.{Answer}

-- P of the fault; want of memory says nothing
abbrev pub OnFault : Refusal → (Fault → Type 0) → Type 0
OnFault (refusals.Fault f) P = P f
OnFault refusals.OutOfMemory P = Unit {0}

-- the fault is the definition's; want of memory says nothing
abbrev pub Fails : {Y : Type 0} → Refusal → Answer Y → Type 0
Fails (refusals.Fault f) answer = answer ≡ Err f
Fails refusals.OutOfMemory answer = Unit {0}

-- what a call gave, seen by view, is the definition's value, and its fault is the definition's; want of memory says
-- nothing
abbrev pub Gives : {X Y : Type 0} → (X → Y) → Result X Refusal → Answer Y → Type 0
Gives view (Ok x) answer = answer ≡ Ok (view x)
Gives view (Err e) answer = Fails e answer
