-- What is made of a value that is there.
use Rattle.std.specs.Prelude.{Option, option_and_then}

infixl 10 ◌and_then◌
-- f of the value; where there is none, there is none
abbrev pub ◌and_then◌ : {A B : Type 0} → Option A → (A → Option B) → Option B
o and_then f = option_and_then f o
