-- Private: only the code's own contracts use this.
use Rattle.std.specs.Prelude.{ℕ, List, [], Option, Some, None}
use Rattle.tk_look.specs.Colours.{pieces_between}

-- the pieces behind a `!`, which there are none of where there is none
abbrev pub pieces_behind : Option (List ℕ) → List (List ℕ)
pieces_behind None = []
pieces_behind (Some text) = pieces_between text
