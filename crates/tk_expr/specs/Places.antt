-- Places of a text.
use Rattle.std.specs.Prelude.{◌≡◌, ℕ, ◌⊎◌, List, [], ◌∷◌}
use Rattle.tk_token.specs.declared.Tok.{Tok}

-- the place of one of the tokens, or the given one
abbrev pub IsPlaceOf : ℕ → List Tok → ℕ → Type 0
IsPlaceOf at [] place = place ≡ at
IsPlaceOf at (t ∷ ts) place = (place ≡ t.at) ⊎ IsPlaceOf at ts place
