-- Where tokens run out.
use Rattle.std.proofs.Common.{◌≡◌, ℕ, List, [], ◌∷◌, ◌++◌, refl, sym, ap, ◌∙◌}
use Rattle.tk_token.specs.declared.Tok.{Tok}
use Rattle.tk_token.specs.Places.{end_of}

last_is : (at : ℕ) (ts : List Tok) (t : Tok) → end_of at (ts ++ t ∷ []) ≡ t.at
last_is at [] t = refl
last_is at (u ∷ ts) t = last_is u.at ts t

-- they run out at the last of them
pub end_is : (at : ℕ) (list front : List Tok) (last : Tok) → list ≡ front ++ last ∷ [] → last.at ≡ end_of at list
end_is at list front last is = sym (ap (end_of at) is ∙ last_is at front last)
