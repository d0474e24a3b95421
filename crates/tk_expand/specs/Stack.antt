-- Private: only private contracts use this. Lists that lie on one another.
use Rattle.std.specs.Prelude.{List, [], ◌∷◌, ◌++◌}
use Rattle.tk_token.specs.declared.Tok.{Tok}

-- the tokens of all lists, where the last list is read first
unfoldable pub stacked : List (List Tok) → List Tok
stacked [] = []
stacked (list ∷ lists) = stacked lists ++ list
