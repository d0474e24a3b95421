-- Private: only private contracts use this. The tokens of a body, however it keeps them.
use Rattle.std.specs.Prelude.{List, [], ◌∷◌}
use Rattle.std.specs.Rc.{rc_slice_items}
use Rattle.tk_token.specs.declared.Tok.{Tok}
use Rattle.tk_store.specs.declared.body.Toks.{Toks}
use Rattle.tk_store.specs.declared.body.Toks.TheVariants.{One, Shared}

-- one token, or those that are shared
abbrev pub items_of : Toks → List Tok
items_of (One tok) = tok ∷ []
items_of (Shared toks) = rc_slice_items toks
