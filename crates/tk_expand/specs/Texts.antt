-- Texts that the code has in vectors.
use Rattle.std.specs.Prelude.{List, map, Vec}
use Rattle.std.specs.declared.alloc.Global.{Global}
use Rattle.tk_token.specs.declared.Tok.{Tok}

-- the texts that vectors hold
abbrev pub texts_of : List (Vec Tok Global) → List (List Tok)
texts_of vectors = map (λ (v : Vec Tok Global). v.items) vectors
