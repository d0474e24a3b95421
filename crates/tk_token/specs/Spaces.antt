-- Spaces round tokens.
use Rattle.std.specs.Prelude.{◌-◌, Bool, List, length, take, drop}
use Rattle.std.specs.List.{prefix_len, suffix_len}
use Rattle.tk_token.specs.declared.Tok.{Tok}
use Rattle.tk_token.specs.Kinds.{is_space}

-- a token that is a Space
abbrev pub is_space_token : Tok → Bool
is_space_token t = is_space t.kind

-- the tokens behind the Spaces in front
abbrev pub after_spaces : List Tok → List Tok
after_spaces ts = drop (prefix_len is_space_token ts) ts

-- the tokens without the Spaces at their end
unfoldable pub before_spaces : List Tok → List Tok
before_spaces ts = take (length ts - suffix_len is_space_token ts) ts

-- the tokens without the Spaces round them
abbrev pub trimmed : List Tok → List Tok
trimmed ts = before_spaces (after_spaces ts)
