-- What the one search of the code can look for.
use Rattle.std.specs.Prelude.{Bool, List}
use Rattle.tk_token.specs.declared.Tok.{Tok}
use Rattle.tk_token.specs.declared.groups.Sought.{Sought}
use Rattle.tk_token.specs.declared.groups.Sought.TheVariants.{Char, Close, Corner, And, Dash}
use Rattle.tk_token.specs.Kinds.{is_char, is_close, begins, begins_corner, begins_and, begins_dash}

-- what is sought is in front
abbrev pub begins_sought : Sought → List Tok → Bool
begins_sought (Char c) = begins (is_char c)
begins_sought Close = begins is_close
begins_sought Corner = begins_corner
begins_sought And = begins_and
begins_sought Dash = begins_dash
