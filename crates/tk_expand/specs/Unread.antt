-- A list that is being read.
use Rattle.std.specs.Prelude.{ℕ, List}
use Rattle.tk_token.specs.declared.Tok.{Tok}
use Rattle.tk_token.specs.Spaces.{after_spaces}

-- what is left of a token list, and the place at which it runs out
pub record Unread : Type 0 where
  pub rest : List Tok
  pub end : ℕ

-- those tokens are left, and they run out there
abbrev pub unread : List Tok → ℕ → Unread
unread rest end = record { rest = rest; end = end }

-- the list behind the Spaces in front
abbrev pub past_spaces : Unread → Unread
past_spaces list = unread (after_spaces list.rest) list.end
