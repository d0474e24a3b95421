-- Tokens with their words as texts.
use Rattle.std.specs.Prelude.{◌≡◌, ℕ, ◌<◌, List, unwrap_or, [], ◌++◌, length}
use Rattle.std.specs.List.{slice_get}
use Rattle.tk_token.specs.declared.Kind.{Kind}
use Rattle.tk_token.specs.declared.Kind.TheVariants.{Char, Word, Symbol, Open, Close, Param, Arg, Space}
use Rattle.tk_token.specs.declared.Tok.{Tok}

-- what a token is, with a word as its bytes
pub data TokenSign : Type 0 where
  A_char : ℕ → TokenSign
  A_word : List ℕ → TokenSign
  A_symbol : ℕ → TokenSign
  Opens : TokenSign
  Closes : TokenSign
  A_param : TokenSign
  An_arg : ℕ → TokenSign
  A_space : TokenSign

-- a sign, and the place of its first byte
pub record Token : Type 0 where
  pub sign : TokenSign
  pub at : ℕ

-- what a kind is, where words go by their numbers among the names
abbrev pub sign_of : List (List ℕ) → Kind → TokenSign
sign_of names (Char c) = A_char c
sign_of names (Word n) = A_word (unwrap_or (slice_get names n) [])
sign_of names (Symbol c) = A_symbol c
sign_of names Open = Opens
sign_of names Close = Closes
sign_of names Param = A_param
sign_of names (Arg n) = An_arg n
sign_of names Space = A_space

-- a token with its word as a text
abbrev pub token_of : List (List ℕ) → Tok → Token
token_of names tok = record { sign = sign_of names tok.kind; at = tok.at }

-- a word is the number of one of the names
abbrev pub IsWordIn : List (List ℕ) → Kind → Type 0
IsWordIn names (Word n) = n < length names
IsWordIn names _ = Unit {0}

-- no place of an argument
abbrev pub IsNoArg : Kind → Type 0
IsNoArg (Arg n) = ⊥
IsNoArg _ = Unit {0}

-- new is old with words at its end
abbrev pub Extends : List (List ℕ) → List (List ℕ) → Type 0
Extends old new = (words : List (List ℕ)) × (new ≡ old ++ words)
