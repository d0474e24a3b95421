-- Private: only private contracts use this. The piece in front of characters, and bytes that need no second look.
use Rattle.std.specs.Prelude.{ℕ, Bool, ◌&&◌, ◌||◌, not, ◌==◌, nat_le, List, ◌∷◌}
use Rattle.tk_token.specs.Token.{TokenSign, Token}
use Rattle.tk_token.specs.Cutting.{token_at, Tokens}

-- the piece in front is the token of that sign, and the rest stands after it and what gives no token after it
pub record CutsOne (cs : List ℕ) (sign : TokenSign) (rest : List ℕ) : Type 0 where
  pub cut : (n : ℕ) (ts : List Token) → Tokens n rest ts → Tokens n cs (token_at n cs sign ∷ ts)

-- a byte that stands in no character that is refused: it is no control character but tab, LF or CR, and doesn't begin a
-- character from U+F000 to U+FFFF
abbrev pub is_plain_byte : ℕ → Bool
is_plain_byte b = (nat_le 32 b && not (b == 239)) || b == 9 || b == 10 || b == 13
