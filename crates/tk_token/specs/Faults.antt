-- The faults of a source, and what it is cut into where it has none.
use Rattle.std.specs.Prelude.{◌≡◌, ℕ, Bool, ◌||◌, ◌&&◌, ◌==◌, nat_le, if◌then◌else◌, List, [], ◌∷◌, length, take}
use Rattle.std.specs.Prelude.{Option, Some, None, Ok, Err}
use Rattle.std.specs.Option.{option_map}
use Rattle.std.specs.List.{position}
use Rattle.std.specs.Str.{chars, is_utf8}
use Rattle.std.specs.Str.Lossy.{utf8_valid_len}
use Rattle.tk_token.specs.declared.Code.{Code}
use Rattle.tk_token.specs.declared.Code.TheVariants.{NotUtf8, BadChar, Brace, TooDeep}
use Rattle.tk_token.specs.declared.Fault.{Fault}
use Rattle.tk_token.specs.Answers.{Answer, ◌>>=◌, fault}
use Rattle.tk_token.specs.Token.{TokenSign, Opens, Closes, Token}
use Rattle.tk_token.specs.Cutting.{byte_count, Tokens}

-- the characters that stand nowhere: U+0000 to U+0008, U+000B, U+000C, U+000E to U+001F, U+FFFE and U+FFFF
abbrev pub is_refused : ℕ → Bool
is_refused c = nat_le c 8 || c == 11 || c == 12 || (nat_le 14 c && nat_le c 31) || c == 0xFFFE || c == 0xFFFF

-- that fault, at that place
abbrev pub fault_at : Code → ℕ → Fault
fault_at code at = record { code = code; at = at }

-- how many bytes stand before the first character that passes
abbrev pub first_place : (ℕ → Bool) → List ℕ → Option ℕ
first_place passes cs = option_map (λ k. byte_count (take k cs)) (position passes cs)

-- the fault of bytes as text: NotUtf8 after the longest front of them that is text, or else BadChar at the first
-- character that is refused
abbrev pub text_fault : List ℕ → Option Fault
text_fault source = if is_utf8 source then option_map (fault_at BadChar) (first_place is_refused (chars source))
    else Some (fault_at NotUtf8 (utf8_valid_len source))

-- a byte order mark in front is passed over
abbrev pub after_mark : List ℕ → List ℕ
after_mark [] = []
after_mark (c ∷ cs) = if c == 0xFEFF then cs else c ∷ cs

-- the places of the braces that are open after a token, the innermost first; at most 256 are open, and a `}` closes the
-- innermost
abbrev pub open_after : List ℕ → TokenSign → ℕ → Answer (List ℕ)
open_after open_at Opens at = if length open_at == 256 then fault TooDeep at else Ok (at ∷ open_at)
open_after [] Closes at = fault Brace at
open_after (inner ∷ outer) Closes at = Ok outer
open_after open_at _ at = Ok open_at

-- the places of the braces that are open after all tokens
abbrev pub open_after_all : List ℕ → List Token → Answer (List ℕ)
open_after_all open_at [] = Ok open_at
open_after_all open_at (t ∷ ts) = open_after open_at t.sign t.at >>= λ still_open. open_after_all still_open ts

-- what is given where no brace is open, and else the fault of the innermost
abbrev pub none_open : {A : Type 0} → A → List ℕ → Answer A
none_open value [] = Ok value
none_open value (inner ∷ outer) = fault Brace inner

-- tokens whose braces balance, or else the first fault among these
abbrev pub balanced : List Token → Answer (List Token)
balanced toks = open_after_all [] toks >>= none_open toks

-- The tokens of a source, or its first fault: its fault as text, or else that among its braces.
pub data Lexes (source : List ℕ) : Answer (List Token) → Type 0 where
  refused : {f : Fault} → text_fault source ≡ Some f → Lexes source (Err f)
  cut : {toks : List Token}
      → text_fault source ≡ None
      → Tokens (length source) (after_mark (chars source)) toks
      → Lexes source (balanced toks)
