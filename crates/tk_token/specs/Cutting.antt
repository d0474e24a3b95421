-- How the characters of a source are cut into tokens (Knuth, TeX: The Program, sections 343 to 356, with fixed category
-- codes; the rules for gaps and comments are this project's own).
use Rattle.std.specs.Prelude.{◌≡◌, ◌≢◌, ℕ, ◌-◌, Bool, true, false, ◌&&◌, ◌||◌, not, ◌==◌, nat_le, if◌then◌else◌, List}
use Rattle.std.specs.Prelude.{[], ◌∷◌, length, drop}
use Rattle.std.specs.List.{prefix_len, take_while, after_first}
use Rattle.std.specs.Str.{encode_utf8_all}
use Rattle.tk_characters.specs.Characters.{tab, line_feed, carriage_return, space, hash, percent, backslash, left_brace}
use Rattle.tk_characters.specs.Characters.{right_brace}
use Rattle.tk_token.specs.Token.{TokenSign, A_char, A_word, A_symbol, Opens, Closes, A_param, A_space, Token}
use Rattle.tk_token.specs.Places.{is_line_end}

-- a space or a tab
abbrev pub is_indent : ℕ → Bool
is_indent c = c == space || c == tab

-- a blank is a space, a tab, a CR or an LF
abbrev pub is_blank : ℕ → Bool
is_blank c = is_indent c || c == carriage_return || c == line_feed

-- `a` to `z`, `A` to `Z`
abbrev pub is_letter : ℕ → Bool
is_letter c = (nat_le 97 c && nat_le c 122) || (nat_le 65 c && nat_le c 90)

-- what stands after the characters in front that pass
abbrev pub after_while : (ℕ → Bool) → List ℕ → List ℕ
after_while passes cs = drop (prefix_len passes cs) cs

-- the letters in front
abbrev pub letters_of : List ℕ → List ℕ
letters_of cs = take_while is_letter cs

-- what stands after the word whose letters are in front
abbrev pub after_word : List ℕ → List ℕ
after_word cs = after_while is_letter cs

-- what stands after a comment, of whose characters those behind its `%` are given: it has the end of its line, and the
-- spaces and tabs after that
abbrev pub after_comment : List ℕ → List ℕ
after_comment cs = after_while is_indent (after_first is_line_end cs)

-- what stands after the gap in front, or, inside a comment of it, after what is left of the gap
abbrev pub gap_end : Bool → List ℕ → List ℕ
gap_end in_comment [] = []
gap_end true (c ∷ cs) = gap_end (not (is_line_end c)) cs
gap_end false (c ∷ cs) = if is_blank c then gap_end false cs else (if c == percent then gap_end true cs else c ∷ cs)

-- what stands after the gap in front: blanks and comments, as many as there are
abbrev pub after_gap : List ℕ → List ℕ
after_gap cs = gap_end false cs

-- an LF stands in front
abbrev pub begins_line_feed : List ℕ → Bool
begins_line_feed [] = false
begins_line_feed (c ∷ cs) = c == line_feed

-- a `\` is the control space where this stands after it: a space, a tab, a line end, which is an LF or a CR with an LF
-- directly after it, or nothing
abbrev pub makes_space : List ℕ → Bool
makes_space [] = true
makes_space (c ∷ cs) = is_indent c || c == line_feed || (c == carriage_return && begins_line_feed cs)

-- the sign of a single character: `{`, `}`, `#`, or a character that stands for itself
abbrev pub single : ℕ → TokenSign
single c =
    if c == left_brace then Opens else
    (if c == right_brace then Closes else
    (if c == hash then A_param else A_char c))

-- how many bytes characters have
abbrev pub byte_count : List ℕ → ℕ
byte_count cs = length (encode_utf8_all cs)

-- the token in front of the last characters of a source of n bytes: its place is how many bytes stand before it
abbrev pub token_at : ℕ → List ℕ → TokenSign → Token
token_at n cs sign = record { sign = sign; at = n - byte_count cs }

-- The tokens of the last characters of a source of n bytes.
pub data Tokens (n : ℕ) : List ℕ → List Token → Type 0 where
  -- no characters, no tokens
  ends : Tokens n [] []
  -- a comment that no blank of its gap stands before gives no token
  comment : {cs : List ℕ} {ts : List Token}
      → Tokens n (after_comment cs) ts
      → Tokens n (percent ∷ cs) ts
  -- the first blank of a gap outside its comments is one space; what follows in the gap gives no token
  gap : {c : ℕ} {cs : List ℕ} {ts : List Token}
      → is_blank c ≡ true
      → Tokens n (after_gap cs) ts
      → Tokens n (c ∷ cs) (token_at n (c ∷ cs) A_space ∷ ts)
  -- `\` and letters, as many as there are; the gap after them gives no token
  word : {c : ℕ} {cs : List ℕ} {ts : List Token}
      → is_letter c ≡ true
      → Tokens n (after_gap (after_word (c ∷ cs))) ts
      → Tokens n (backslash ∷ c ∷ cs) (token_at n (backslash ∷ c ∷ cs) (A_word (letters_of (c ∷ cs))) ∷ ts)
  -- `\` before a space, a tab, a line end or the end; the gap after it gives no token
  control_space : {cs : List ℕ} {ts : List Token}
      → makes_space cs ≡ true
      → Tokens n (after_gap cs) ts
      → Tokens n (backslash ∷ cs) (token_at n (backslash ∷ cs) (A_symbol space) ∷ ts)
  -- `\` and any other character
  symbol : {c : ℕ} {cs : List ℕ} {ts : List Token}
      → is_letter c ≡ false
      → makes_space (c ∷ cs) ≡ false
      → Tokens n cs ts
      → Tokens n (backslash ∷ c ∷ cs) (token_at n (backslash ∷ c ∷ cs) (A_symbol c) ∷ ts)
  -- any other character
  other : {c : ℕ} {cs : List ℕ} {ts : List Token}
      → is_blank c ≡ false
      → c ≢ percent
      → c ≢ backslash
      → Tokens n cs ts
      → Tokens n (c ∷ cs) (token_at n (c ∷ cs) (single c) ∷ ts)
