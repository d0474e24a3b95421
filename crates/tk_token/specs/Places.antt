-- Places: lines and columns, and where tokens run out.
use Rattle.std.specs.Prelude.{ℕ, ◌+◌, ◌==◌, Bool, List, [], ◌∷◌, length, take, count_by}
use Rattle.std.specs.List.{after_last}
use Rattle.std.specs.Str.{chars}
use Rattle.tk_token.specs.declared.Tok.{Tok}
use Rattle.tk_characters.specs.Characters.{line_feed}

-- a line ends with an LF
abbrev pub is_line_end : ℕ → Bool
is_line_end c = c == line_feed

-- the bytes of its line that stand before a place
abbrev pub line_before : List ℕ → ℕ → List ℕ
line_before source at = after_last is_line_end (take at source)

-- a line is one more than the line ends before the place
abbrev pub line_of : List ℕ → ℕ → ℕ
line_of source at = 1 + count_by is_line_end (take at source)

-- a column is one more than the characters of the line before the place
abbrev pub column_of : List ℕ → ℕ → ℕ
column_of source at = 1 + length (chars (line_before source at))

-- where tokens run out: at the last of them, or at that place where there is none
abbrev pub end_of : ℕ → List Tok → ℕ
end_of at [] = at
end_of at (t ∷ ts) = end_of t.at ts
