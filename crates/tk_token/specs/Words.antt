-- Lists of words, each word as its bytes.
use Rattle.std.specs.Prelude.{◌≡◌, ℕ, ◌<◌, Bool, List, [], ◌∷◌, ◌++◌, length, if◌then◌else◌}
use Rattle.std.specs.List.{list_any, slice_get, position_or_len}
use Rattle.std.specs.Str.{bytes_eq}
use Rattle.tk_token.specs.declared.Kind.{Kind}
use Rattle.tk_token.specs.declared.Kind.TheVariants.{Char, Word, Symbol, Open, Close, Param, Arg, Space}
use Rattle.tk_token.specs.declared.Tok.{Tok}
use Rattle.tk_token.specs.Token.{TokenSign, A_char, A_word, A_symbol, Opens, Closes, A_param, An_arg, A_space, Token}

-- whether a word is in the list
abbrev pub has_word : List (List ℕ) → List ℕ → Bool
has_word words word = list_any (bytes_eq word) words

-- the list with a word in it: one that isn't there goes last
abbrev pub with_word : List (List ℕ) → List ℕ → List (List ℕ)
with_word words word = if has_word words word then words else words ++ word ∷ []

-- each word stands once: no word is at two places
abbrev pub EachOnce : List (List ℕ) → Type 0
EachOnce words = (m n : ℕ) → m < length words → n < length words → slice_get words m ≡ slice_get words n → m ≡ n

-- ---- the words of tokens

-- the list with the word of a token in it, where it has one
abbrev pub with_sign : List (List ℕ) → TokenSign → List (List ℕ)
with_sign words (A_word word) = with_word words word
with_sign words _ = words

-- the list with the words of tokens in it, in their order
abbrev pub with_words : List (List ℕ) → List Token → List (List ℕ)
with_words words [] = words
with_words words (t ∷ ts) = with_words (with_sign words t.sign) ts

-- the words of tokens, in the order of their first appearance
unfoldable pub words_of : List Token → List (List ℕ)
words_of ts = with_words [] ts

-- the number of a word is its place in the list
abbrev pub word_number : List (List ℕ) → List ℕ → ℕ
word_number words word = position_or_len (bytes_eq word) words

-- what a sign is, where words go by their numbers
abbrev pub kind_of : List (List ℕ) → TokenSign → Kind
kind_of words (A_char c) = Char c
kind_of words (A_word word) = Word (word_number words word)
kind_of words (A_symbol c) = Symbol c
kind_of words Opens = Open
kind_of words Closes = Close
kind_of words A_param = Param
kind_of words (An_arg n) = Arg n
kind_of words A_space = Space

-- a token with its word by its number
abbrev pub tok_of : List (List ℕ) → Token → Tok
tok_of words t = record { kind = kind_of words t.sign; at = t.at }
