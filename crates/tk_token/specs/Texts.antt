-- Texts of tokens, and tokens of texts. Texts are their bytes in UTF-8.
use Rattle.std.specs.Prelude.{ℕ, ◌==◌, if◌then◌else◌, List, [], ◌∷◌, map, Option, Some, None, option_map}
use Rattle.std.specs.Prelude.{option_and_then}
use Rattle.std.specs.Str.{chars, encode_utf8_all}
use Rattle.tk_token.specs.declared.Kind.{Kind}
use Rattle.tk_token.specs.declared.Kind.TheVariants.{Char, Space}
use Rattle.tk_token.specs.declared.Tok.{Tok}
use Rattle.tk_characters.specs.Characters.{space}

-- the character of a token: a Space is a blank, and what is neither a character nor a Space has none
abbrev pub character_of : Kind → Option ℕ
character_of (Char c) = Some c
character_of Space = Some space
character_of _ = None

-- the characters of tokens that all have one
unfoldable pub characters_of : List Tok → Option (List ℕ)
characters_of [] = Some []
characters_of (t ∷ ts) = option_and_then (λ c. option_map (λ cs. c ∷ cs) (characters_of ts)) (character_of t.kind)

-- the text of tokens that are all characters and Spaces
abbrev pub text_in : List Tok → Option (List ℕ)
text_in ts = option_map encode_utf8_all (characters_of ts)

-- the token of a character in a text: a blank is a Space
abbrev pub kind_in_text : ℕ → Kind
kind_in_text c = if c == space then Space else Char c

-- the tokens of a text, all at that place
abbrev pub tokens_of : ℕ → List ℕ → List Tok
tokens_of at text = map (λ c. record { kind = kind_in_text c; at = at }) (chars text)
