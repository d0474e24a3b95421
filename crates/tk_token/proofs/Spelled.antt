-- The text of tokens, from their front on.
use Rattle.std.proofs.Common.{◌≡◌, ℕ, List, [], ◌∷◌, ◌++◌, Option, Some, None, option_map, option_and_then, refl, sym, ap, ◌∙◌}
use Rattle.std.proofs.lemmas.List.{append_assoc, append-nil}
use Rattle.std.specs.Char.{encode_utf8}
use Rattle.std.specs.Str.{encode_utf8_all}
use Rattle.tk_token.specs.declared.Tok.{Tok}
use Rattle.tk_token.specs.Texts.{character_of, characters_of, text_in}

-- a text with characters behind it
abbrev pub behind : List ℕ → Option (List ℕ) → Option (List ℕ)
behind text found = option_map (λ cs. text ++ encode_utf8_all cs) found

-- at the front is all
pub text_starts : (ts : List Tok) → text_in ts ≡ behind [] (characters_of ts)
text_starts ts = refl

module _ (text : List ℕ) where
  more_is : (c : ℕ) (found : Option (List ℕ)) → behind text (option_map (λ cs. c ∷ cs) found) ≡ behind (text ++ encode_utf8 c) found
  more_is c None = refl
  more_is c (Some cs) = ap Some (sym (append_assoc text (encode_utf8 c) (encode_utf8_all cs)))

  -- a character goes behind the text
  pub one_more : (t : Tok) (ts : List Tok) (c : ℕ) → Some c ≡ character_of t.kind
      → behind text (characters_of (t ∷ ts)) ≡ behind (text ++ encode_utf8 c) (characters_of ts)
  unfolding characters_of
  one_more t ts c is =
      ap (λ o. behind text (option_and_then (λ c. option_map (λ cs. c ∷ cs) (characters_of ts)) o)) (sym is) ∙ more_is c (characters_of ts)

  -- a token without a character leaves no text
  pub no_more : (t : Tok) (ts : List Tok) → None ≡ character_of t.kind → behind text (characters_of (t ∷ ts)) ≡ None
  unfolding characters_of
  no_more t ts is = ap (λ o. behind text (option_and_then (λ c. option_map (λ cs. c ∷ cs) (characters_of ts)) o)) (sym is)

  -- behind the last token stands the whole text
  pub whole : behind text (characters_of []) ≡ Some text
  unfolding characters_of
  whole = ap Some (append-nil text)
