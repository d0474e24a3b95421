-- Tokens by the numbers of their words, from their words as texts.
use Rattle.std.proofs.Common.{◌≡◌, ℕ, List, [], ◌∷◌, map, refl, ap, ◌∙◌}
use Rattle.std.specs.List.{All}
use Rattle.std.proofs.lemmas.List.Elements.{All-head, All-tail}
use Rattle.std.proofs.lemmas.Option.{unwrap_or-slice_get}
use Rattle.tk_token.specs.declared.Kind.{Kind}
use Rattle.tk_token.specs.declared.Kind.TheVariants.{Char, Word, Symbol, Open, Close, Param, Arg, Space}
use Rattle.tk_token.specs.declared.Tok.{Tok}
use Rattle.tk_token.specs.Token.{sign_of, token_of, IsWordIn}
use Rattle.tk_token.specs.Words.{EachOnce, word_number, kind_of, tok_of}
use Rattle.tk_keys.proofs.Words.{number_back}

module _ (names : List (List ℕ)) (once : EachOnce names) where
  kind_back : (k : Kind) → IsWordIn names k → kind_of names (sign_of names k) ≡ k
  kind_back (Char c) h = refl
  kind_back (Word n) h = ap Word (ap (word_number names) (unwrap_or-slice_get names n []) ∙ number_back names once n h)
  kind_back (Symbol c) h = refl
  kind_back Open h = refl
  kind_back Close h = refl
  kind_back Param h = refl
  kind_back (Arg n) h = refl
  kind_back Space h = refl

  -- the numbers of words are told by their texts
  pub numbers_back : (toks : List Tok) → All (λ (t : Tok). IsWordIn names t.kind) toks → map (tok_of names) (map (token_of names) toks) ≡ toks
  numbers_back [] h = refl
  numbers_back (t ∷ ts) h =
      let first : tok_of names (token_of names t) ≡ t = ap (λ (k : Kind). (let u : Tok = record { kind = k; at = t.at } in u))
      (kind_back t.kind (All-head (λ (t : Tok). IsWordIn names t.kind) t ts h)) in
      let more = numbers_back ts (All-tail (λ (t : Tok). IsWordIn names t.kind) t ts h) in
      cc
