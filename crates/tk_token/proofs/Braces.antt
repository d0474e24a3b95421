-- The braces among tokens.
use Rattle.std.proofs.Common.{◌≡◌, ℕ, suc, ◌+◌, ◌-◌, ◌<◌, ◌≤◌, List, [], ◌∷◌, ◌++◌, length, map, reverse, drop, get_or, Some, None, Ok, Err, ap}
use Rattle.std.proofs.Common.{subst, ◌∙◌, arith}
use Rattle.std.specs.List.{slice_get}
use Rattle.std.specs.Str.{chars}
use Rattle.std.proofs.Math.Seq.{drop-cons}
use Rattle.std.proofs.lemmas.List.{reverse-append, drop_all}
use Rattle.tk_token.specs.declared.Code.TheVariants.{Brace}
use Rattle.tk_token.specs.declared.Fault.{Fault}
use Rattle.tk_token.specs.declared.Tok.{Tok}
use Rattle.tk_token.specs.Answers.{Answer, ◌>>=◌, fault}
use Rattle.tk_token.specs.Token.{Token, token_of, sign_of}
use Rattle.tk_token.specs.Cutting.{Tokens}
use Rattle.tk_token.specs.Faults.{after_mark, open_after, open_after_all, none_open, balanced, text_fault, Lexes, cut}
use Rattle.tk_token.proofs.Answering.{then_is}

-- the last of a list is the first of it the other way round
pub last_reversed : (xs : List ℕ) (x : ℕ) → Some x ≡ slice_get xs (length xs - 1) → (others : List ℕ) × (reverse xs ≡ x ∷ others)
last_reversed [] x e = absurd cc
last_reversed (y ∷ []) x e = ([], cc)
last_reversed (y ∷ z ∷ zs) x e =
    let less : length (y ∷ z ∷ zs) - 1 ≡ suc (length (z ∷ zs) - 1) = omega arith in
    let rest = last_reversed (z ∷ zs) x (e ∙ ap (slice_get (y ∷ z ∷ zs)) less) in
    (rest.0 ++ y ∷ [], reverse-append (y ∷ []) (z ∷ zs) ∙ ap (λ (r : List ℕ). r ++ y ∷ []) rest.1)

module _ (names : List (List ℕ)) (toks : List Tok) (i : ℕ) (d : Tok) (before : List ℕ) (within : i < length toks) where
  -- the token at that place
  abbrev pub tok : Tok
  tok = get_or toks i d

  -- the tokens from a place on
  from_here : map (token_of names) (drop i toks) ≡ token_of names tok ∷ map (token_of names) (drop (i + 1) toks)
  from_here =
      let one : suc i ≡ i + 1 = omega arith in
      ap (map (token_of names)) (drop-cons toks i d within ∙ ap (λ (n : ℕ). tok ∷ drop n toks) one)

  told_here : open_after_all [] (map (token_of names) toks) ≡ open_after_all before (map (token_of names) (drop i toks))
      → open_after_all [] (map (token_of names) toks) ≡ (open_after before (sign_of names tok.kind) tok.at >>= λ (after : List ℕ). open_after_all
      after (map (token_of names) (drop (i + 1) toks)))
  told_here told = told ∙ ap (open_after_all before) from_here

  -- one more token is taken
  pub one_more : (after : List ℕ) → open_after_all [] (map (token_of names) toks) ≡ open_after_all before (map (token_of names) (drop i toks))
      → open_after before (sign_of names tok.kind) tok.at ≡ Ok after
      → open_after_all [] (map (token_of names) toks) ≡ open_after_all after (map (token_of names) (drop (i + 1) toks))
  one_more after told goes =
      told_here told ∙ then_is (open_after before (sign_of names tok.kind) tok.at) (λ (after : List ℕ). open_after_all after
      (map (token_of names) (drop (i + 1) toks))) after goes

  -- or is at fault
  pub one_fails : (f : Fault) → open_after_all [] (map (token_of names) toks) ≡ open_after_all before (map (token_of names) (drop i toks))
      → open_after before (sign_of names tok.kind) tok.at ≡ Err f → balanced (map (token_of names) toks) ≡ Err f
  one_fails f told fails =
      let all : List Token = map (token_of names) toks in
      let on : Answer (List ℕ) → Answer (List ℕ) = λ m. m >>= λ (after : List ℕ). open_after_all after (map (token_of names) (drop (i + 1) toks)) in
      ap (λ (m : Answer (List ℕ)). m >>= none_open all) (told_here told ∙ ap on fails)

-- a brace that is left open
pub left_open : (names : List (List ℕ)) (toks : List Tok) (i : ℕ) (open_at : List ℕ) (at : ℕ) → length toks ≤ i
    → open_after_all [] (map (token_of names) toks) ≡ open_after_all (reverse open_at) (map (token_of names) (drop i toks))
    → Some at ≡ slice_get open_at (length open_at - 1) → balanced (map (token_of names) toks) ≡ fault Brace at
left_open names toks i open_at at done told last =
    let outer = last_reversed open_at at last in
    let all : List Token = map (token_of names) toks in
    let none : map (token_of names) (drop i toks) ≡ [] = ap (map (token_of names)) (drop_all i toks done) in
    let end : open_after_all [] all ≡ Ok (at ∷ outer.0) = told ∙ ap (open_after_all (reverse open_at)) none ∙ ap (λ (r : List ℕ). Ok r) outer.1 in
    ap (λ (m : Answer (List ℕ)). m >>= none_open all) end

-- ---- what a source lexes to

module _ (source text : List ℕ) (toks : List Token) (is : text ≡ source) (none : text_fault source
    ≡ None) (t : Tokens (length text) (after_mark (chars text)) toks) where
  pub lexes_as : (answer : Answer (List Token)) → balanced toks ≡ answer → Lexes source answer
  lexes_as answer so = subst (Lexes source) so (cut none (subst (λ (s : List ℕ). Tokens (length s) (after_mark (chars s)) toks) is t))

  pub lexes_fault : (f : Fault) → balanced toks ≡ Err f → Lexes source (Err f)
  lexes_fault f h = lexes_as (Err f) h
