-- One turn of cutting.
use Rattle.std.proofs.Common.{◌≡◌, ℕ, zero, suc, ◌-◌, ◌<◌, List, [], ◌∷◌, ◌++◌, length, map, refl, sym, ap, subst, ◌∙◌, arith, append_assoc}
use Rattle.std.specs.List.{list_all, AllByRecursion, position, position_or_len, slice_get}
use Rattle.std.specs.Prelude.{unwrap_or}
use Rattle.std.proofs.lemmas.List.{length-append, append-nil, map-append}
use Rattle.tk_token.specs.declared.Tok.{Tok}
use Rattle.tk_token.specs.declared.Kind.{Kind}
use Rattle.tk_token.specs.declared.Kind.TheVariants.{Char, Word, Symbol, Open, Close, Param, Arg, Space}
use Rattle.tk_token.specs.Token.{TokenSign, Token, sign_of, token_of, IsWordIn, Extends, A_word}
use Rattle.std.specs.Str.{chars, IsUtf8}
use Rattle.tk_token.specs.Cutting.{token_at, after_comment, Tokens, ends, comment}
use Rattle.tk_token.specs.Pieces.{CutsOne}
use Rattle.tk_token.specs.Words.{with_sign, with_words, words_of}
use Rattle.tk_token.proofs.TextCharacters.{byte_count_is}

-- a word that is there keeps its meaning when words are added
got_same : {A : Type 0} (xs ys : List A) (k : ℕ) → k < length xs → slice_get (xs ++ ys) k ≡ slice_get xs k
got_same [] ys k lt = absurd (omega arith)
got_same (x ∷ xs) ys zero lt = refl
got_same (x ∷ xs) ys (suc k) lt = got_same xs ys k (omega arith)

sign_same : (names words : List (List ℕ)) (kind : Kind) → IsWordIn names kind → sign_of (names ++ words) kind ≡ sign_of names kind
sign_same names words (Char c) h = refl
sign_same names words (Word n) h = ap (λ o. A_word (unwrap_or o [])) (got_same names words n h)
sign_same names words (Symbol c) h = refl
sign_same names words Open h = refl
sign_same names words Close h = refl
sign_same names words Param h = refl
sign_same names words (Arg n) h = refl
sign_same names words Space h = refl

tokens_same : (names words : List (List ℕ)) (toks : List Tok) → AllByRecursion (λ t. IsWordIn names t.kind) toks
    → map (token_of (names ++ words)) toks ≡ map (token_of names) toks
tokens_same names words [] h = refl
tokens_same names words (t ∷ ts) h = ap (λ (s : TokenSign). record { sign = s; at = t.at } ∷ map (token_of (names ++ words)) ts)
    (sign_same names words t.kind h.0) ∙ ap (λ (r : List Token). token_of names t ∷ r) (tokens_same names words ts h.1)

word_kept : (names words : List (List ℕ)) (kind : Kind) → IsWordIn names kind → IsWordIn (names ++ words) kind
word_kept names words (Char c) h = tt
word_kept names words (Word n) h = omega (arith, length-append names words)
word_kept names words (Symbol c) h = tt
word_kept names words Open h = tt
word_kept names words Close h = tt
word_kept names words Param h = tt
word_kept names words (Arg n) h = tt
word_kept names words Space h = tt

pub words_more : (names new : List (List ℕ)) (toks : List Tok) (tok : Tok) → Extends names new → AllByRecursion (λ t. IsWordIn names t.kind) toks
    → IsWordIn new tok.kind → AllByRecursion (λ t. IsWordIn new t.kind) (toks ++ tok ∷ [])
words_more names new [] tok e h w = (w, tt)
words_more names new (t ∷ ts) tok e h w =
    (subst (λ ns. IsWordIn ns t.kind) (sym e.1) (word_kept names e.0 t.kind h.0), words_more names new ts tok e h.1 w)

-- the words of one more token
with_last : (words : List (List ℕ)) (ts : List Token) (t : Token) → with_words words (ts ++ t ∷ []) ≡ with_sign (with_words words ts) t.sign
with_last words [] t = refl
with_last words (u ∷ us) t = with_last (with_sign words u.sign) us t

pub listed_more : (names new : List (List ℕ)) (toks : List Tok) (tok : Tok) → names ≡ words_of (map (token_of names) toks) → Extends names new
    → AllByRecursion (λ t. IsWordIn names t.kind) toks → new ≡ with_sign names (sign_of new tok.kind)
    → new ≡ words_of (map (token_of new) (toks ++ tok ∷ []))
unfolding words_of
listed_more names new toks tok listed more known grown =
    let olds : map (token_of new) toks ≡ map (token_of names) toks = ap (λ (ns : List (List ℕ)). map (token_of ns) toks) more.1
    ∙ tokens_same names more.0 toks known in
    grown
    ∙ ap (λ (ws : List (List ℕ)). with_sign ws (sign_of new tok.kind)) (listed ∙ ap words_of (sym olds))
    ∙ sym (ap words_of (map-append (token_of new) toks (tok ∷ [])) ∙ with_last [] (map (token_of new) toks) (token_of new tok))

-- a piece is cut off the rest of a text, and its token goes last
pub goes_on_more : (n : ℕ) (all : List ℕ) (rest : List ℕ) (behind : List ℕ) (names new : List (List ℕ)) (toks : List Tok) (kind : Kind) (at : ℕ)
    → ((ts : List Token) → Tokens n (chars rest) ts → Tokens n all (map (token_of names) toks ++ ts))
    → AllByRecursion (λ t. IsWordIn names t.kind) toks → Extends names new → CutsOne (chars rest) (sign_of new kind) behind → IsUtf8 rest
    → at ≡ n - length rest → (ts : List Token) → Tokens n behind ts
    → Tokens n all (map (token_of new) (toks ++ record { kind = kind; at = at } ∷ []) ++ ts)
goes_on_more n all rest behind names new toks kind at so known more piece utf8 at_is ts t =
    let place : at ≡ n - length (Rattle.std.specs.Str.encode_utf8_all (chars rest)) = at_is ∙ ap (λ (m : ℕ). n - m) (sym (byte_count_is rest utf8)) in
    let token : Token = token_at n (chars rest) (sign_of new kind) in
    let here : Tokens n all (map (token_of names) toks ++ token ∷ ts) = so (token ∷ ts) (piece.cut n ts t) in
    let olds : map (token_of new) toks ≡ map (token_of names) toks = ap (λ (ns : List (List ℕ)). map (token_of ns) toks) more.1
    ∙ tokens_same names more.0 toks known in
    let last : record { sign = sign_of new kind; at = at } ≡ token = ap (λ (m : ℕ). record { sign = sign_of new kind; at = m }) place in
    let whole : map (token_of new) (toks ++ record { kind = kind; at = at } ∷ []) ++ ts ≡ map (token_of names) toks ++ token ∷ ts =
    ap (λ (w : List Token). w ++ ts) (map-append (token_of new) toks (record { kind = kind; at = at } ∷ []))
    ∙ append_assoc (map (token_of new) toks) (record { sign = sign_of new kind; at = at } ∷ []) ts
    ∙ ap (λ (w : List Token). w ++ record { sign = sign_of new kind; at = at } ∷ ts) olds
    ∙ ap (λ (x : Token). map (token_of names) toks ++ x ∷ ts) last in
    subst (λ (w : List Token). Tokens n all w) (sym whole) here

-- a comment gives no token
pub goes_on_past : (n : ℕ) (all rest : List ℕ) (c : ℕ) (cs behind : List ℕ) (toks : List Token)
    → ((ts : List Token) → Tokens n rest ts → Tokens n all (toks ++ ts)) → rest ≡ c ∷ cs → c ≡ 37 → behind ≡ after_comment cs → (ts : List Token)
    → Tokens n behind ts → Tokens n all (toks ++ ts)
goes_on_past n all rest c cs behind toks so is percent behind_is ts t =
    let whole : rest ≡ 37 ∷ cs = is ∙ ap (λ (d : ℕ). d ∷ cs) percent in
    so ts (subst (λ (r : List ℕ). Tokens n r ts) (sym whole) (comment (subst (λ (r : List ℕ). Tokens n r ts) behind_is t)))

-- where no characters are left, all tokens are there
pub ends_here : (n : ℕ) (all rest : List ℕ) (toks : List Token) → rest ≡ [] → ((ts : List Token) → Tokens n rest ts → Tokens n all (toks ++ ts))
    → Tokens n all toks
ends_here n all rest toks none so =
    subst (λ (w : List Token). Tokens n all w) (append-nil toks) (so [] (subst (λ (r : List ℕ). Tokens n r []) (sym none) ends))
