-- Where tokens stand.
use Rattle.std.proofs.Common.{◌≡◌, ℕ, zero, suc, ◌+◌, ◌-◌, ◌<◌, ◌≤◌, Bool, true, false, not, ◌&&◌, ◌==◌, List, [], ◌∷◌, ◌++◌, length, map, take, drop}
use Rattle.std.proofs.Common.{refl, sym, ap, subst, ◌∙◌, arith, append_assoc}
use Rattle.std.specs.Prelude.{if◌then◌else◌}
use Rattle.std.specs.Char.{encode_utf8}
use Rattle.std.specs.List.{All, AllByRecursion, prefix_len, position_or_len, after_first}
use Rattle.std.specs.Str.{chars, all_scalars, encode_utf8_all, IsUtf8}
use Rattle.std.proofs.Math.Seq.{take-append_seam}
use Rattle.std.proofs.Math.Utf8.{scalar}
use Rattle.std.proofs.lemmas.List.{take-append-drop, length-append}
use Rattle.std.proofs.lemmas.Str.{encodes-append, encodes-chars, scalars-chars, length-encode, len_utf8_bounds}
use Rattle.tk_token.specs.declared.Kind.{Kind}
use Rattle.tk_token.specs.declared.Kind.TheVariants.{Char, Word, Symbol, Open, Close, Param, Arg, Space}
use Rattle.tk_token.specs.declared.Tok.{Tok}
use Rattle.tk_token.specs.Places.{is_line_end}
use Rattle.tk_token.specs.Token.{TokenSign, A_char, Opens, Closes, A_param, An_arg, Token, sign_of, token_of, IsNoArg}
use Rattle.tk_token.specs.Cutting.{is_blank, is_indent, is_letter, after_comment, after_word, gap_end, byte_count, Tokens, ends, comment, gap, word}
use Rattle.tk_token.specs.Cutting.{control_space, symbol, other}
use Rattle.tk_token.specs.Faults.{after_mark}
use Rattle.tk_token.proofs.Ascii.{front_and, back_and}

-- the rest of characters, after some front
abbrev pub Ends : List ℕ → List ℕ → Type 0
Ends all rest = (front : List ℕ) × (all ≡ front ++ rest)

pub ends_all : (all : List ℕ) → Ends all all
ends_all all = ([], refl)

pub ends_drop : (all rest : List ℕ) (k : ℕ) → Ends all rest → Ends all (drop k rest)
ends_drop all rest k (front, is) = (
  front ++ take k rest,
  is ∙ ap (λ (r : List ℕ). front ++ r) (sym (take-append-drop k rest))
      ∙ sym (append_assoc front (take k rest) (drop k rest)),
)

pub ends_tail : (all rest : List ℕ) (c : ℕ) → Ends all (c ∷ rest) → Ends all rest
ends_tail all rest c e = ends_drop all (c ∷ rest) 1 e

pub ends_gap : (all : List ℕ) (in_comment : Bool) (rest : List ℕ) → Ends all rest → Ends all (gap_end in_comment rest)
ends_gap all in_comment [] e = e
ends_gap all true (c ∷ cs) e = ends_gap all (not (is_line_end c)) cs (ends_tail all cs c e)
ends_gap all false (c ∷ cs) e =
    by_test (is_blank c) (c == 37) e (ends_gap all false cs (ends_tail all cs c e)) (ends_gap all true cs (ends_tail all cs c e))
  where
    by_test : (b s : Bool) → Ends all (c ∷ cs) → Ends all (gap_end false cs) → Ends all (gap_end true cs)
        → Ends all (if b then gap_end false cs else (if s then gap_end true cs else c ∷ cs))
    by_test true s e f g = f
    by_test false true e f g = g
    by_test false false e f g = e

pub ends_mark : (all : List ℕ) → Ends all (after_mark all)
ends_mark [] = ends_all []
ends_mark (c ∷ cs) = by_test (c == 0xFEFF)
  where
    by_test : (b : Bool) → Ends (c ∷ cs) (if b then cs else c ∷ cs)
    by_test true = (c ∷ [], refl)
    by_test false = ends_all (c ∷ cs)

pub ends_comment : (all rest : List ℕ) → Ends all rest → Ends all (after_comment rest)
ends_comment all rest e = ends_drop all (after_first is_line_end rest) (prefix_len is_indent (after_first is_line_end rest))
    (ends_drop all rest (position_or_len is_line_end rest + 1) e)

-- a character has a byte at least
pub some_bytes : (c : ℕ) (cs : List ℕ) → 0 < byte_count (c ∷ cs)
some_bytes c cs = omega (arith, length-append (encode_utf8 c) (encode_utf8_all cs), length-encode c, (len_utf8_bounds c).0)

scalars_front : (front rest : List ℕ) → all_scalars (front ++ rest) ≡ true → all_scalars front ≡ true
scalars_front [] rest e = refl
scalars_front (c ∷ cs) rest e = ap (λ (b : Bool). b && all_scalars cs) (front_and (scalar c) (all_scalars (cs ++ rest)) e)
    ∙ scalars_front cs rest (back_and (scalar c) (all_scalars (cs ++ rest)) e)

-- a place in a text at which a character begins
abbrev pub IsStart : List ℕ → ℕ → Type 0
IsStart text at = (at < length text) × IsUtf8 (take at text)

module _ (text : List ℕ) (utf8 : IsUtf8 text) where
  whole : (front rest : List ℕ) → chars text ≡ front ++ rest → text ≡ encode_utf8_all front ++ encode_utf8_all rest
  whole front rest is = sym (encodes-chars text utf8) ∙ ap encode_utf8_all is ∙ encodes-append front rest

  long : (front rest : List ℕ) → chars text ≡ front ++ rest → length text ≡ byte_count front + byte_count rest
  long front rest is = ap length (whole front rest is) ∙ length-append (encode_utf8_all front) (encode_utf8_all rest)

  -- some first characters of a text are text
  pub front_is_text : (front rest : List ℕ) → chars text ≡ front ++ rest → (byte_count front ≤ length text) × IsUtf8 (take (byte_count front) text)
  front_is_text front rest is =
      let before : take (byte_count front) text ≡ encode_utf8_all front = ap (take (byte_count front)) (whole front rest is)
      ∙ take-append_seam (encode_utf8_all front) (encode_utf8_all rest) in
      let scalars : all_scalars front ≡ true = scalars_front front rest (ap all_scalars (sym is) ∙ scalars-chars text utf8) in
      (omega (arith, long front rest is), (front, (scalars, sym before)))

  start_of : (c : ℕ) (cs : List ℕ) → Ends (chars text) (c ∷ cs) → IsStart text (length text - byte_count (c ∷ cs))
  start_of c cs (front, is) =
      let at : length text - byte_count (c ∷ cs) ≡ byte_count front = omega (arith, long front (c ∷ cs) is) in
      (omega (arith, long front (c ∷ cs) is, some_bytes c cs), subst (λ (n : ℕ). IsUtf8 (take n text)) (sym at) (front_is_text front (c ∷ cs) is).1)

  -- each token of a text stands where a character of it begins
  pub starts : {cs : List ℕ} {ts : List Token} → Tokens (length text) cs ts → Ends (chars text) cs → AllByRecursion (λ t. IsStart text t.at) ts
  starts ends e = tt
  starts (comment {cs = cs} t) e = starts t (ends_comment (chars text) cs (ends_tail (chars text) cs 37 e))
  starts (gap {c = c} {cs = cs} b t) e = (start_of c cs e, starts t (ends_gap (chars text) false cs (ends_tail (chars text) cs c e)))
  starts (word {c = c} {cs = cs} l t) e = (
    start_of 92 (c ∷ cs) e,
    starts t (ends_gap (chars text) false (after_word (c ∷ cs)) (ends_drop (chars text) (c ∷ cs)
        (prefix_len is_letter (c ∷ cs)) (ends_tail (chars text) (c ∷ cs) 92 e))),
  )
  starts (control_space {cs = cs} b t) e = (start_of 92 cs e, starts t (ends_gap (chars text) false cs (ends_tail (chars text) cs 92 e)))
  starts (symbol {c = c} {cs = cs} l b t) e = (start_of 92 (c ∷ cs) e, starts t (ends_tail (chars text) cs c (ends_tail (chars text) (c ∷ cs) 92 e)))
  starts (other {c = c} {cs = cs} b ne ne' t) e = (start_of c cs e, starts t (ends_tail (chars text) cs c e))

-- ---- no token is the place of an argument

-- no place of an argument
abbrev pub IsPlain : TokenSign → Type 0
IsPlain (An_arg n) = ⊥
IsPlain _ = Unit {0}

plain_single : (c : ℕ) (a b d : Bool) → IsPlain (if a then Opens else (if b then Closes else (if d then A_param else A_char c)))
plain_single c true b d = tt
plain_single c false true d = tt
plain_single c false false true = tt
plain_single c false false false = tt

all_plain : {n : ℕ} {cs : List ℕ} {ts : List Token} → Tokens n cs ts → AllByRecursion (λ t. IsPlain t.sign) ts
all_plain ends = tt
all_plain (comment t) = all_plain t
all_plain (gap b t) = (tt, all_plain t)
all_plain (word l t) = (tt, all_plain t)
all_plain (control_space b t) = (tt, all_plain t)
all_plain (symbol l b t) = (tt, all_plain t)
all_plain (other {c = c} b ne ne' t) = (plain_single c _ _ _, all_plain t)

no_arg : (names : List (List ℕ)) (kind : Kind) → IsPlain (sign_of names kind) → IsNoArg kind
no_arg names (Char c) h = tt
no_arg names (Word n) h = tt
no_arg names (Symbol c) h = tt
no_arg names Open h = tt
no_arg names Close h = tt
no_arg names Param h = tt
no_arg names (Arg n) h = h
no_arg names Space h = tt

-- what holds of each token with its word as a text holds of each token
module _ (names : List (List ℕ)) (P : Token → Type 0) (Q : Tok → Type 0) (so : (tok : Tok) → P (token_of names tok) → Q tok) where
  each_tok : (toks : List Tok) → AllByRecursion P (map (token_of names) toks) → All Q toks
  each_tok [] h k d lt = absurd (omega arith)
  each_tok (t ∷ ts) h zero d lt = so t h.0
  each_tok (t ∷ ts) h (suc k) d lt = each_tok ts h.1 k d (omega arith)

module _ (names : List (List ℕ)) (text : List ℕ) (toks : List Tok) (cut : Tokens (length text) (after_mark (chars text)) (map (token_of names) toks))
  where
    pub toks_start : IsUtf8 text → All (λ tok. IsStart text tok.at) toks
    toks_start utf8 =
        each_tok names (λ t. IsStart text t.at) (λ tok. IsStart text tok.at) (λ tok h. h) toks (starts text utf8 cut (ends_mark (chars text)))

    pub toks_plain : All (λ tok. IsNoArg tok.kind) toks
    toks_plain = each_tok names (λ t. IsPlain t.sign) (λ tok. IsNoArg tok.kind) (λ tok h. no_arg names tok.kind h) toks (all_plain cut)
