-- A source has no more tokens than bytes.
use Rattle.std.proofs.Common.{◌≡◌, ℕ, ◌+◌, ◌≤◌, Bool, false, List, [], ◌∷◌, length, map, Ok, Err, ap, sym, subst, arith}
use Rattle.std.specs.List.{prefix_len}
use Rattle.std.specs.Prelude.{IfOk}
use Rattle.std.specs.Str.{chars, IsUtf8}
use Rattle.std.proofs.lemmas.List.{length-append, length-map}
use Rattle.std.proofs.lemmas.Str.{chars-encodes, length-le-encodes}
use Rattle.tk_token.specs.declared.Tok.{Tok}
use Rattle.tk_token.specs.Answers.{Answer, ◌>>=◌}
use Rattle.tk_token.specs.Cutting.{is_letter, after_gap, after_word, after_comment, Tokens, ends, comment, gap, word}
use Rattle.tk_token.specs.Cutting.{control_space, symbol, other}
use Rattle.tk_token.specs.Faults.{after_mark, open_after_all, none_open, Lexes, refused, cut}
use Rattle.tk_token.specs.Token.{Token, token_of}
use Rattle.tk_token.proofs.Faulty.{before_tokens}
use Rattle.tk_token.proofs.Starts.{Ends, ends_all, ends_drop, ends_gap, ends_comment, ends_mark}

no_longer : (all rest : List ℕ) → Ends all rest → length rest ≤ length all
no_longer all rest (front, is) = omega (arith, ap length is, length-append front rest)

gap_within : (cs : List ℕ) → length (after_gap cs) ≤ length cs
gap_within cs = no_longer cs (after_gap cs) (ends_gap cs false cs (ends_all cs))

counted : {n : ℕ} {cs : List ℕ} {ts : List Token} → Tokens n cs ts → length ts ≤ length cs
counted ends = omega arith
counted (comment {cs = cs} t) =
    let k = no_longer cs (after_comment cs) (ends_comment cs cs (ends_all cs)) in let h = counted t in omega arith
counted (gap {cs = cs} b t) = (let k = gap_within cs in let h = counted t in omega arith)
counted (word {c = c} {cs = cs} b t) =
    let k = no_longer (c ∷ cs) (after_gap (after_word (c ∷ cs))) (ends_gap (c ∷ cs) false (after_word (c ∷ cs)) (ends_drop (c ∷ cs) (c ∷ cs)
    (prefix_len is_letter (c ∷ cs)) (ends_all (c ∷ cs)))) in
    let h = counted t in omega arith
counted (control_space {cs = cs} b t) = (let k = gap_within cs in let h = counted t in omega arith)
counted (symbol a b t) = (let h = counted t in omega arith)
counted (other a b d t) = (let h = counted t in omega arith)

-- a text has no more characters than bytes
chars_within : (bs : List ℕ) → IsUtf8 bs → length (chars bs) ≤ length bs
chars_within bs valid =
    let same : chars bs ≡ valid.0 = rw (← valid.1.1) (chars-encodes valid.0 valid.1.0) in
    let bound = length-le-encodes valid.0 in
    rw (same, ← valid.1.1) bound

closed : (P : List Token → Type 0) (toks : List Token) (m : Answer (List ℕ)) → P toks → IfOk (m >>= none_open toks) P
closed P toks (Ok []) h = h
closed P toks (Ok (inner ∷ outer)) h = tt
closed P toks (Err e) h = tt

few_cut : (source : List ℕ) (answer : Answer (List Token)) → Lexes source answer → IfOk answer (λ toks. length toks ≤ length (chars source))
few_cut source answer (refused e) = tt
few_cut source answer (cut {toks = toks} e t) =
    closed (λ (ts : List Token). length ts ≤ length (chars source)) toks (open_after_all [] toks)
    (let h = counted t in let k = no_longer (chars source) (after_mark (chars source)) (ends_mark (chars source)) in omega arith)

pub few_tokens : (source : List ℕ) (names : List (List ℕ)) (toks : List Tok) → Lexes source (Ok (map (token_of names) toks))
    → length toks ≤ length source
few_tokens source names toks l =
    let h = few_cut source (Ok (map (token_of names) toks)) l in
    let k = chars_within source (before_tokens source (Ok (map (token_of names) toks)) l).0 in
    omega (arith, h, k, length-map toks (token_of names))
