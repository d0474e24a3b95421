-- Where faults stand.
use Rattle.std.proofs.Common.{◌≡◌, ℕ, zero, suc, ◌≤◌, Bool, true, false, cond, ltb, ◌==◌, List, [], ◌∷◌, length, take, drop, Option, Some, None, Ok}
use Rattle.std.proofs.Common.{Err, refl, sym, subst, arith}
use Rattle.std.specs.Prelude.{if◌then◌else◌, IfOk, IfErr, IfSome, MatchResult}
use Rattle.std.specs.Option.{option_map}
use Rattle.std.specs.List.{AllByRecursion, position_or_len}
use Rattle.std.specs.Str.{chars, is_utf8, IsUtf8}
use Rattle.std.specs.Str.Lossy.{utf8_valid_len, valid_len_up_to}
use Rattle.std.proofs.lemmas.List.{take-append-drop}
use Rattle.std.proofs.lemmas.Str.{IsUtf8-nil, IsUtf8-from_is_utf8, utf8_valid_len_le}
use Rattle.tk_token.specs.declared.Code.TheVariants.{NotUtf8, BadChar, TooDeep}
use Rattle.tk_token.specs.declared.Fault.{Fault}
use Rattle.tk_token.specs.Answers.{Answer, ◌>>=◌, fault}
use Rattle.tk_token.specs.Token.{TokenSign, A_char, A_word, A_symbol, Opens, Closes, A_param, An_arg, A_space, Token}
use Rattle.tk_token.specs.Cutting.{byte_count}
use Rattle.tk_token.specs.Faults.{is_refused, first_place, fault_at, text_fault, open_after, open_after_all, none_open, balanced, Lexes, refused, cut}
use Rattle.tk_token.proofs.Refused.{text_without_fault}
use Rattle.tk_token.proofs.Starts.{IsStart, front_is_text, starts, ends_mark}

-- a place up to which a source is text
abbrev pub IsTextTo : List ℕ → ℕ → Type 0
IsTextTo source at = (at ≤ length source) × IsUtf8 (take at source)

-- ---- faults of the braces stand at tokens

module _ (P : ℕ → Type 0) where
  -- all open braces are such places, or the fault is one
  abbrev pub Stands : Answer (List ℕ) → Type 0
  Stands answer = MatchResult answer (AllByRecursion P) (λ (f : Fault). P f.at)

  opened : (b : Bool) (open_at : List ℕ) (at : ℕ) → AllByRecursion P open_at → P at → Stands (if b then fault TooDeep at else Ok (at ∷ open_at))
  opened true open_at at h k = k
  opened false open_at at h k = (k, h)

  after_one : (open_at : List ℕ) (sign : TokenSign) (at : ℕ) → AllByRecursion P open_at → P at → Stands (open_after open_at sign at)
  after_one open_at Opens at h k = opened (length open_at == 256) open_at at h k
  after_one [] Closes at h k = k
  after_one (inner ∷ outer) Closes at h k = h.1
  after_one open_at (A_char c) at h k = h
  after_one open_at (A_word w) at h k = h
  after_one open_at (A_symbol c) at h k = h
  after_one open_at A_param at h k = h
  after_one open_at (An_arg n) at h k = h
  after_one open_at A_space at h k = h

  goes_on : (m : Answer (List ℕ)) (f : List ℕ → Answer (List ℕ)) → Stands m → ((x : List ℕ) → AllByRecursion P x → Stands (f x)) → Stands (m >>= f)
  goes_on (Ok x) f h k = k x h
  goes_on (Err e) f h k = h

  after_all : (open_at : List ℕ) (toks : List Token) → AllByRecursion P open_at → AllByRecursion (λ (t : Token). P t.at) toks
      → Stands (open_after_all open_at toks)
  after_all open_at [] h k = h
  after_all open_at (t ∷ ts) h k = goes_on (open_after open_at t.sign t.at) (λ still. open_after_all still ts) (after_one open_at t.sign t.at h k.0)
      (λ still all. after_all still ts all k.1)

  at_the_end : (toks : List Token) (m : Answer (List ℕ)) → Stands m → IfErr (m >>= none_open toks) (λ f. P f.at)
  at_the_end toks (Ok []) h = tt
  at_the_end toks (Ok (inner ∷ outer)) h = h.0
  at_the_end toks (Err e) h = h

  pub brace_stands : (toks : List Token) → AllByRecursion (λ (t : Token). P t.at) toks → IfErr (balanced toks) (λ f. P f.at)
  brace_stands toks h = at_the_end toks (open_after_all [] toks) (after_all [] toks tt h)

-- balanced tokens are those that were given
same_tokens : (Q : List Token → Type 0) (toks : List Token) (m : Answer (List ℕ)) → Q toks → IfOk (m >>= none_open toks) Q
same_tokens Q toks (Ok []) h = h
same_tokens Q toks (Ok (inner ∷ outer)) h = tt
same_tokens Q toks (Err e) h = tt

-- ---- faults as text

valid_front : (bytes : List ℕ) (n : ℕ) → IsUtf8 (take (valid_len_up_to bytes n) bytes)
valid_front bytes zero = IsUtf8-nil
valid_front bytes (suc n) = by_test (is_utf8 (take (suc n) bytes)) refl (valid_front bytes n)
  where
    by_test : (b : Bool) → is_utf8 (take (suc n) bytes) ≡ b → IsUtf8 (take (valid_len_up_to bytes n) bytes)
        → IsUtf8 (take (if b then suc n else valid_len_up_to bytes n) bytes)
    by_test true e h = IsUtf8-from_is_utf8 (take (suc n) bytes) e
    by_test false e h = h

text_to_fault : (bytes : List ℕ) → IsUtf8 (take (utf8_valid_len bytes) bytes)
unfolding utf8_valid_len
text_to_fault bytes = valid_front bytes (length bytes)

-- where a character is, the text before it ends
char_stands : (source : List ℕ) (p : ℕ → Bool) → IsUtf8 source → IfSome (first_place p (chars source)) (IsTextTo source)
char_stands source p utf8 = by_test (ltb (position_or_len p (chars source)) (length (chars source)))
  where
    by_test : (b : Bool)
        → IfSome (option_map (λ n. byte_count (take n (chars source))) (cond b (Some (position_or_len p (chars source))) None)) (IsTextTo source)
    by_test true = front_is_text source utf8 (take (position_or_len p (chars source)) (chars source)) (drop (position_or_len p (chars source))
        (chars source)) (sym (take-append-drop (position_or_len p (chars source)) (chars source)))
    by_test false = tt

pub text_fault_stands : (source : List ℕ) → IfSome (text_fault source) (λ f. IsTextTo source f.at)
text_fault_stands source = by_test (is_utf8 source) refl
  where
    mapped : (o : Option ℕ) → IfSome o (IsTextTo source) → IfSome (option_map (fault_at BadChar) o) (λ f. IsTextTo source f.at)
    mapped None h = tt
    mapped (Some n) h = h

    by_test : (b : Bool) → is_utf8 source ≡ b
        → IfSome (if b then option_map (fault_at BadChar) (first_place is_refused (chars source))
        else Some (fault_at NotUtf8 (utf8_valid_len source))) (λ f. IsTextTo source f.at)
    by_test true e = mapped (first_place is_refused (chars source)) (char_stands source is_refused (IsUtf8-from_is_utf8 source e))
    by_test false e = (utf8_valid_len_le source, text_to_fault source)

-- ---- the laws

text_to_start : (source : List ℕ) (toks : List Token) → AllByRecursion (λ (t : Token). IsStart source t.at) toks
    → AllByRecursion (λ (t : Token). IsTextTo source t.at) toks
text_to_start source [] h = tt
text_to_start source (t ∷ ts) h = ((let k = h.0.0 in omega (arith, k), h.0.1), text_to_start source ts h.1)

-- what stands before a fault is text
pub before_fault : (source : List ℕ) (answer : Answer (List Token)) → Lexes source answer → IfErr answer (λ f. IsTextTo source f.at)
before_fault source answer (refused {f = f} e) = subst (λ (o : Option Fault). IfSome o (λ g. IsTextTo source g.at)) e (text_fault_stands source)
before_fault source answer (cut {toks = toks} e t) =
    brace_stands (IsTextTo source) toks (text_to_start source toks (starts source (text_without_fault source e) t (ends_mark (chars source))))

-- and what stands before a token
pub before_tokens : (source : List ℕ) (answer : Answer (List Token)) → Lexes source answer
    → IfOk answer (λ toks. IsUtf8 source × AllByRecursion (λ (t : Token). IsStart source t.at) toks)
before_tokens source answer (refused e) = tt
before_tokens source answer (cut {toks = toks} e t) =
    same_tokens (λ ts. IsUtf8 source × AllByRecursion (λ (t : Token). IsStart source t.at) ts) toks (open_after_all [] toks)
    (text_without_fault source e, starts source (text_without_fault source e) t (ends_mark (chars source)))
