-- The characters that are refused, and bytes that are no text.
use Rattle.std.proofs.Common.{◌≡◌, ℕ, ◌+◌, ◌-◌, ◌<◌, Bool, true, false, cond, ltb, List, [], ◌∷◌, ◌++◌, length, take, Some, None, refl, sym, ap, ◌∙◌}
use Rattle.std.proofs.Common.{arith}
use Rattle.std.specs.Prelude.{if◌then◌else◌}
use Rattle.std.specs.Option.{option_map}
use Rattle.std.specs.List.{position, position_or_len}
use Rattle.std.specs.Str.{chars, is_utf8, IsUtf8, NonePass, encode_utf8_all}
use Rattle.std.specs.Str.Lossy.{utf8_valid_len}
use Rattle.std.proofs.Math.Seq.{take-append_seam}
use Rattle.std.proofs.lemmas.Bool.{lt-ltb}
use Rattle.std.proofs.lemmas.Bool.Decides.{nat_tests}
use Rattle.std.proofs.lemmas.List.{length-append, append-nil}
use Rattle.std.proofs.lemmas.Str.{encodes-append, IsUtf8-from_is_utf8, is_utf8-from_IsUtf8}
use Rattle.tk_token.specs.declared.Code.TheVariants.{NotUtf8, BadChar}
use Rattle.tk_token.specs.Cutting.{byte_count}
use Rattle.tk_token.specs.Faults.{is_refused, first_place, fault_at, text_fault}
use Rattle.tk_token.proofs.TextCharacters.{byte_count_is}

-- one more character that doesn't pass
pub none_more : (p : ℕ → Bool) (front : List ℕ) (c : ℕ) → NonePass p front → p c ≡ false → NonePass p (front ++ c ∷ [])
none_more p [] c none e = (e, tt)
none_more p (f ∷ fs) c none e = (none.0, none_more p fs c none.1 e)

module _ (p : ℕ → Bool) where
  found_at : (front cs : List ℕ) (c : ℕ) → NonePass p front → p c ≡ true → position_or_len p (front ++ c ∷ cs) ≡ length front
  found_at [] cs c none e = rw e refl
  found_at (f ∷ fs) cs c none e = rw (none.0, found_at fs cs c none.1 e) (omega arith)

  found_nowhere : (cs : List ℕ) → NonePass p cs → position_or_len p cs ≡ length cs
  found_nowhere [] none = refl
  found_nowhere (c ∷ cs) none = rw (none.0, found_nowhere cs none.1) (omega arith)

  same_end : (n : ℕ) → cond (ltb n n) (Some n) None ≡ None
  same_end n = by_test (ltb n n) refl
    where
      by_test : (b : Bool) → ltb n n ≡ b → cond b (Some n) None ≡ None
      by_test true e = absurd (grind (arith, nat_tests))
      by_test false e = refl

  -- the first character that passes stands after so many characters
  found_is : (front cs : List ℕ) (c : ℕ) → NonePass p front → p c ≡ true → first_place p (front ++ c ∷ cs) ≡ Some (byte_count front)
  found_is front cs c none e =
      let long : length front < length (front ++ c ∷ cs) = omega (arith, length-append front (c ∷ cs)) in
      let here : position p (front ++ c ∷ cs) ≡ Some (length front) =
      ap (λ (n : ℕ). cond (ltb n (length (front ++ c ∷ cs))) (Some n) None) (found_at front cs c none e)
      ∙ ap (λ (b : Bool). cond b (Some (length front)) None) (lt-ltb (length front) (length (front ++ c ∷ cs)) long) in
      ap (option_map (λ k. byte_count (take k (front ++ c ∷ cs)))) here ∙ ap (λ (w : List ℕ). Some (byte_count w)) (take-append_seam front (c ∷ cs))

  -- and so many bytes
  pub first_found : (text rest front cs : List ℕ) (c : ℕ) → IsUtf8 text → IsUtf8 rest → chars text ≡ front ++ chars rest → chars rest ≡ c ∷ cs
      → NonePass p front → p c ≡ true → Some (length text - length rest) ≡ first_place p (chars text)
  first_found text rest front cs c utf8 rest_utf8 is rest_is none e =
      let bytes : length text ≡ byte_count front + length rest =
      sym (byte_count_is text utf8) ∙ ap byte_count is ∙ ap length (encodes-append front (chars rest)) ∙ length-append (encode_utf8_all front)
      (encode_utf8_all (chars rest)) ∙ ap (λ (n : ℕ). byte_count front + n) (byte_count_is rest rest_utf8) in
      let count : length text - length rest ≡ byte_count front = omega arith in
      ap (λ (n : ℕ). Some n) count ∙ sym (ap (first_place p) (is ∙ ap (λ (r : List ℕ). front ++ r) rest_is) ∙ found_is front cs c none e)

  -- no character passes
  pub none_found : (text front : List ℕ) → chars text ≡ front ++ [] → NonePass p front → None ≡ first_place p (chars text)
  none_found text front is none =
      let all : chars text ≡ front = is ∙ append-nil front in
      let nowhere : position p front ≡ None = ap (λ (n : ℕ). cond (ltb n (length front)) (Some n) None) (found_nowhere front none)
      ∙ same_end (length front) in
      sym (ap (first_place p) all ∙ ap (option_map (λ k. byte_count (take k front))) nowhere)

-- bytes that aren't text fail the test
pub no_text : (bytes : List ℕ) → ¬ (IsUtf8 bytes) → is_utf8 bytes ≡ false
no_text bytes none = by_test (is_utf8 bytes) refl
  where
    by_test : (b : Bool) → is_utf8 bytes ≡ b → b ≡ false
    by_test true e = absurd (none (IsUtf8-from_is_utf8 bytes e))
    by_test false e = refl

pub no_text_fault : (bytes : List ℕ) (n : ℕ) → ¬ (IsUtf8 bytes) → n ≡ utf8_valid_len bytes → text_fault bytes ≡ Some (fault_at NotUtf8 n)
no_text_fault bytes n none is = rw (no_text bytes none) (ap (λ (m : ℕ). Some (fault_at NotUtf8 m)) (sym is))

pub text_fault_is : (bytes : List ℕ) → IsUtf8 bytes → text_fault bytes ≡ option_map (fault_at BadChar) (first_place is_refused (chars bytes))
text_fault_is bytes utf8 = rw (is_utf8-from_IsUtf8 bytes utf8) refl

-- bytes without a fault as text are text
pub text_without_fault : (bytes : List ℕ) → text_fault bytes ≡ None → IsUtf8 bytes
text_without_fault bytes none = by_test (is_utf8 bytes) refl none
  where
    by_test : (b : Bool) → is_utf8 bytes ≡ b
        → (if b then option_map (fault_at BadChar) (first_place is_refused (chars bytes)) else Some (fault_at NotUtf8 (utf8_valid_len bytes))) ≡ None
        → IsUtf8 bytes
    by_test true e h = IsUtf8-from_is_utf8 bytes e
    by_test false e h = absurd cc
