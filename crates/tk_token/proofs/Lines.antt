-- The line in which a text ends.
use Rattle.std.proofs.Common.{◌≡◌, Some, None, ◌==◌, ◌≢◌, ℕ, zero, suc, subst, ◌+◌, ◌-◌, ◌≤◌, ◌<◌, true, false, not, List, length, take, drop, get_or}
use Rattle.std.proofs.Common.{sym, ap, ◌∙◌, arith}
use Rattle.std.specs.List.{after_last, suffix_len}
use Rattle.std.specs.Str.{IsUtf8, IsCharBoundary}
use Rattle.std.proofs.lemmas.Bool.Decides.{nat_tests}
use Rattle.std.proofs.lemmas.List.Sums.{suffix_len_is}
use Rattle.std.proofs.lemmas.Str.{IsUtf8-drop, IsCharBoundary-start, IsCharBoundary-after_ascii}
use Rattle.memchr.specs.Find.{IsLastByte, is_byte}
use Rattle.tk_token.proofs.Fronts.{all_taken}
use Rattle.tk_token.specs.Places.{is_line_end}

no_line_end : (c : ℕ) → c ≢ 10 → not (is_line_end c) ≡ true
no_line_end c h = grind (arith, nat_tests)

a_line_end : (c : ℕ) → c ≡ 10 → not (is_line_end c) ≡ false
a_line_end c h = grind (arith, nat_tests)

line_start_is_a_boundary : (text : List ℕ) (start : ℕ) → IsUtf8 text → start ≤ length text → (0 < start → get_or text (start - 1) 0 ≡ 10)
    → IsCharBoundary text start
line_start_is_a_boundary text zero utf8 within before = IsCharBoundary-start text utf8
line_start_is_a_boundary text (suc n) utf8 within before =
    let less : suc n - 1 ≡ n = omega arith in
    let end : get_or text n 0 ≡ 10 = ap (λ (m : ℕ). get_or text m 0) (sym less) ∙ before (omega arith) in
    let more : n + 1 ≡ suc n = omega arith in
    subst (λ (m : ℕ). IsCharBoundary text m) more (IsCharBoundary-after_ascii text n utf8 (omega arith) (omega arith))

module _ (text : List ℕ) (start : ℕ) (within : start ≤ length text) (since : (k : ℕ) → start ≤ k → k < length text → get_or text k 0 ≡ 10 → ⊥) where
  -- what stands after a line end, up to which there is no other
  is_last_line : (0 < start → get_or text (start - 1) 0 ≡ 10) → take (length text - start) (drop start text) ≡ after_last is_line_end text
  is_last_line before =
      let n : suffix_len (λ c. not (is_line_end c)) text ≡ length text - start =
      suffix_len_is (λ c. not (is_line_end c)) text start 0 within (λ k a b. no_line_end (get_or text k 0) (since k a b))
      (λ p. a_line_end (get_or text (start - 1) 0) (before p)) in
      let at : start ≡ length text - suffix_len (λ c. not (is_line_end c)) text = rw n (omega arith) in
      all_taken text start ∙ ap (λ (m : ℕ). drop m text) at

  -- is text
  last_line_is_text : IsUtf8 text → (0 < start → get_or text (start - 1) 0 ≡ 10) → IsUtf8 (take (length text - start) (drop start text))
  last_line_is_text utf8 before = rw (all_taken text start) (IsUtf8-drop text start utf8 (line_start_is_a_boundary text start utf8 within before))

line_end_passes : (c : ℕ) → c ≡ 10 → (c == 10) ≡ true
line_end_passes c h = grind (arith, nat_tests)

passes_line_end : (c : ℕ) → (c == 10) ≡ true → c ≡ 10
passes_line_end c h = grind (arith, nat_tests)

-- what stands after the last line end
module _ (text : List ℕ) (at : ℕ) (last : IsLastByte (is_byte 10) text (Some at)) where
  within : at + 1 ≤ length text
  within = let high = last.0.high in omega arith

  since : (k : ℕ) → at + 1 ≤ k → k < length text → get_or text k 0 ≡ 10 → ⊥
  since k le lt e = last.0.after k le lt (line_end_passes (get_or text k 0) e)

  before : 0 < at + 1 → get_or text (at + 1 - 1) 0 ≡ 10
  before p = let here : at + 1 - 1 ≡ at = omega arith in ap (λ (n : ℕ). get_or text n 0) here ∙ passes_line_end (get_or text at 0) last.1

  pub after_last_is : take (length text - (at + 1)) (drop (at + 1) text) ≡ after_last is_line_end text
  after_last_is = is_last_line text (at + 1) within since before

  pub after_last_is_text : IsUtf8 text → IsUtf8 (take (length text - (at + 1)) (drop (at + 1) text))
  after_last_is_text utf8 = last_line_is_text text (at + 1) within since utf8 before

-- a text without line ends is one line
pub one_line : (text : List ℕ) → IsLastByte (is_byte 10) text None → text ≡ after_last is_line_end text
one_line text none = sym (all_taken text 0) ∙ is_last_line text 0 (omega arith) (λ k le lt e. none k le lt (line_end_passes (get_or text k 0) e))
    (λ p. absurd (omega arith))
