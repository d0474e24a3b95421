-- Runs of characters in front.
use Rattle.std.proofs.Common.{◌≡◌, ℕ, suc, ◌+◌, Bool, true, false, not, List, [], ◌∷◌, ◌++◌, drop, refl, sym, ap, ◌∙◌, arith}
use Rattle.std.specs.List.{position_or_len, after_first}
use Rattle.std.specs.Str.{NonePass}
use Rattle.tk_token.specs.Places.{is_line_end}
use Rattle.tk_token.specs.Cutting.{gap_end}

-- the first character that passes is the first, or comes later
pub first_here : (p : ℕ → Bool) (c : ℕ) (cs : List ℕ) → p c ≡ true → after_first p (c ∷ cs) ≡ cs
first_here p c cs e = rw e refl

pub first_later : (p : ℕ → Bool) (c : ℕ) (cs : List ℕ) → p c ≡ false → after_first p (c ∷ cs) ≡ after_first p cs
first_later p c cs e =
    let more : 1 + position_or_len p cs + 1 ≡ suc (position_or_len p cs + 1) = omega arith in
    rw e (ap (λ (n : ℕ). drop n (c ∷ cs)) more)

-- what stands after the first character that passes
pub first_after : (p : ℕ → Bool) (front cs : List ℕ) (c : ℕ) → NonePass p front → p c ≡ true → after_first p (front ++ c ∷ cs) ≡ cs
first_after p [] cs c none is = first_here p c cs is
first_after p (f ∷ fs) cs c none is = first_later p f (fs ++ c ∷ cs) none.0 ∙ first_after p fs cs c none.1 is

pub first_nowhere : (p : ℕ → Bool) (cs : List ℕ) → NonePass p cs → after_first p cs ≡ []
first_nowhere p [] none = refl
first_nowhere p (c ∷ cs) none = first_later p c cs none.0 ∙ first_nowhere p cs none.1

-- a gap goes on after the line end of a comment
pub gap_in_comment : (cs : List ℕ) → gap_end true cs ≡ gap_end false (after_first is_line_end cs)
gap_in_comment [] = refl
gap_in_comment (c ∷ cs) = by_test (is_line_end c) refl (gap_in_comment cs)
  where
    by_test : (b : Bool) → is_line_end c ≡ b → gap_end true cs ≡ gap_end false (after_first is_line_end cs)
        → gap_end true (c ∷ cs) ≡ gap_end false (after_first is_line_end (c ∷ cs))
    by_test true e h = ap (λ (b : Bool). gap_end (not b) cs) e ∙ ap (gap_end false) (sym (first_here is_line_end c cs e))
    by_test false e h = ap (λ (b : Bool). gap_end (not b) cs) e ∙ h ∙ ap (gap_end false) (sym (first_later is_line_end c cs e))

-- a gap goes on after a comment
pub gap_comment : (cs : List ℕ) → gap_end false (37 ∷ cs) ≡ gap_end false (after_first is_line_end cs)
gap_comment cs = gap_in_comment cs
