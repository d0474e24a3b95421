-- Signs that wait are a run of signs in one value.
use Rattle.std.proofs.Common.{◌≡◌, ℕ, zero, suc, Bool, true, false, not, ◌==◌, Ok, Err, ℤ, pos, negsuc, neg_ℤ, unsigned_abs, refl, sym, ap, ◌∙◌}
use Rattle.std.proofs.Math.IntN.{neg_ℤ-neg_ℤ}
use Rattle.tk_expr.specs.declared.operators.Prefix.{Prefix}
use Rattle.tk_expr.specs.declared.operators.Prefix.TheVariants.{Negate, Keep, Not}
use Rattle.tk_expr.specs.declared.operators.Truth.{Truth}
use Rattle.tk_expr.specs.declared.operators.Truth.TheVariants.{Itself, Affirmed, Denied}
use Rattle.tk_expr.specs.declared.operators.Signs.{Signs}
use Rattle.tk_expr.specs.Values.{truth, is_true, prefixed}
use Rattle.tk_expr.specs.Machine.{Found, no_signs, with_prefix, number_behind_signs, signed_found}
use Rattle.tk_expr.proofs.Readings.{prefixed_found}

pub signed_none : (x : Found) → signed_found no_signs x ≡ x
signed_none (Ok v) = refl
signed_none (Err e) = refl

size_negated : (x : ℤ) → unsigned_abs (neg_ℤ x) ≡ unsigned_abs x
size_negated (pos zero) = refl
size_negated (pos (suc n)) = refl
size_negated (negsuc n) = refl

true_negated : (x : ℤ) → is_true (neg_ℤ x) ≡ is_true x
true_negated x = ap (λ (n : ℕ). not (n == 0)) (size_negated x)

truth_is : (b : Bool) → is_true (truth b) ≡ b
truth_is true = refl
truth_is false = refl

not_not : (b : Bool) → not (not b) ≡ b
not_not true = refl
not_not false = refl

-- one more sign further in
sign_more : (sign : Prefix) (negative : Bool) (t : Truth) (x : ℤ)
    → number_behind_signs (with_prefix sign (record { negative = negative; truth = t })) x ≡ number_behind_signs (record { negative = negative; truth = t })
    (prefixed sign x)
sign_more Keep n t x = refl
sign_more Negate true Itself x = sym (neg_ℤ-neg_ℤ x)
sign_more Negate false Itself x = refl
sign_more Negate true Affirmed x = ap (λ (b : Bool). neg_ℤ (truth b)) (sym (true_negated x))
sign_more Negate false Affirmed x = ap (λ (b : Bool). truth b) (sym (true_negated x))
sign_more Negate true Denied x = ap (λ (b : Bool). neg_ℤ (truth (not b))) (sym (true_negated x))
sign_more Negate false Denied x = ap (λ (b : Bool). truth (not b)) (sym (true_negated x))
sign_more Not n Itself x = refl
sign_more Not true Affirmed x = ap (λ (b : Bool). neg_ℤ (truth b)) (sym (truth_is (not (is_true x))))
sign_more Not false Affirmed x = ap (λ (b : Bool). truth b) (sym (truth_is (not (is_true x))))
sign_more Not true Denied x = ap (λ (b : Bool). neg_ℤ (truth b)) (sym (ap not (truth_is (not (is_true x))) ∙ not_not (is_true x)))
sign_more Not false Denied x = ap (λ (b : Bool). truth b) (sym (ap not (truth_is (not (is_true x))) ∙ not_not (is_true x)))

pub signs_more : (sign : Prefix) (s : Signs) (x : Found) → signed_found (with_prefix sign s) x ≡ signed_found s (prefixed_found sign x)
signs_more sign s (Ok v) = ap Ok (sign_more sign s.negative s.truth v)
signs_more sign s (Err e) = refl
