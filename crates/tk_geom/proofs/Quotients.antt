-- How large quotients are.
use Rattle.std.proofs.Common.{◌≡◌, ℕ, zero, suc, ◌/◌, ℤ, pos, negsuc, neg_ℤ, int_div, unsigned_abs, refl}

pub abs_neg : (n : ℕ) → unsigned_abs (neg_ℤ (pos n)) ≡ n
abs_neg zero = refl
abs_neg (suc n) = refl

pub abs_quotient : (z : ℤ) (n : ℕ) → unsigned_abs (int_div z (pos n)) ≡ unsigned_abs z / n
abs_quotient (pos a) n = refl
abs_quotient (negsuc a) n = abs_neg (suc a / n)
