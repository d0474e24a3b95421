-- The whole part of a length is divided first, and its remainder carried.
use Rattle.std.proofs.Common.{◌≡◌, ℕ, zero, suc, ℤ, pos, negsuc, neg_ℤ, ◌+ℤ◌, ◌*ℤ◌, int_div, unsigned_abs, ◌+◌, ◌*◌, ◌/◌, ◌%◌, ◌^◌, ◌<◌, ◌≤◌, refl}
use Rattle.std.proofs.Common.{sym, ap, ◌∙◌, arith}
use Rattle.std.proofs.Math.Nat.{mul-add-div, div-add-mod, div-le_self, mul-le-mul_right}
use Rattle.std.proofs.lemmas.Int.{ints}
use Rattle.tk_num.specs.Number.{IsWhole, IsFraction, product}

-- with product = quotient * denominator + remainder
carried_parts : (i f num den q r : ℕ) → 0 < den → i * num ≡ den * q + r → 65536 * q + (num * f + 65536 * r) / den ≡ (65536 * i + f) * num / den
carried_parts i f num den q r some e =
    let whole : (65536 * i + f) * num ≡ den * (65536 * q) + (num * f + 65536 * r) = omega (arith, e) in
    sym (ap (λ n. n / den) whole ∙ mul-add-div some (65536 * q) (num * f + 65536 * r))

pub fraction_carried : (i f num den : ℕ) → 0 < den → 65536 * (i * num / den) + (num * f + 65536 * (i * num % den)) / den ≡ (65536 * i + f) * num / den
fraction_carried i f num den some = carried_parts i f num den (i * num / den) (i * num % den) some (sym (div-add-mod (i * num) den))

pub length_fits : (i f num den : ℕ) → i ≤ 1073741823 → f < 65536 → num ≤ 14856 → (65536 * i + f) * num / den < 2 ^ 63
length_fits i f num den whole part few =
    let v : ℕ = 65536 * i + f in
    let most : v * num ≤ 70368744177664 * num = mul-le-mul_right num (omega arith) in
    let self = div-le_self (v * num) den in
    omega (arith, most, self)

-- ---- units of a font

abs_whole : (z : ℤ) → IsWhole z → z ≡ pos (unsigned_abs z)
abs_whole z h = omega (arith, ints, h.0)

abs_fraction : (z : ℤ) → IsFraction z → z ≡ pos (unsigned_abs z)
abs_fraction z h = omega (arith, ints, h.0)

quotient_neg : (n : ℕ) → int_div (neg_ℤ (pos n)) (pos 65536) ≡ neg_ℤ (pos (n / 65536))
quotient_neg zero = refl
quotient_neg (suc n) = refl

neg_sum : (a b : ℕ) → neg_ℤ (pos a) +ℤ neg_ℤ (pos b) ≡ neg_ℤ (pos (a + b))
neg_sum a b = omega (arith, ints)

parts_sum : (i f n : ℕ) → i * n + f * n / 65536 ≡ (65536 * i + f) * n / 65536
parts_sum i f n = omega arith

font_parts : (i f : ℕ) (u : ℤ) → pos i *ℤ u +ℤ int_div (pos f *ℤ u) (pos 65536) ≡ product (pos (65536 * i + f)) u
font_parts i f (pos n) = ap pos (parts_sum i f n)
font_parts i f (negsuc n) =
    ap (λ q. neg_ℤ (pos (i * suc n)) +ℤ q) (quotient_neg (f * suc n))
    ∙ neg_sum (i * suc n) (f * suc n / 65536)
    ∙ ap (λ m. neg_ℤ (pos m)) (parts_sum i f (suc n))
    ∙ sym (quotient_neg ((65536 * i + f) * suc n))

pub font_length : (w f u : ℤ) → IsWhole w → IsFraction f
    → w *ℤ u +ℤ int_div (f *ℤ u) (pos 65536) ≡ product (pos (65536 * unsigned_abs w + unsigned_abs f)) u
font_length w f u h k =
    ap (λ z. z *ℤ u +ℤ int_div (f *ℤ u) (pos 65536)) (abs_whole w h)
    ∙ ap (λ z. pos (unsigned_abs w) *ℤ u +ℤ int_div (z *ℤ u) (pos 65536)) (abs_fraction f k)
    ∙ font_parts (unsigned_abs w) (unsigned_abs f) u
